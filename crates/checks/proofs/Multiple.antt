-- The wording of clause 5.6.2, for every generator: a row followed by its check leaves nothing, which no other parity bits do, and
-- so is a multiple of the generator. Assumes nothing.
use mathlib.Core.Path.{◌≡◌, refl, sym, ap, ap₂, ◌∙◌}
use mathlib.Core.List.{List, [], ◌∷◌, ◌++◌}
use Prim.Native.Nat.{ℕ, zero, suc, ◌+◌, ◌*◌, ◌/◌, ◌^◌, ◌<◌}
use native.Mathlib.Nat.{zero-lt-suc, add-zero}
use lib.Pow.{pow_pos}
use lib.Bits.{bit_xor, xor_self, xor_zero_r, xor_comm, xor_block, xor_assoc}
use Rattle.checks.specs.Check.{check, divide, low_digits, bits_of, step}
use Rattle.checks.specs.Inside.{Generator}
use Rattle.checks.specs.Rows.{sent, polynomial, multiplied, quotient, Binary, none, more}
use Rattle.checks.proofs.Sums.{low}
use Rattle.checks.proofs.Division.{feed_apart, feed_small}
use Rattle.checks.proofs.Rows.{run, run_lt, check_run, check_lt, divide_append}

-- the long division is right, whatever g is: the row is the quotient times g, plus the remainder
pub division : (g k p r n : ℕ) (bs : List ℕ) → Binary bs → n ≡ bit_xor p r
    → polynomial n bs ≡ bit_xor (multiplied g p (quotient g k r bs)) (divide g k r bs)
unfolding polynomial multiplied quotient divide
division g k p r n [] none e = e
division g k p r n (b ∷ bs) (more hb h) e =
    let x : ℕ = r * 2 + b in
    let y : ℕ = x / 2 ^ k * g in
    division g k (bit_xor (p * 2) y) (step g k r b) (n * 2 + b) bs h
    (ap (λ (m : ℕ). m * 2 + b) e
    ∙ sym (xor_block 1 p r 0 b (zero-lt-suc 1) hb)
    ∙ ap (λ (m : ℕ). bit_xor m x) (add-zero (p * 2))
    ∙ ap (bit_xor (p * 2)) (sym (ap (bit_xor y) (xor_comm x y) ∙ sym (xor_assoc y y x) ∙ ap (λ (m : ℕ). bit_xor m x) (xor_self y)))
    ∙ sym (xor_assoc (p * 2) y (bit_xor x y)))

pub digits_binary : (n x : ℕ) → Binary (low_digits n x)
unfolding low_digits
digits_binary zero x = none
digits_binary (suc n) x = more (low (x / 2 ^ n)) (digits_binary n x)

pub append_binary : {cs bs : List ℕ} → Binary cs → Binary bs → Binary (cs ++ bs)
append_binary none h = h
append_binary (more b c) h = more b (append_binary c h)

pub bits_binary : (xs : List ℕ) → Binary (bits_of xs)
unfolding bits_of
bits_binary [] = none
bits_binary (x ∷ xs) = append_binary (digits_binary 8 x) (bits_binary xs)

module _ {g k : ℕ} (G : Generator g k) where
  -- a row followed by the k digits of c leaves the sum of its check and c
  followed : (xs : List ℕ) (c : ℕ) → c < 2 ^ k → divide g k 0 (bits_of xs ++ low_digits k c) ≡ bit_xor (check g k xs) c
  followed xs c h =
      divide_append g k 0 (bits_of xs) (low_digits k c)
      ∙ feed_apart G k (run g k 0 xs) c (run_lt G 0 xs (pow_pos k))
      ∙ ap₂ bit_xor (sym (check_run g k xs)) (feed_small G k c h h)

  pub nothing_left : (xs : List ℕ) → divide g k 0 (sent g k xs) ≡ 0
  nothing_left xs = followed xs (check g k xs) (check_lt G xs) ∙ xor_self (check g k xs)

  -- the check is the only row of k bits behind which nothing is left
  pub only_check : (xs : List ℕ) (c : ℕ) → c < 2 ^ k → divide g k 0 (bits_of xs ++ low_digits k c) ≡ 0 → c ≡ check g k xs
  only_check xs c h e =
      let d : ℕ = check g k xs in
      ap (λ (m : ℕ). bit_xor m c) (sym (xor_self d))
      ∙ xor_assoc d d c
      ∙ ap (bit_xor d) (sym (followed xs c h) ∙ e)
      ∙ xor_zero_r d

  pub multiple : (xs : List ℕ) → polynomial 0 (sent g k xs) ≡ multiplied g 0 (quotient g k 0 (sent g k xs))
  multiple xs =
      let bs : List ℕ = sent g k xs in
      division g k 0 0 0 bs (append_binary (bits_binary xs) (digits_binary k (check g k xs))) refl
      ∙ ap (bit_xor (multiplied g 0 (quotient g k 0 bs))) (nothing_left xs)
      ∙ xor_zero_r (multiplied g 0 (quotient g k 0 bs))
