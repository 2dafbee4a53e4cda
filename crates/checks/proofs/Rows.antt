-- Rows of octets: what they leave, octet after octet and field after field, and the check as what is left with k zeros behind.
-- Assumes nothing.
use mathlib.Core.Path.{◌≡◌, refl, sym, ap, ap₂, ◌∙◌, subst}
use mathlib.Core.List.{List, [], ◌∷◌, ◌++◌}
use Prim.Native.Nat.{ℕ, zero, suc, ◌%◌, ◌^◌, ◌<◌}
use native.Mathlib.Nat.{zero-div}
use native.Mathlib.Omega.{arith}
use lib.Pow.{pow_pos}
use lib.ListN.{length, take, get_or, replicate}
use lib.Seq.{take-suc, take-length}
use Rattle.checks.specs.Check.{divide, step, low_digits, bits_of, check}
use Rattle.checks.specs.Inside.{Generator, feed, passed}
use Rattle.checks.proofs.Division.{feed_lt, feed_small}

-- the octets xs brought down to the remainder r
abbrev pub run : ℕ → ℕ → ℕ → List ℕ → ℕ
run g k r xs = divide g k r (bits_of xs)

pub divide_append : (g k r : ℕ) (bs cs : List ℕ) → divide g k r (bs ++ cs) ≡ divide g k (divide g k r bs) cs
unfolding divide
divide_append g k r [] cs = refl
divide_append g k r (b ∷ bs) cs = divide_append g k (step g k r b) bs cs

zeros : (n : ℕ) → low_digits n 0 ≡ replicate n 0
unfolding low_digits
zeros zero = refl
zeros (suc n) = ap₂ ◌∷◌ (ap (λ (m : ℕ). m % 2) (zero-div (2 ^ n))) (zeros n)

pub run_cons : (g k r x : ℕ) (xs : List ℕ) → run g k r (x ∷ xs) ≡ run g k (feed g k 8 r x) xs
unfolding bits_of
run_cons g k r x xs = divide_append g k r (low_digits 8 x) (bits_of xs)

pub run_nil : (g k r : ℕ) → run g k r [] ≡ r
unfolding bits_of divide
run_nil g k r = refl

run_append : (g k r : ℕ) (xs ys : List ℕ) → run g k r (xs ++ ys) ≡ run g k (run g k r xs) ys
run_append g k r [] ys = ap (λ (m : ℕ). run g k m ys) (sym (run_nil g k r))
run_append g k r (x ∷ xs) ys =
    run_cons g k r x (xs ++ ys) ∙ run_append g k (feed g k 8 r x) xs ys ∙ ap (λ (m : ℕ). run g k m ys) (sym (run_cons g k r x xs))

run_snoc : (g k r : ℕ) (xs : List ℕ) (x : ℕ) → run g k r (xs ++ x ∷ []) ≡ feed g k 8 (run g k r xs) x
run_snoc g k r xs x =
    run_append g k r xs (x ∷ []) ∙ run_cons g k (run g k r xs) x [] ∙ run_nil g k (feed g k 8 (run g k r xs) x)

-- the check is what is left with k zeros behind
pub check_run : (g k : ℕ) (xs : List ℕ) → check g k xs ≡ feed g k k (run g k 0 xs) 0
unfolding check
check_run g k xs = divide_append g k 0 (bits_of xs) (replicate k 0) ∙ ap (divide g k (run g k 0 xs)) (sym (zeros k))

pub check_passed : (g k : ℕ) (s : List ℕ) → feed g k k (passed g k s (length s)) 0 ≡ check g k s
check_passed g k s = ap (λ (t : List ℕ). feed g k k (run g k 0 t) 0) (take-length s) ∙ sym (check_run g k s)

-- one octet more
pub passed_next : (g k : ℕ) (s : List ℕ) (i : ℕ) → i < length s → passed g k s (suc i) ≡ feed g k 8 (passed g k s i) (get_or s i 0)
passed_next g k s i h = ap (λ (t : List ℕ). run g k 0 t) (take-suc s i 0 h) ∙ run_snoc g k 0 (take i s) (get_or s i 0)

module _ {g k : ℕ} (G : Generator g k) where
  pub run_lt : (r : ℕ) (xs : List ℕ) → r < 2 ^ k → run g k r xs < 2 ^ k
  run_lt r [] h = subst (λ (m : ℕ). m < 2 ^ k) (sym (run_nil g k r)) h
  run_lt r (x ∷ xs) h =
      subst (λ (m : ℕ). m < 2 ^ k) (sym (run_cons g k r x xs)) (run_lt (feed g k 8 r x) xs (feed_lt G 8 r x h))

  pub check_lt : (xs : List ℕ) → check g k xs < 2 ^ k
  check_lt xs =
      subst (λ (m : ℕ). m < 2 ^ k) (sym (check_run g k xs)) (feed_lt G k (run g k 0 xs) 0 (run_lt 0 xs (pow_pos k)))

  -- of no octets
  pub check_none : (xs : List ℕ) → length xs ≡ 0 → 0 ≡ check g k xs
  check_none [] h =
      sym (check_run g k [] ∙ ap (λ (m : ℕ). feed g k k m 0) (run_nil g k 0) ∙ feed_small G k 0 (pow_pos k) (pow_pos k))
  check_none (x ∷ xs) h = absurd (omega arith)
