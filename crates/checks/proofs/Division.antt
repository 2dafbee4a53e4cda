-- Division by a generator, over numbers: `feed n r x` brings the n low digits of x down to the remainder r. It is linear, stays
-- below 2^k, takes digits in parts, and what holds of powers of D at 1 holds at every remainder. Assumes nothing.
use mathlib.Core.Path.{◌≡◌, refl, sym, ap, ap₂, ◌∙◌, subst}
use mathlib.Core.List.{List, [], ◌∷◌}
use Prim.Native.Nat.{ℕ, zero, suc, ◌+◌, ◌*◌, ◌/◌, ◌%◌, ◌^◌, ◌<◌}
use native.Mathlib.Nat.{mod-lt, zero-mul, one-mul, zero-add, add_comm, suc-add, mul_comm, mul-add, mul_assoc, pow-suc, div-lt_iff_lt-mul, div-eq_of_lt, lt_of_lt_of_le, div-add-mod', zero-lt-suc, div-one, zero-div, div-le_self, lt_of_le_of_lt, add-mul-div_right, mul-add-mod_self_right}
use native.Mathlib.Numerals.{one-add}
use lib.Arith.{digits_lt, lt-one}
use lib.Pow.{pow_pos, split, shr-shr}
use lib.Bits.{bit_xor, xor_block, xor_shr, xor_mod, xor_lt, xor_self, xor_zero_r}
use Rattle.checks.specs.Check.{take_away, step, divide, low_digits}
use Rattle.checks.specs.Inside.{Generator, feed, powers}
use Rattle.checks.proofs.Sums.{digit, low, xor_four}

half_lt : {x m : ℕ} → x < m * 2 → x / 2 < m
half_lt h = (div-lt_iff_lt-mul (zero-lt-suc 1)).1 h

-- q times a number, where q is 0 or 1
once_lt : (m : ℕ) {q l : ℕ} → l < 2 ^ m → q < 2 → q * l < 2 ^ m
once_lt m {q} {l} hl = digit (λ (q : ℕ). q * l < 2 ^ m) (rw zero-mul (pow_pos m)) (rw one-mul hl)

once_xor : (g : ℕ) {p q : ℕ} → p < 2 → q < 2 → bit_xor p q * g ≡ bit_xor (p * g) (q * g)
once_xor g {p} {q} hp hq =
    digit (λ (p : ℕ). bit_xor p q * g ≡ bit_xor (p * g) (q * g)) (rw zero-mul)
    (digit (λ (q : ℕ). bit_xor 1 q * g ≡ bit_xor (1 * g) (q * g)) (rw zero-mul (sym (xor_zero_r (1 * g))))
    (rw zero-mul (sym (xor_self (1 * g)))) hq) hp

module _ {g k : ℕ} (G : Generator g k) where
  pub top : {x : ℕ} → x < 2 ^ k * 2 → x / 2 ^ k < 2
  top {x} h = (div-lt_iff_lt-mul (pow_pos k)).1 (subst (λ (m : ℕ). x < m) (mul_comm (2 ^ k) 2) h)

  -- the highest low_digits cancel
  away : (x : ℕ) → x < 2 ^ k * 2 → take_away g k x ≡ bit_xor (x % 2 ^ k) (x / 2 ^ k * G.lower)
  away x h =
      let q : ℕ = x / 2 ^ k in
      ap₂ bit_xor (sym (split x k)) (ap (λ (m : ℕ). q * m) G.whole ∙ mul-add q (2 ^ k) G.lower)
      ∙ xor_block k q q (x % 2 ^ k) (q * G.lower) (mod-lt x (pow_pos k)) (once_lt k G.below (top h))
      ∙ ap (λ (m : ℕ). m * 2 ^ k + bit_xor (x % 2 ^ k) (q * G.lower)) (xor_self q)
      ∙ ap (λ (m : ℕ). m + bit_xor (x % 2 ^ k) (q * G.lower)) (zero-mul (2 ^ k)) ∙ zero-add (bit_xor (x % 2 ^ k) (q * G.lower))

  away_lt : (x : ℕ) → x < 2 ^ k * 2 → take_away g k x < 2 ^ k
  away_lt x h = rw (away x h) (xor_lt k (x % 2 ^ k) (x / 2 ^ k * G.lower) (mod-lt x (pow_pos k)) (once_lt k G.below (top h)))

  away_xor : (x y : ℕ) → x < 2 ^ k * 2 → y < 2 ^ k * 2 → take_away g k (bit_xor x y) ≡ bit_xor (take_away g k x) (take_away g k y)
  away_xor x y h i =
      ap (λ (q : ℕ). bit_xor (bit_xor x y) (q * g)) (xor_shr x y k)
      ∙ ap (bit_xor (bit_xor x y)) (once_xor g (top h) (top i))
      ∙ xor_four x y (x / 2 ^ k * g) (y / 2 ^ k * g)

  -- what is small already stays
  away_small : (x : ℕ) → x < 2 ^ k → take_away g k x ≡ x
  away_small x h = ap (λ (q : ℕ). bit_xor x (q * g)) (div-eq_of_lt h) ∙ ap (bit_xor x) (zero-mul g) ∙ xor_zero_r x

  pub step_lt : {r b : ℕ} → r < 2 ^ k → b < 2 → step g k r b < 2 ^ k
  step_lt {r} {b} h i = away_lt (r * 2 + b) (digits_lt h i)

  pub step_xor : (r s b c : ℕ) → r < 2 ^ k → s < 2 ^ k → b < 2 → c < 2
      → step g k (bit_xor r s) (bit_xor b c) ≡ bit_xor (step g k r b) (step g k s c)
  step_xor r s b c hr hs hb hc =
      ap (take_away g k) (sym (xor_block 1 r s b c hb hc))
      ∙ away_xor (r * 2 + b) (s * 2 + c) (digits_lt hr hb) (digits_lt hs hc)

  pub feed_lt : (n r x : ℕ) → r < 2 ^ k → feed g k n r x < 2 ^ k
  unfolding divide low_digits
  feed_lt zero r x h = h
  feed_lt (suc n) r x h = feed_lt n (step g k r (x / 2 ^ n % 2)) x (step_lt h (low (x / 2 ^ n)))

  pub feed_xor : (n r s x y : ℕ) → r < 2 ^ k → s < 2 ^ k
      → feed g k n (bit_xor r s) (bit_xor x y) ≡ bit_xor (feed g k n r x) (feed g k n s y)
  unfolding divide low_digits
  feed_xor zero r s x y hr hs = refl
  feed_xor (suc n) r s x y hr hs =
      ap (λ (b : ℕ). feed g k n (step g k (bit_xor r s) b) (bit_xor x y)) (ap (λ (m : ℕ). m % 2) (xor_shr x y n) ∙ xor_mod (x / 2 ^ n) (y / 2 ^ n) 1)
      ∙ ap (λ (m : ℕ). feed g k n m (bit_xor x y)) (step_xor r s (x / 2 ^ n % 2) (y / 2 ^ n % 2) hr hs (low (x / 2 ^ n)) (low (y / 2 ^ n)))
      ∙ feed_xor n (step g k r (x / 2 ^ n % 2)) (step g k s (y / 2 ^ n % 2)) x y (step_lt hr (low (x / 2 ^ n))) (step_lt hs (low (y / 2 ^ n)))

  -- the remainder so far and what is fed, apart
  pub feed_apart : (n r x : ℕ) → r < 2 ^ k → feed g k n r x ≡ bit_xor (feed g k n r 0) (feed g k n 0 x)
  feed_apart n r x h = ap (λ (m : ℕ). feed g k n m x) (sym (xor_zero_r r)) ∙ feed_xor n r 0 0 x h (pow_pos k)

  -- in two parts
  pub feed_split : (m n r x : ℕ) → feed g k (m + n) r x ≡ feed g k n (feed g k m r (x / 2 ^ n)) x
  unfolding divide low_digits
  feed_split zero n r x = ap (λ (m : ℕ). feed g k m r x) (zero-add n)
  feed_split (suc m) n r x =
      ap (λ (j : ℕ). feed g k j r x) (suc-add m n)
      ∙ feed_split m n (step g k r (x / 2 ^ (m + n) % 2)) x
      ∙ ap (λ (b : ℕ). feed g k n (feed g k m (step g k r (b % 2)) (x / 2 ^ n)) x)
      (ap (λ (j : ℕ). x / 2 ^ j) (add_comm m n) ∙ sym (shr-shr x n m))

  pub feed_zeros : (m n r : ℕ) → feed g k (m + n) r 0 ≡ feed g k n (feed g k m r 0) 0
  feed_zeros m n r = feed_split m n r 0 ∙ ap (λ (x : ℕ). feed g k n (feed g k m r x) 0) (zero-div (2 ^ n))

  -- the last digit
  pub feed_last : (n r x : ℕ) → feed g k (suc n) r x ≡ step g k (feed g k n r (x / 2)) (x % 2)
  unfolding divide low_digits
  feed_last zero r x = ap (λ (m : ℕ). step g k r (m % 2)) (div-one x)
  feed_last (suc n) r x =
      feed_last n (step g k r (x / 2 ^ suc n % 2)) x
      ∙ ap (λ (b : ℕ). step g k (feed g k n (step g k r (b % 2)) (x / 2)) (x % 2))
      (ap (λ (j : ℕ). x / 2 ^ j) (sym (one-add n)) ∙ sym (shr-shr x 1 n))

  -- low_digits above the n low ones do not count
  pub feed_low : (n r a x : ℕ) → feed g k n r (a * 2 ^ n + x) ≡ feed g k n r x
  unfolding divide low_digits
  feed_low zero r a x = refl
  feed_low (suc n) r a x =
      let e : a * 2 ^ suc n + x ≡ a * 2 * 2 ^ n + x = ap (λ (m : ℕ). m + x) (ap (λ (m : ℕ). a * m) (pow-suc 2 n ∙ mul_comm (2 ^ n) 2) ∙ sym (mul_assoc a 2 (2 ^ n))) in
      ap (λ (m : ℕ). feed g k n (step g k r (m / 2 ^ n % 2)) m) e
      ∙ feed_low n (step g k r ((a * 2 * 2 ^ n + x) / 2 ^ n % 2)) (a * 2) x
      ∙ ap (λ (m : ℕ). feed g k n (step g k r (m % 2)) x)
      (ap (λ (m : ℕ). m / 2 ^ n) (add_comm (a * 2 * 2 ^ n) x) ∙ add-mul-div_right x (a * 2) (pow_pos n) ∙ add_comm (x / 2 ^ n) (a * 2))
      ∙ ap (λ (m : ℕ). feed g k n (step g k r m) x) (mul-add-mod_self_right a 2 (x / 2 ^ n))

  -- a number that is small already is its own remainder
  pub feed_small : (n x : ℕ) → x < 2 ^ n → x < 2 ^ k → feed g k n 0 x ≡ x
  unfolding divide low_digits
  feed_small zero x h i = sym (lt-one h)
  feed_small (suc n) x h i =
      feed_last n 0 x
      ∙ ap (λ (r : ℕ). step g k r (x % 2)) (feed_small n (x / 2) (half_lt (subst (λ (m : ℕ). x < m) (pow-suc 2 n) h)) (lt_of_le_of_lt (div-le_self x 2) i))
      ∙ ap (take_away g k) (div-add-mod' x 2)
      ∙ away_small x i

  -- the order of two multiplications by powers of D
  pub feed_swap : (m n r : ℕ) → feed g k m (feed g k n r 0) 0 ≡ feed g k n (feed g k m r 0) 0
  feed_swap m n r = sym (feed_zeros n m r) ∙ ap (λ (j : ℕ). feed g k j r 0) (add_comm n m) ∙ feed_zeros m n r

  feed_zero : (n : ℕ) → feed g k n 0 0 ≡ 0
  feed_zero n = feed_small n 0 (pow_pos n) (pow_pos k)

  powers_zero : (es : List ℕ) → powers g k es 0 ≡ 0
  powers_zero [] = refl
  powers_zero (e ∷ es) = ap₂ bit_xor (feed_zero e) (powers_zero es)

  -- what one more digit adds to the remainder
  step_apart : (r b : ℕ) → r < 2 ^ k → b < 2 → b < 2 ^ k → step g k r b ≡ bit_xor (feed g k 1 r 0) b
  unfolding divide low_digits
  step_apart r b hr hb hk =
      ap (λ (m : ℕ). step g k m b) (sym (xor_zero_r r))
      ∙ step_xor r 0 0 b hr (pow_pos k) (zero-lt-suc 1) hb
      ∙ ap (bit_xor (step g k r 0)) (ap (take_away g k) (ap (λ (m : ℕ). m + b) (zero-mul 2) ∙ zero-add b) ∙ away_small b hk)

  -- a sum of powers of D, given by their exponents, times r
  pub powers_lt : (es : List ℕ) (r : ℕ) → r < 2 ^ k → powers g k es r < 2 ^ k
  powers_lt [] r h = pow_pos k
  powers_lt (e ∷ es) r h = xor_lt k (feed g k e r 0) (powers g k es r) (feed_lt e r 0 h) (powers_lt es r h)

  powers_xor : (es : List ℕ) (r s : ℕ) → r < 2 ^ k → s < 2 ^ k → powers g k es (bit_xor r s) ≡ bit_xor (powers g k es r) (powers g k es s)
  powers_xor [] r s hr hs = refl
  powers_xor (e ∷ es) r s hr hs =
      ap₂ bit_xor (feed_xor e r s 0 0 hr hs) (powers_xor es r s hr hs)
      ∙ xor_four (feed g k e r 0) (feed g k e s 0) (powers g k es r) (powers g k es s)

  powers_swap : (es : List ℕ) (n r : ℕ) → r < 2 ^ k → powers g k es (feed g k n r 0) ≡ feed g k n (powers g k es r) 0
  powers_swap [] n r h = sym (feed_zero n)
  powers_swap (e ∷ es) n r h =
      ap₂ bit_xor (feed_swap e n r) (powers_swap es n r h)
      ∙ sym (feed_xor n (feed g k e r 0) (powers g k es r) 0 0 (feed_lt e r 0 h) (powers_lt es r h))

  -- two sums of powers of D with the same remainder are the same at every remainder
  module _ (es fs : List ℕ) (same : powers g k es 1 ≡ powers g k fs 1) where
    at_digit : {b : ℕ} → b < 2 → powers g k es b ≡ powers g k fs b
    at_digit = digit (λ (b : ℕ). powers g k es b ≡ powers g k fs b) (powers_zero es ∙ sym (powers_zero fs)) same

    at_fed : (n x : ℕ) → powers g k es (feed g k n 0 x) ≡ powers g k fs (feed g k n 0 x)
    unfolding divide low_digits
    at_fed zero x = powers_zero es ∙ sym (powers_zero fs)
    at_fed (suc n) x =
        let r : ℕ = feed g k n 0 (x / 2) in
        let hr : r < 2 ^ k = feed_lt n 0 (x / 2) (pow_pos k) in
        let hb : x % 2 < 2 ^ k = lt_of_lt_of_le (low x) G.degree in
        let e : feed g k (suc n) 0 x ≡ bit_xor (feed g k 1 r 0) (x % 2) = feed_last n 0 x ∙ step_apart r (x % 2) hr (low x) hb in
        let h1 : feed g k 1 r 0 < 2 ^ k = feed_lt 1 r 0 hr in
        ap (powers g k es) e ∙ powers_xor es (feed g k 1 r 0) (x % 2) h1 hb
        ∙ ap₂ bit_xor (powers_swap es 1 r hr ∙ ap (λ (m : ℕ). feed g k 1 m 0) (at_fed n (x / 2)) ∙ sym (powers_swap fs 1 r hr)) (at_digit (low x))
        ∙ sym (ap (powers g k fs) e ∙ powers_xor fs (feed g k 1 r 0) (x % 2) h1 hb)

    pub agree : (r : ℕ) → r < 2 ^ k → powers g k es r ≡ powers g k fs r
    agree r h = subst (λ (m : ℕ). powers g k es m ≡ powers g k fs m) (feed_small k r h h) (at_fed k r)
