-- Sums of polynomials: what `lib.Bits` does not say of `bit_xor`. Assumes nothing.
use mathlib.Core.Path.{◌≡◌, sym, ap, ◌∙◌}
use Prim.Native.Nat.{ℕ, zero, suc, ◌%◌, ◌<◌}
use native.Mathlib.Nat.{mod-lt, le_of_suc-le-suc, not-suc-le-zero, zero-lt-suc}
use lib.Bits.{bit_xor, xor_assoc, xor_comm, xor_zero_r}

-- a fact of every binary digit is a fact of 0 and of 1
pub digit {ℓ} : (P : ℕ → Type ℓ) → P 0 → P 1 → {b : ℕ} → b < 2 → P b
digit P p q {b = zero} h = p
digit P p q {b = suc zero} h = q
digit P p q {b = suc (suc b)} h = absurd (not-suc-le-zero (le_of_suc-le-suc (le_of_suc-le-suc h)))

pub low : (a : ℕ) → a % 2 < 2
low a = mod-lt a (zero-lt-suc 1)

-- two sums, in the other order
pub xor_four : (a b c d : ℕ) → bit_xor (bit_xor a b) (bit_xor c d) ≡ bit_xor (bit_xor a c) (bit_xor b d)
xor_four a b c d =
    xor_assoc a b (bit_xor c d)
    ∙ ap (bit_xor a) (sym (xor_assoc b c d) ∙ ap (λ (x : ℕ). bit_xor x d) (xor_comm b c) ∙ xor_assoc c b d)
    ∙ sym (xor_assoc a c (bit_xor b d))

-- a sum of three, as a list of three ends in 0
pub three : (a b c : ℕ) → bit_xor a (bit_xor b c) ≡ bit_xor a (bit_xor b (bit_xor c 0))
three a b c = ap (λ (m : ℕ). bit_xor a (bit_xor b m)) (sym (xor_zero_r c))
