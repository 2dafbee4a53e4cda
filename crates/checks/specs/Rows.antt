-- What the laws of checking speak of: rows of bits or octets added, and long multiplication. No contract cites this file.
-- Assumes nothing.
use Rattle.std.specs.Prelude.{List, [], ◌∷◌, ◌++◌, ℕ, ◌+◌, ◌*◌, ◌/◌, ◌^◌, ◌<◌}
use Rattle.std.specs.Int.Bits.{bit_xor}
use Rattle.checks.specs.Check.{step, bits_of, low_digits, check}

-- two rows of one length, added place by place
unfoldable pub added : List ℕ → List ℕ → List ℕ
added [] ys = []
added (x ∷ xs) [] = []
added (x ∷ xs) (y ∷ ys) = bit_xor x y ∷ added xs ys

-- what is sent: the bits of the octets, and then the k digits of their check
abbrev pub sent : ℕ → ℕ → List ℕ → List ℕ
sent g k xs = bits_of xs ++ low_digits k (check g k xs)

-- the polynomial whose coefficients are n's and then the row's
unfoldable pub polynomial : ℕ → List ℕ → ℕ
polynomial n [] = n
polynomial n (b ∷ bs) = polynomial (n * 2 + b) bs

-- p followed by the polynomial of the row, times g: long multiplication, a digit of the row at a time
unfoldable pub multiplied : ℕ → ℕ → List ℕ → ℕ
multiplied g p [] = p
multiplied g p (b ∷ bs) = multiplied g (bit_xor (p * 2) (b * g)) bs

-- the digits of the quotient, as the long division finds them
unfoldable pub quotient : ℕ → ℕ → ℕ → List ℕ → List ℕ
quotient g k r [] = []
quotient g k r (b ∷ bs) = ((r * 2 + b) / 2 ^ k) ∷ quotient g k (step g k r b) bs

-- each of the row is a binary digit
pub data Binary : List ℕ → Type 0 where
  none : Binary []
  more : {b : ℕ} {bs : List ℕ} → b < 2 → Binary bs → Binary (b ∷ bs)
