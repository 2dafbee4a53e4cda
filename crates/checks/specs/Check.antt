-- The two checks of TS 25.446, clause 5.6.2, as document 01 puts them ("Frame layouts", Checks): what remains of the protected
-- bits, with as many zero bits behind them as the generator's degree, divided over GF(2) by the generator. A polynomial is the
-- number whose binary digit i is the coefficient of D^i; to add two, or to take one from the other, is `bit_xor`. Nothing is preset
-- or inverted. Assumes nothing.
use Rattle.std.specs.Prelude.{List, [], ◌∷◌, ◌++◌, ℕ, zero, suc, ◌+◌, ◌*◌, ◌/◌, ◌%◌, ◌^◌, replicate}
use Rattle.std.specs.Int.Bits.{bit_xor}

-- the quotient's next digit is the coefficient of D^k in x, and that many times the generator g is taken away
abbrev pub take_away : ℕ → ℕ → ℕ → ℕ
take_away g k x = bit_xor x (x / 2 ^ k * g)

-- one step of the long division by g, of degree k: the bit b is brought down to the remainder r
abbrev pub step : ℕ → ℕ → ℕ → ℕ → ℕ
step g k r b = take_away g k (r * 2 + b)

-- what the long division of a row of bits leaves, from the remainder r so far
unfoldable pub divide : ℕ → ℕ → ℕ → List ℕ → ℕ
divide g k r [] = r
divide g k r (b ∷ bs) = divide g k (step g k r b) bs

-- the n low binary digits of x, the most significant first
unfoldable pub low_digits : ℕ → ℕ → List ℕ
low_digits zero x = []
low_digits (suc n) x = (x / 2 ^ n % 2) ∷ low_digits n x

-- the bits of a row of octets, in the order of sending: a_1 is the highest bit of the first octet (5.6.2)
unfoldable pub bits_of : List ℕ → List ℕ
bits_of [] = []
bits_of (x ∷ xs) = low_digits 8 x ++ bits_of xs

-- the check of a row of octets: the parity bits p_1 to p_k (5.6.2), p_1 the most significant
unfoldable pub check : ℕ → ℕ → List ℕ → ℕ
check g k xs = divide g k 0 (bits_of xs ++ replicate k 0)

-- the header check, six bits (5.5.3.10): D^6 + D^5 + D^3 + D^2 + D + 1
abbrev pub header_check : List ℕ → ℕ
header_check = check 0b1101111 6

-- the payload check, ten bits (5.5.3.11): D^10 + D^9 + D^5 + D^4 + D + 1
abbrev pub payload_check : List ℕ → ℕ
payload_check = check 0b11000110011 10
