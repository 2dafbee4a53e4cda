-- What the inner functions promise one another, for every generator that has a short sum of powers of D. No public contract
-- cites this file. Assumes nothing.
use Rattle.std.specs.Prelude.{◌≡◌, List, [], ◌∷◌, ℕ, ◌+◌, ◌*◌, ◌%◌, ◌^◌, ◌≤◌, ◌<◌, take}
use Rattle.std.specs.List.{slice_index}
use Rattle.std.specs.Int.Bits.{bit_xor}
use Rattle.checks.specs.Exponents.{exponents}
use Rattle.checks.specs.Check.{divide, low_digits, bits_of}
use Rattle.checks.specs.declared.powers.Power.{Power}

-- g is a generator of degree k: D^k and some lower terms
pub record Generator (g k : ℕ) : Type 0 where
  pub lower : ℕ
  pub whole : g ≡ 2 ^ k + lower
  pub below : lower < 2 ^ k
  pub degree : 1 < 2 ^ k

-- r times D^n plus the n low digits of x, divided
abbrev pub feed : ℕ → ℕ → ℕ → ℕ → ℕ → ℕ
feed g k n r x = divide g k r (low_digits n x)

-- what a word of 64 digits leaves
abbrev pub leaves : ℕ → ℕ → ℕ → ℕ
leaves g k x = feed g k 64 0 x

-- what the first i octets of s leave
abbrev pub passed : ℕ → ℕ → List ℕ → ℕ → ℕ
passed g k s i = divide g k 0 (bits_of (take i s))

-- r times the sum of the powers of D with the exponents es, divided
abbrev pub powers : ℕ → ℕ → List ℕ → ℕ → ℕ
powers g k [] r = 0
powers g k (e ∷ es) r = bit_xor (feed g k e r 0) (powers g k es r)

-- D^n leaves what the sum of the powers es leaves
abbrev pub SameAs : ℕ → ℕ → ℕ → List ℕ → Type 0
SameAs g k n es = powers g k (n ∷ []) 1 ≡ powers g k es 1

-- x moved up by each of the exponents, within 64 digits
abbrev pub ups : ℕ → List ℕ → ℕ
ups x [] = 0
ups x (e ∷ es) = bit_xor (x * 2 ^ e % 2 ^ 64) (ups x es)

-- where D^n is the sum, 64 digits are cut to 38 by it
abbrev pub Cuts : Power → Type 0
Cuts p = (p.n ≤ 38) × (26 + slice_index p.sum 0 ≤ p.n) × (26 + slice_index p.sum 1 ≤ p.n) × (26 + slice_index p.sum 2 ≤ p.n)

-- the power leaves what its sum leaves
abbrev pub Holds : ℕ → ℕ → Power → Type 0
Holds g k p = SameAs g k p.n (exponents p.sum)

-- r stands for x times the sum by, plus y, wherever the power short holds
pub record Folded (by : List ℕ) (short : Power) (x y r : ℕ) : Type 0 where
  pub same : {g k : ℕ} → Generator g k → Holds g k short → leaves g k r ≡ bit_xor (powers g k (exponents by) (leaves g k x)) (leaves g k y)

-- r stands for x, wherever the power p holds; and it is as much shorter as the sum is
pub record Reduced (p : Power) (x r : ℕ) : Type 0 where
  pub same : {g k : ℕ} → Generator g k → Holds g k p → leaves g k r ≡ leaves g k x
  pub short : (m u : ℕ) → x < 2 ^ (m + p.n) → p.n ≤ u → m + slice_index p.sum 0 ≤ u → m + slice_index p.sum 1 ≤ u → m + slice_index p.sum 2 ≤ u → r < 2 ^ u

-- r stands for the first m octets of s, wherever D^64 is the sum by, and the power short holds
pub record Stands (by : List ℕ) (short : Power) (s : List ℕ) (m r : ℕ) : Type 0 where
  pub same : {g k : ℕ} → Generator g k → SameAs g k 64 (exponents by) → Holds g k short → leaves g k r ≡ passed g k s m

-- words of 64 digits brought down to the remainder r
abbrev pub words : ℕ → ℕ → ℕ → List ℕ → ℕ
words g k r [] = r
words g k r (w ∷ ws) = words g k (feed g k 64 r w) ws

-- what the eight words of a block leave, by the payload's generator
abbrev pub value : List ℕ → ℕ
value a = words 0b11000110011 10 0 a
