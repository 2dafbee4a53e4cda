-- Numbers in octets: the most significant first in frames (document 01, "Frame layouts"), the least significant first in items
-- ("The printed account"). Assumes nothing.
use Rattle.std.specs.Prelude.{ℕ, zero, suc, ◌+◌, ◌*◌, ◌/◌, ◌%◌, ◌^◌, List, [], ◌∷◌, ◌++◌, get_or}

-- the number in the w octets of s from i on, "most significant first"
unfoldable pub be : ℕ → List ℕ → ℕ → ℕ
be zero s i = 0
be (suc w) s i = be w s i * 256 + get_or s (i + w) 0

-- the w octets of the number v, "most significant first"
unfoldable pub octets : ℕ → ℕ → List ℕ
octets zero v = []
octets (suc w) v = octets w (v / 256) ++ (v % 256 ∷ [])

-- "little-endian": the number in the w octets of s from i on, the least significant first
unfoldable pub le : ℕ → List ℕ → ℕ → ℕ
le zero s i = 0
le (suc w) s i = le w s i + get_or s (i + w) 0 * 256 ^ w
