-- Sums of three powers of D, by their exponents. No public contract cites this file. Assumes nothing.
use Rattle.std.specs.Prelude.{List, [], ◌∷◌, ℕ, ◌≤◌}
use Rattle.std.specs.List.{slice_index}

-- the three exponents
abbrev pub exponents : List ℕ → List ℕ
exponents sum = slice_index sum 0 ∷ slice_index sum 1 ∷ slice_index sum 2 ∷ []

-- the exponents are at most n
abbrev pub UpTo : ℕ → List ℕ → Type 0
UpTo n sum = (slice_index sum 0 ≤ n) × (slice_index sum 1 ≤ n) × (slice_index sum 2 ≤ n)
