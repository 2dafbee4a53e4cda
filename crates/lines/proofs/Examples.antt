-- Numbers and lines as document 01 prints them, computed. Assumes nothing.
use mathlib.Core.Path.{◌≡◌, refl}
use mathlib.Core.List.{[], ◌∷◌}
use Rattle.lines.specs.Text.{digits_within, decimal, field, fields_of, line}

-- 0 is "0"
pub zero_printed : decimal 0 ≡ 48 ∷ []
unfolding decimal digits_within
zero_printed = refl

-- ten is "10"
pub ten_printed : decimal 10 ≡ 49 ∷ 48 ∷ []
unfolding decimal digits_within
ten_printed = refl

-- the largest number of 64 bits is "18446744073709551615"
pub largest_printed : decimal 18446744073709551615 ≡ 49 ∷ 56 ∷ 52 ∷ 52 ∷ 54 ∷ 55 ∷ 52 ∷ 52 ∷ 48 ∷ 55 ∷ 51 ∷ 55 ∷ 48 ∷ 57 ∷ 53 ∷ 53 ∷ 49 ∷ 54 ∷ 49 ∷ 53 ∷ []
unfolding decimal digits_within
largest_printed = refl

-- "gap 0 1 1"
pub gap_printed : line (103 ∷ 97 ∷ 112 ∷ []) (0 ∷ 1 ∷ 1 ∷ []) ≡ 103 ∷ 97 ∷ 112 ∷ 32 ∷ 48 ∷ 32 ∷ 49 ∷ 32 ∷ 49 ∷ 10 ∷ []
unfolding decimal digits_within field fields_of line
gap_printed = refl
