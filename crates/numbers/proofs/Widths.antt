-- The widest number of the code is that of specs/. Assumes nothing.
use mathlib.Core.Path.{◌≡◌, refl}
use Rattle.numbers.specs.declared.TheConstants.{WIDEST}
use Rattle.numbers.specs.Widths.{widest}

pub widest_said : WIDEST ≡ widest
widest_said = refl
