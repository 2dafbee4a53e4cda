-- The number of an answer that depends on a test. Assumes nothing.
use mathlib.Core.Path.{◌≡◌, refl}
use mathlib.Core.Bool.{Bool, true, false}
use Rattle.std.specs.Prelude.{Ok, Err}
use Rattle.units.specs.declared.refusals.Refusal.{Refusal}
use Rattle.units.specs.Refusals.{number_of}
use Rattle.fields.specs.Choice.{◌when◌otherwise◌}
use Rattle.numbers.specs.Answers.{number_told}

pub room_told : (x : Refusal) (b : Bool) → number_told (Err x when b otherwise Ok tt) ≡ (number_of x when b otherwise 0)
room_told x true = refl
room_told x false = refl
