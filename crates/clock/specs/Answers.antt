-- What the clock answers, in code `Result`. Assumes nothing.
use Rattle.std.specs.Prelude.{ℕ, Result}
use Rattle.units.specs.declared.refusals.Refusal.{Refusal}

-- the stamp of a moment, or why it has none
abbrev pub Moment : Type 0
Moment = Result ℕ Refusal

-- the tick at which a frame is due, or why there is none
abbrev pub DueTime : Type 0
DueTime = Result ℕ Refusal
