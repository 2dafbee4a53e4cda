-- What the sender's calls answer, in code `Result`, and the sender beside it. Assumes nothing.
use Rattle.std.specs.Prelude.{ℕ, Result}
use Rattle.units.specs.declared.refusals.Refusal.{Refusal}
use Rattle.sender.specs.declared.Called.{Called}

-- the answer of a call that writes nothing
abbrev pub Turned : Type 0
Turned = Result Unit Refusal

-- and the state after it
abbrev pub Turning : Type 0
Turning = Called Unit

-- how many octets a call wrote, or why none, and the state after it
abbrev pub Dispatch : Type 0
Dispatch = Called ℕ
