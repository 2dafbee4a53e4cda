-- What writing frames and listing lengths answer, in code `Result`. Assumes nothing.
use Rattle.std.specs.Prelude.{ℕ, Result}
use Rattle.units.specs.declared.Packets.{Packets}
use Rattle.units.specs.declared.refusals.Refusal.{Refusal}

-- how many octets were written, or why none
abbrev pub Written : Type 0
Written = Result ℕ Refusal

-- how many lengths of a Type 3 frame were written, or why none
abbrev pub Listed : Type 0
Listed = Result Packets Refusal
