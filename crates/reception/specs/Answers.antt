-- What calls on records answer, in code `Result`, and the head beside it. Assumes nothing.
use Rattle.std.specs.Prelude.{Result}
use Rattle.units.specs.declared.refusals.Refusal.{Refusal}
use Rattle.reception.specs.declared.Answered.{Answered}
use Rattle.reception.specs.declared.NotJoined.{NotJoined}
use Rattle.reception.specs.declared.Report.{Report}

-- the answer of a call that takes something into a record
abbrev pub Taken : Type 0
Taken = Result Unit Refusal

-- and the head after it
abbrev pub Taking : Type 0
Taking = Answered Refusal

-- the answer of a join
abbrev pub Joined : Type 0
Joined = Result Unit NotJoined

-- and the head of the left record after it
abbrev pub Joining : Type 0
Joining = Answered NotJoined

-- a report, or why there is none
abbrev pub Reported : Type 0
Reported = Result Report Refusal
