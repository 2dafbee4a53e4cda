-- Document 01's number and value for each case of an answer: "a refusal returns its number and zeros elsewhere". The promises are
-- about these. Assumes nothing.
use Rattle.std.specs.Prelude.{ℕ, Ok, Err}
use Rattle.units.specs.Refusals.{number_of, found_of, worked_of}
use Rattle.clock.specs.Answers.{Moment, DueTime}

-- of a moment's stamp: the refusal's number and both checks, or zeros; 1 where accepted; and the stamp
pub record MomentPaper : Type 0 where
  pub number : ℕ
  pub found : ℕ
  pub worked : ℕ
  pub accepted : ℕ
  pub stamp : ℕ

-- "Stamp of a moment: 23"
unfoldable pub moment_paper : Moment → MomentPaper
moment_paper (Ok n) = record { number = 0; found = 0; worked = 0; accepted = 1; stamp = n }
moment_paper (Err r) = record { number = number_of r; found = found_of r; worked = worked_of r; accepted = 0; stamp = 0 }

-- of when a frame is due: the refusal's number and both checks, or zeros; 1 where accepted; and the tick
pub record DuePaper : Type 0 where
  pub number : ℕ
  pub found : ℕ
  pub worked : ℕ
  pub accepted : ℕ
  pub tick : ℕ

-- "Due time: 5"
unfoldable pub due_paper : DueTime → DuePaper
due_paper (Ok t) = record { number = 0; found = 0; worked = 0; accepted = 1; tick = t }
due_paper (Err r) = record { number = number_of r; found = found_of r; worked = worked_of r; accepted = 0; tick = 0 }
