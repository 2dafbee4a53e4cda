-- The clock as C and Rust get it: an answer with a value in one number. Assumes nothing.
use Rattle.std.specs.Prelude.{ℕ}
use Rattle.units.specs.OneNumber.{with_value}
use Rattle.clock.specs.Answers.{Moment, DueTime}
use Rattle.clock.specs.Paper.{moment_paper, due_paper}

-- the refusal's number, and 256 times the stamp; one of the two is zero
unfoldable pub moment_number : Moment → ℕ
moment_number m = with_value (moment_paper m).number (moment_paper m).stamp

-- the refusal's number, and 256 times the tick
unfoldable pub due_number : DueTime → ℕ
due_number d = with_value (due_paper d).number (due_paper d).tick
