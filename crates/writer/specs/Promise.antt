-- What every function that writes a frame promises. Assumes nothing.
use Rattle.std.specs.Prelude.{◌≡◌, List, ℕ}
use Rattle.frame.specs.Answers.{Written}
use Rattle.frame.specs.Paper.{written_paper}
use Rattle.frame.specs.Writing.{after}

-- r is the answer, and new is what memory that held old has after it
pub record Wrote (answer : Written) (frame old : List ℕ) (r : Written) (new : List ℕ) : Type 0 where
  pub says : written_paper r ≡ written_paper answer
  pub leaves : new ≡ after answer frame old
