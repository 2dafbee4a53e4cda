-- What reading lengths promises, and what its inner functions ask. Assumes nothing.
use Rattle.std.specs.Prelude.{ℕ, ◌+◌, ◌≤◌, ◌<◌, ◌≡◌, List, length}
use Rattle.frame.specs.declared.ClosingPdu.{ClosingPdu}
use Rattle.frame.specs.Answers.{Listed}
use Rattle.frame.specs.Layout.{filled}
use Rattle.frame.specs.Listing.{list_lengths, listed}
use Rattle.frame.specs.Paper.{listed_paper}
use Rattle.frame.specs.Reading.{read_frame}
use Rattle.frame.specs.Sizes.{lengths_head}

-- the lengths that c counts are there
pub record LengthsFit (s : List ℕ) (c : ClosingPdu) : Type 0 where
  pub few : c.number.0 < 65536
  pub there : lengths_head + filled c.number.0 ≤ length s

-- r is the answer for the frame s and the lent list old, and new is what the list then holds
pub record Lists (s old : List ℕ) (r : Listed) (new : List ℕ) : Type 0 where
  pub says : listed_paper r ≡ listed_paper (list_lengths (read_frame s) (length old))
  pub leaves : new ≡ listed (list_lengths (read_frame s) (length old)) s old
