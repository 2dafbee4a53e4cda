-- How much text a line adds. Assumes nothing.
use Rattle.std.specs.Prelude.{ℕ, ◌+◌, ◌≤◌, ◌≡◌, length}
use Rattle.lines.specs.declared.Text.{Text}

-- at most so many octets of text more stand in the same memory, which keeps its length
pub record Grows (most : ℕ) (old new : Text) : Type 0 where
  pub same : new.out.ghost_name ≡ old.out.ghost_name
  pub long : length new.out.now ≡ length old.out.now
  pub within : new.at ≤ old.at + most
