-- What is promised of a function that puts text behind what was put into lent memory before. Assumes nothing.
use Rattle.std.specs.Prelude.{ℕ, ◌+◌, ◌-◌, ◌≤◌, ◌≡◌, List, length}
use Rattle.lines.specs.declared.Text.{Text}
use Rattle.lines.specs.Text.{Puts}

-- how many octets have room still
abbrev pub room : Text → ℕ
room t = length t.out.now - t.at

-- text of at most so many octets stands behind the place that was reached, and nothing else differs; the memory is the same
pub record Adds (text : List ℕ) (most : ℕ) (old new : Text) : Type 0 where
  pub same : new.out.ghost_name ≡ old.out.ghost_name
  pub long : length new.out.now ≡ length old.out.now
  pub puts : Puts text old.out.now old.at new.at new.out.now
  pub within : new.at ≤ old.at + most
