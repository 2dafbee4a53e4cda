-- What laying the lengths of a Type 3 frame asks. Assumes nothing.
use Rattle.std.specs.Prelude.{ℕ, ◌+◌, ◌≤◌, ◌<◌, ◌≡◌, List, false, length}
use Rattle.frame.specs.Counts.{any_above}
use Rattle.frame.specs.Layout.{filled}
use Rattle.frame.specs.Sizes.{lengths_head}

-- each of the lengths has 12 bits, Packet Number can say how many there are, and memory has room for them behind the checks
pub record RoomForLengths (ls out : List ℕ) : Type 0 where
  pub short : any_above ls ≡ false
  pub few : length ls < 65536
  pub room : lengths_head + filled (length ls) ≤ length out
