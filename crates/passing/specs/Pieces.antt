-- Input that is read in pieces, and told piece by piece. Assumes nothing.
use Rattle.std.specs.Prelude.{ℕ, true, false, List, [], ◌++◌}
use Rattle.printout.specs.Printed.{Between}
use Rattle.passing.specs.Passing.{Told}

-- from b on, with these octets pending, those that are read still, and all that is told of them
pub data InPieces : Between → List ℕ → List ℕ → List ℕ → Type 0 where
  -- the input has ended, and all is told
  last : {b c : Between} {pending got text left : List ℕ} → Told b (pending ++ got) true text true c left → InPieces b pending got text
  -- an item stopped the program: no more is read
  stopped : {b c : Between} {pending : List ℕ} (got unread : List ℕ) {text left : List ℕ} → Told b (pending ++ got) false text true c left
      → InPieces b pending (got ++ unread) text
  -- a piece, and those behind it
  piece : {b c : Between} {pending : List ℕ} (got more s t : List ℕ) {left : List ℕ} → Told b (pending ++ got) false s false c left → InPieces c left more t
      → InPieces b pending (got ++ more) (s ++ t)
  -- the input has ended, and what it still owes waits for room
  owing : {b c : Between} {pending got : List ℕ} (s t : List ℕ) {left : List ℕ} → Told b (pending ++ got) true s false c left → InPieces c left [] t
      → InPieces b pending got (s ++ t)
