-- `second_frames::text::put_numbers` meets its contract. Assumes nothing.
use Rattle.std.proofs.Common.{◌*◌}
use Rattle.second_frames.specs.Growing.{Grows}
use Rattle.second_frames.proofs.text.put_numbers.Given as goal

abbrev pub invariant-loop-n : goal.invariant-loop-n
invariant-loop-n g l = Grows (21 * l.n-index) l.fn.text l.text
