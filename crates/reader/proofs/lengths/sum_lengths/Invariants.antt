-- `reader::lengths::sum_lengths` meets its contract: the sum of the first i lengths. Assumes nothing.
use mathlib.Core.Path.{◌≡◌}
use Prim.Native.Nat.{◌*◌, ◌≤◌}
use Rattle.frame.specs.Layout.{sum_lengths}
use Rattle.reader.proofs.lengths.sum_lengths.Given as goal

abbrev pub invariant-loop-i : goal.invariant-loop-i
invariant-loop-i l = (l.sum ≡ sum_lengths l.frame l.i) × (l.sum ≤ 4095 * l.i)
