-- `writer::packing::put_lengths` meets its contract: what is left, laid from here, is all, laid from the start. Assumes nothing.
use mathlib.Core.Path.{◌≡◌}
use mathlib.Core.Bool.{false}
use Prim.Native.Nat.{◌+◌, ◌≤◌}
use lib.ListN.{length}
use Rattle.fields.specs.Runs.{laid}
use Rattle.frame.specs.Counts.{any_above}
use Rattle.frame.specs.Layout.{filled}
use Rattle.frame.specs.Writing.{packed}
use Rattle.writer.proofs.packing.put_lengths.Given as goal

abbrev pub invariant-loop-rest : goal.invariant-loop-rest
invariant-loop-rest l =
    (l.at + filled (length l.rest) ≤ length l.out)
    × (any_above l.rest ≡ false)
    × (laid l.out l.at (packed l.rest) ≡ laid l.initial.out 19 (packed l.lengths))

abbrev pub decreases-loop-rest : goal.decreases-loop-rest
decreases-loop-rest l = length l.rest
