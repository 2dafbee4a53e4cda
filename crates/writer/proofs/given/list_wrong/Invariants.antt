-- `writer::given::list_wrong` meets its contract: a turn of the loop takes one length from what is left. Assumes nothing.
use mathlib.Core.Path.{◌≡◌}
use Prim.Native.Nat.{◌+◌, ◌*◌, ◌≤◌}
use lib.ListN.{drop}
use Rattle.frame.specs.Counts.{any_above, sum_of}
use Rattle.writer.proofs.given.list_wrong.Given as goal

abbrev pub invariant-loop-l : goal.invariant-loop-l
invariant-loop-l l =
    (any_above (drop l.l-index l.lengths) ≡ any_above l.lengths)
    × (l.sum + sum_of (drop l.l-index l.lengths) ≡ sum_of l.lengths)
    × (l.sum ≤ 4095 * l.l-index)
