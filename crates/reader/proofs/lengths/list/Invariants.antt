-- `reader::lengths::list` meets its contract: what is left to list goes on from what is listed. Assumes nothing.
use mathlib.Core.Path.{◌≡◌}
use mathlib.Core.List.{◌++◌}
use Prim.Native.Nat.{◌-◌}
use lib.ListN.{take, drop}
use Rattle.frame.specs.Layout.{lengths_of}
use Rattle.reader.proofs.lengths.list.Given as goal

abbrev pub invariant-loop-i : goal.invariant-loop-i
invariant-loop-i l =
    (take l.i l.out ++ lengths_of l.frame l.i (l.n - l.i) ++ drop l.n l.out ≡ lengths_of l.frame 0 l.n ++ drop l.n l.initial.out)
