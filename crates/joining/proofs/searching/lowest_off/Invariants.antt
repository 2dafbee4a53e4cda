-- `joining::searching::lowest_off` meets its contract. Assumes nothing.
use Prim.Native.Nat.{◌-◌}
use lib.ListN.{length}
use Rattle.joining.proofs.BesideFound.{Looking}
use Rattle.joining.proofs.LowestSearched.{Searching}
use Rattle.joining.proofs.searching.lowest_off.Given as goal

abbrev pub invariant-loop-next : goal.invariant-loop-next
invariant-loop-next l = Looking l.left.inner.marks.now l.k l.next

abbrev pub decreases-loop-next : goal.decreases-loop-next
decreases-loop-next l = length l.left.inner.marks.now - l.next

abbrev pub invariant-loop-k : goal.invariant-loop-k
invariant-loop-k l =
    Searching l.left.inner.head l.left.inner.marks.now l.left.inner.elapsed.now l.left.inner.sizes.now l.right.marks.now l.right.elapsed.now l.right.sizes.now l.last.number.0 l.last.octets.0 l.next l.k

abbrev pub decreases-loop-k : goal.decreases-loop-k
decreases-loop-k l = length l.left.inner.marks.now - l.k
