-- `hearing::taking::clear_heard` meets its contract. Assumes nothing.
use Prim.Native.Nat.{◌≤◌}
use lib.ListN.{length}
use Rattle.hearing.specs.Following.{Cleared}
use Rattle.hearing.proofs.taking.clear_heard.Given as goal

abbrev pub invariant-loop-k : goal.invariant-loop-k
invariant-loop-k l =
    (l.k-end ≤ length l.initial.marks) × Cleared (length l.initial.marks) l.marks l.k l.k-end × Cleared (length l.initial.marks) l.elapsed l.k l.k-end × Cleared (length l.initial.marks) l.sizes l.k l.k-end
