-- `fields::copy` meets its contract: the first j octets are in their place. Assumes nothing.
use mathlib.Core.Path.{◌≡◌}
use Prim.Native.Nat.{◌≤◌}
use lib.ListN.{length}
use lib.Seq.{paste}
use Rattle.fields.proofs.copy.Given as goal

abbrev pub invariant-loop-j : goal.invariant-loop-j
invariant-loop-j l = (l.j ≤ length l.src) × (length l.out ≡ length l.initial.out) × (l.out ≡ paste l.initial.out l.at l.src l.j)
