-- `fields::put` meets its contract: the octets from k on are written, and those before are as they were. Assumes nothing.
use mathlib.Core.Path.{◌≡◌}
use mathlib.Core.List.{◌++◌}
use Prim.Native.Nat.{◌+◌}
use lib.ListN.{take, drop}
use Rattle.fields.specs.Numbers.{octets}
use Rattle.fields.proofs.put.Given as goal

abbrev pub invariant-loop-k : goal.invariant-loop-k
invariant-loop-k l =
    (take (l.at + l.k) l.out ≡ take (l.at + l.k) l.initial.out)
    × (octets l.k l.rest ++ drop (l.at + l.k) l.out ≡ octets l.w l.v ++ drop (l.at + l.w) l.initial.out)
