-- `telling::put_gaps` meets its contract. Assumes nothing.
use Rattle.reception.specs.Lent.{held}
use Rattle.telling.proofs.GapsTold.{Telling}
use Rattle.telling.proofs.gaps.put_gaps.Given as goal

abbrev pub invariant-loop-k : goal.invariant-loop-k
invariant-loop-k l = Telling (held l.r) l.n l.initial.text l.text l.i l.a l.k
