-- `damage::judging::walk` meets its contract. Assumes nothing.
use Rattle.reception.specs.Lent.{held}
use Rattle.damage.proofs.Walking.{Walking}
use Rattle.damage.specs.Judging.{Ended}
use Rattle.damage.proofs.judging.walk.Given as goal

abbrev pub invariant-loop-k : goal.invariant-loop-k
invariant-loop-k l = Walking (held l.r) l.k l.i.0 l.a.0 × Ended l.r.marks.now l.r.elapsed.now l.r.sizes.now l.k l.i.0 l.a.0 l.gaps
