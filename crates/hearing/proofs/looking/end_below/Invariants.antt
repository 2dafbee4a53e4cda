-- `hearing::looking::end_below` meets its contract. Assumes nothing.
use Rattle.hearing.proofs.NeighboursFound.{Down}
use Rattle.hearing.proofs.looking.end_below.Given as goal

abbrev pub invariant-loop-j : goal.invariant-loop-j
invariant-loop-j l = Down l.first l.r.marks.now l.r.elapsed.now l.r.sizes.now l.k l.j
