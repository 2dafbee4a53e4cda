-- `hearing::looking::next_fits` meets its contract. Assumes nothing.
use Rattle.reception.specs.Lent.{held}
use Rattle.hearing.proofs.NeighboursFound.{Up}
use Rattle.hearing.proofs.looking.next_fits.Given as goal

abbrev pub invariant-loop-j : goal.invariant-loop-j
invariant-loop-j l = Up (held l.r) l.end l.k l.i.0 l.a.0 l.j
