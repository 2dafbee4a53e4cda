-- `reporting::writing::write_gaps` meets its contract. Assumes nothing.
use Rattle.reception.specs.Lent.{held}
use Rattle.reporting.proofs.GapsWritten.{Writing}
use Rattle.reporting.proofs.writing.write_gaps.Given as goal

abbrev pub invariant-loop-k : goal.invariant-loop-k
invariant-loop-k l =
    Writing (held l.r) l.n l.initial.firsts l.initial.counts l.initial.octets l.firsts l.counts l.octets l.i l.a l.t l.k
