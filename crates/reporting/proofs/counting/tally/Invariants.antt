-- `reporting::counting::tally` meets its contract. Assumes nothing.
use Rattle.reporting.specs.Counting.{Tallied}
use Rattle.reporting.proofs.counting.tally.Given as goal

abbrev pub invariant-loop-k : goal.invariant-loop-k
invariant-loop-k l =
    Tallied l.r.marks.now l.r.elapsed.now l.r.sizes.now l.k l.heard l.octets l.end l.before l.gaps
