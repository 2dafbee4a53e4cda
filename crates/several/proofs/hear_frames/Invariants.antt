-- `several::hear_frames` meets its contract. Assumes nothing.
use Rattle.reception.specs.Hearing.{kept_in}
use Rattle.several.proofs.HeardSoFar.{HeardSoFar}
use Rattle.several.proofs.hear_frames.Given as goal

abbrev pub invariant-loop-i : goal.invariant-loop-i
invariant-loop-i l =
    HeardSoFar l.bearer l.period l.octets l.ends (kept_in l.initial.head l.initial.marks l.initial.elapsed l.initial.sizes) l.initial.answers l.head l.marks l.elapsed l.sizes l.answers l.span.first l.span.end l.from l.i
