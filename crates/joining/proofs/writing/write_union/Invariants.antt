-- `joining::writing::write_union` meets its contract. Assumes nothing.
use Rattle.joining.proofs.UnionWritten.{Writing}
use Rattle.joining.proofs.writing.write_union.Given as goal

abbrev pub invariant-loop-k : goal.invariant-loop-k
invariant-loop-k l =
    Writing l.initial.marks l.initial.elapsed l.initial.sizes l.right.marks.now l.right.elapsed.now l.right.sizes.now l.marks l.elapsed l.sizes l.k
