-- `joining::writing::write_union` meets its contract. Assumes nothing.
use mathlib.Core.Path.{refl}
use native.Mathlib.Omega.{arith}
use Rattle.joining.proofs.UnionWritten.{write_start, write_merged, write_end}
use Rattle.joining.proofs.writing.write_union.Goals as goal

pub loop-k-init : goal.loop-k-init
loop-k-init c = let p = c.requires in write_start _ _ _ _ _ _ p.cases c.args.right.now.matched p.marks_len p.either_by_bits

pub loop-k-preserved : goal.loop-k-preserved
loop-k-preserved c =
    write_merged _ _ _ _ _ _ _ _ _ _ c.loop-k.invariant (omega (arith, c.loop-k-test.true, c.loop-k.invariant.marks_are.long)) _ _ _ refl refl refl

pub shape_of-marks : goal.shape_of-marks
shape_of-marks c = c.loop-k.invariant.marks_are.long

pub shape_of-elapsed : goal.shape_of-elapsed
shape_of-elapsed c = c.loop-k.invariant.elapsed_are.long

pub shape_of-sizes : goal.shape_of-sizes
shape_of-sizes c = c.loop-k.invariant.sizes_are.long

pub returns : goal.returns
returns c = write_end _ _ _ _ _ _ _ _ _ _ c.loop-k.invariant (omega (arith, c.loop-k-test.false, c.loop-k.invariant.marks_are.long))
