-- `several::hear_frames` meets its contract. Assumes nothing.
use mathlib.Core.Path.{refl}
use Rattle.reception.proofs.KeptAsHeld.{matched_lists}
use Rattle.reception.proofs.WhatHearingAdds.{sound_lists}
use Rattle.several.proofs.HeardSoFar.{none_yet, one_more_at, all_heard}
use Rattle.several.proofs.PartOfRow.{part_is}
use native.Mathlib.Omega.{arith}
use Rattle.several.proofs.hear_frames.Goals as goal

pub loop-i-init : goal.loop-i-init
loop-i-init c =
    let p = c.requires in
    rw c.empty_span-span.ensures (none_yet _ _ _ _ _ _ _ _ _ _ _ (record { matched = matched_lists _ _ _ p.cases; undamaged = p.sizes_value }) p.none_before p.none_from p.ends_in_bounds)

pub hear_next-t-requires : goal.hear_next-t-requires
hear_next-t-requires c =
    let g = c.loop-i.invariant in
    record { cases = sound_lists _ g.sound; none_before = g.before; none_from = g.from_end; sizes_value = g.sound.undamaged }

pub offset_bounds-answers-i : goal.offset_bounds-answers-i
offset_bounds-answers-i c =
    let few = c.well_formed.1.1.1.1.1.1.1.0 in
    omega (arith, few, c.loop-i-test.true)

pub loop-i-preserved : goal.loop-i-preserved
loop-i-preserved c =
    one_more_at _ _ _ _ _ _ _ _ _ _ _ _ _ _ _ c.loop-i.invariant c.loop-i-test.true _ refl _ (part_is _ _ _ _ _ c.min-begin.ensures (omega (arith, c.min-begin.ensures, c.max.ensures, c.min.ensures))) _ _ _ _ c.hear_next-t.ensures _ c.answer_of.ensures c.hear_next-t.auto.marks c.hear_next-t.auto.elapsed c.hear_next-t.auto.sizes

pub shape_of-marks : goal.shape_of-marks
shape_of-marks c = c.loop-i.invariant.marks_long

pub shape_of-elapsed : goal.shape_of-elapsed
shape_of-elapsed c = c.loop-i.invariant.elapsed_long

pub shape_of-sizes : goal.shape_of-sizes
shape_of-sizes c = c.loop-i.invariant.sizes_long

pub shape_of-answers : goal.shape_of-answers
shape_of-answers c = c.loop-i.invariant.answers_long

pub returns : goal.returns
returns c = all_heard _ _ _ _ _ _ _ _ _ _ _ _ _ _ _ c.loop-i.invariant c.loop-i-test.false
