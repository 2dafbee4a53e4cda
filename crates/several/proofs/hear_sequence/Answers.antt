-- `several::hear_sequence` meets its contract. Assumes nothing.
use mathlib.Core.Path.{refl, sym, ◌∙◌}
use lib.ListN.{length}
use Rattle.reception.specs.Damage.{Matched}
use Rattle.reception.proofs.KeptAsHeld.{lists_matched}
use Rattle.hearing.proofs.EmptyRecord.{empty_is, empty_lists, empty_undamaged, empty_before, empty_from}
use Rattle.several.proofs.WholeSequence.{sequence_unmatched, sequence_high, sequence_no_room, sequence_taken, sequence_refused, sequence_heard}
use Rattle.several.proofs.hear_sequence.Goals as goal

pub returns-then-lists_differ : goal.returns-then-lists_differ
returns-then-lists_differ c =
    sequence_refused _ _ _ _ (sequence_unmatched _ _ _ _ _ _ _ (sym c.lists_differ.ensures ∙ c.if-lists_differ.true)) (c.refused.ensures ∙ rw c.open_head.ensures refl)

pub returns-then-stamp-gt-LAST_STAMP : goal.returns-then-stamp-gt-LAST_STAMP
returns-then-stamp-gt-LAST_STAMP c =
    sequence_refused _ _ _ _ (sequence_high _ _ _ _ _ _ _ (sym c.lists_differ.ensures ∙ c.if-lists_differ.false) c.if-stamp-gt-LAST_STAMP.true) (c.refused-then-stamp-gt-LAST_STAMP.ensures ∙ rw c.open_head-then-stamp-gt-LAST_STAMP.ensures refl)

pub returns-then-answers-ends : goal.returns-then-answers-ends
returns-then-answers-ends c =
    sequence_refused _ _ _ _ (sequence_no_room _ _ _ _ _ _ _ (sym c.lists_differ.ensures ∙ c.if-lists_differ.false) c.if-stamp-gt-LAST_STAMP.false c.if-answers-ends.true) (c.refused-then-answers-ends.ensures ∙ rw c.open_head-then-answers-ends.ensures refl)

pub clear-requires : goal.clear-requires
clear-requires c =
    lists_matched _ _ _ (sym c.lists_differ.ensures ∙ c.if-lists_differ.false)

pub hear_frames-head-requires : goal.hear_frames-head-requires
hear_frames-head-requires c =
    let z = c.clear.ensures in
    let a = c.args in
    let m : Matched a.marks.now a.elapsed.now a.sizes.now = lists_matched _ _ _ (sym c.lists_differ.ensures ∙ c.if-lists_differ.false) in
    record { cases = empty_lists _ _ _ (length a.marks.now) c.if-stamp-gt-LAST_STAMP.false m.room _ _ _ _ c.open_head-h.ensures z.0 z.1 z.2; none_before = empty_before _ _ _ (length a.marks.now) c.if-stamp-gt-LAST_STAMP.false m.room _ _ _ _ c.open_head-h.ensures z.0 z.1 z.2 _; none_from = empty_from _ _ _ (length a.marks.now) c.if-stamp-gt-LAST_STAMP.false m.room _ _ _ _ c.open_head-h.ensures z.0 z.1 z.2; sizes_value = empty_undamaged _ _ _ (length a.marks.now) c.if-stamp-gt-LAST_STAMP.false m.room _ _ _ _ c.open_head-h.ensures z.0 z.1 z.2; ends_in_bounds = c.if-answers-ends.false }

pub returns : goal.returns
returns c =
    let z = c.clear.ensures in
    let a = c.args in
    let m : Matched a.marks.now a.elapsed.now a.sizes.now = lists_matched _ _ _ (sym c.lists_differ.ensures ∙ c.if-lists_differ.false) in
    let k = empty_is _ _ _ (length a.marks.now) c.if-stamp-gt-LAST_STAMP.false m.room _ _ _ _ c.open_head-h.ensures z.0 z.1 z.2 in
    sequence_heard _ _ _ _ _ _ _ _ _ _ (sequence_taken _ _ _ _ _ _ _ (sym c.lists_differ.ensures ∙ c.if-lists_differ.false) c.if-stamp-gt-LAST_STAMP.false c.if-answers-ends.false) (rw k at c.hear_frames-head.ensures)
