-- `hearing::hear` meets its contract. Assumes nothing.
use mathlib.Core.Path.{◌≡◌, sym, ◌∙◌}
use mathlib.Core.Bool.{false}
use lib.ListN.{length}
use Rattle.frame.specs.declared.Read.{Read}
use Rattle.frame.specs.Reading.{read_frame}
use Rattle.frame.proofs.OnePaper.{read_known}
use Rattle.frame.proofs.Said.{DataSaid, data_said, length_handed}
use Rattle.reception.specs.Hearing.{kept_in, lists_differ, hear_read, hear_frame}
use Rattle.hearing.proofs.Answered.{refused_as}
use Rattle.reception.proofs.KeptAsHeld.{lists_matched}
use Rattle.hearing.proofs.Judged.{same_outcome, frame_unmatched, frame_read, unread, closing_heard}
use native.Mathlib.Omega.{arith}
use Rattle.hearing.proofs.hear.Goals as goal
use Rattle.hearing.proofs.hear.Lts as lts
use Rattle.hearing.proofs.hear.Tie as tie
use Rattle.hearing.proofs.hear.Reads as reads

-- the lists matched, and what the frame was read as
even : (c : lts.After-read_frame tie.the-claims reads.Pre reads.Post tie.handed_clauses) → lists_differ (length c.args.marks.now) (length c.args.elapsed.now) (length c.args.sizes.now) ≡ false
even c = sym c.lists_differ.ensures ∙ c.if-lists_differ.false

told : (c : lts.After-read_frame tie.the-claims reads.Pre reads.Post tie.handed_clauses) → read_frame c.args.frame.now ≡ c.read_frame-read.result
told c = sym (read_known c.read_frame-read.result _ c.read_frame-read.ensures)

-- so the frame is heard as that
heard_as : (c : lts.After-read_frame tie.the-claims reads.Pre reads.Post tie.handed_clauses) (x : Read) → c.read_frame-read.result ≡ x
    → let a = c.args in
    hear_frame (kept_in a.h a.marks.now a.elapsed.now a.sizes.now) a.bearer a.period a.frame.now
    ≡ hear_read (kept_in a.h a.marks.now a.elapsed.now a.sizes.now) a.bearer a.period x
heard_as c x e = frame_read _ _ _ _ x (even c) (told c ∙ e)

-- what the data PDU says
said : (c : lts.Past-After-known_told2 tie.the-claims reads.Pre reads.Post tie.handed_clauses) → DataSaid c.args.frame.now c.in-Data.d
said c = data_said _ _ (told c.before ∙ c.in-Data.is)

pub returns-then-lists_differ : goal.returns-then-lists_differ
returns-then-lists_differ c =
    refused_as _ _ (frame_unmatched _ _ _ _ (sym c.lists_differ.ensures ∙ c.if-lists_differ.true)) c.refused.ensures

pub overflow_add-d : goal.overflow_add-d
overflow_add-d c = let d = said c.before.before.before.before in omega (arith, d.short)

pub slice_bounds-hear_data-end : goal.slice_bounds-hear_data-end
slice_bounds-hear_data-end c = omega (arith, (said c.before.before.before.before).least)

pub hear_data-requires : goal.hear_data-requires
hear_data-requires c =
    let d = said c.before.before.before.before.before in
    let l = length_handed _ _ d in
    record { cases = lists_matched _ _ _ (even c.before.before.before.before.before.before); elapsed_bound = (omega (arith, d.number, d.elapsed), omega (arith, l, d.short)); length_value = l }

pub returns-in-Refused : goal.returns-in-Refused
returns-in-Refused c =
    same_outcome (heard_as c.before.before _ c.in-Refused.is) (unread _ _ _ _)

pub returns-in-Data : goal.returns-in-Data
returns-in-Data c =
    same_outcome (heard_as c.before.before.before.before.before.before.before.before.before.before.before.before.before _ c.in-Data.is) c.hear_data.ensures

pub invariant_of-record : goal.invariant_of-record
invariant_of-record c = record { matched = lists_matched _ _ _ (sym c.lists_differ.ensures ∙ c.if-lists_differ.false) }

pub returns-in-Closing : goal.returns-in-Closing
returns-in-Closing c =
    same_outcome
    (closing_heard _ _ _ _ _ _ (sym c.lists_differ.ensures ∙ c.if-lists_differ.false) (sym (read_known c.read_frame-read.result _ c.read_frame-read.ensures)) c.in-Closing.is)
    c.hear_closing.ensures
