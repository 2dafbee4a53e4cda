-- `hearing::following::hear_next` meets its contract. Assumes nothing.
use mathlib.Core.Path.{◌≡◌, sym, ◌∙◌}
use Rattle.frame.specs.declared.Read.{Read}
use Rattle.frame.specs.Reading.{read_frame}
use Rattle.reception.specs.Hearing.{kept_in, hear_read, hear_frame}
use Rattle.frame.proofs.OnePaper.{read_known}
use Rattle.frame.proofs.Said.{DataSaid, data_said, length_handed}
use Rattle.reception.proofs.KeptAsHeld.{matched_lists}
use Rattle.hearing.proofs.Judged.{explained, frame_read, packet_judged, closing_judged, closing_heard, unread}
use Rattle.hearing.proofs.SpanKept.{follows_still, same_follows}
use native.Mathlib.Omega.{arith}
use Rattle.hearing.proofs.following.hear_next.Goals as goal
use Rattle.hearing.proofs.following.hear_next.Lts as lts
use Rattle.hearing.proofs.following.hear_next.Tie as tie
use Rattle.hearing.proofs.following.hear_next.Reads as reads

-- what the frame was read as
told : (c : lts.After-read_frame tie.the-claims reads.Pre reads.Post tie.handed_clauses) → read_frame c.args.frame.now ≡ c.read_frame-read.result
told c = sym (read_known c.read_frame-read.result _ c.read_frame-read.ensures)

-- so the frame is heard as that
heard_as : (c : lts.After-read_frame tie.the-claims reads.Pre reads.Post tie.handed_clauses) (x : Read) → c.read_frame-read.result ≡ x
    → let a = c.args in
    hear_frame (kept_in a.h a.marks.now a.elapsed.now a.sizes.now) a.bearer a.period a.frame.now
    ≡ hear_read (kept_in a.h a.marks.now a.elapsed.now a.sizes.now) a.bearer a.period x
heard_as c x e = frame_read _ _ _ _ x (matched_lists _ _ _ c.requires.cases) (told c ∙ e)

-- what the data PDU says
said : (c : lts.Past-After-known_told2 tie.the-claims reads.Pre reads.Post tie.handed_clauses) → DataSaid c.args.frame.now c.in-Data.d
said c = data_said _ _ (told c.before ∙ c.in-Data.is)

pub overflow_add-d : goal.overflow_add-d
overflow_add-d c = let d = said c.before.before.before.before in omega (arith, d.short)

pub slice_bounds-next_packet-end : goal.slice_bounds-next_packet-end
slice_bounds-next_packet-end c = omega (arith, (said c.before.before.before.before).least)

pub next_packet-requires : goal.next_packet-requires
next_packet-requires c =
    let p = c.requires in
    let d = said c.before.before.before.before.before in
    let l = length_handed _ _ d in
    record { cases = p.cases; none_before = p.none_before; none_from = p.none_from; sizes_value = p.sizes_value; number_bound = (omega (arith, d.number), omega (arith, d.number, d.elapsed), omega (arith, l, d.short), l) }

pub returns-in-Refused : goal.returns-in-Refused
returns-in-Refused c =
    let p = c.requires in
    same_follows (heard_as c.before.before _ c.in-Refused.is) (follows_still _ _ _ _ _ _ (unread _ _ _ _) p.none_before p.none_from)

pub returns-in-Data : goal.returns-in-Data
returns-in-Data c =
    let p = c.requires in
    same_follows (heard_as c.before.before.before.before.before.before.before.before.before.before.before.before.before _ c.in-Data.is ∙ packet_judged _ _ _ _ p.sizes_value) c.next_packet.ensures

pub invariant_of-next_closing : goal.invariant_of-next_closing
invariant_of-next_closing c =
    let p = c.requires in
    record { none_before = p.none_before; none_from = p.none_from; explained = explained _ _ p.sizes_value }

pub returns-in-Closing : goal.returns-in-Closing
returns-in-Closing c =
    let p = c.requires in
    same_follows
    (closing_heard _ _ _ _ _ _ (matched_lists _ _ _ p.cases) (sym (read_known c.read_frame-read.result _ c.read_frame-read.ensures)) c.in-Closing.is
    ∙ closing_judged _ _ _ _ p.sizes_value)
    c.next_closing.ensures
