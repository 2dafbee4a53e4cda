-- Nothing was heard outside of the span after a packet was taken, or was not. Assumes nothing.
use Prim.Native.Nat.{ℕ, ◌<◌}
use mathlib.Core.Path.{◌≡◌, sym, ap, ◌∙◌}
use mathlib.Core.Logic.{⊎_elim}
use mathlib.Core.Bool.{true, false}
use mathlib.Core.List.{List}
use native.Mathlib.Omega.{arith}
use lib.Dec.{leb}
use lib.ListN.{length, set, length-set}
use lib.Seq.{get_or-set_other}
use borrow.Author.Tests.{leb-true, leb-false}
use Rattle.fields.proofs.Tests.{either}
use Rattle.frame.specs.declared.DataPdu.{DataPdu}
use Rattle.reception.specs.Answers.{Taking}
use Rattle.reception.specs.Adding.{packet_contradicts}
use Rattle.reception.specs.Hearing.{Kept, held_by, Outcome, refuses, takes, other_key, keep_packet, hear_packet, Takes}
use Rattle.reception.specs.Neighbours.{NoneBefore, NoneFrom}
use Rattle.reception.proofs.OnePaper.{taken_known}
use Rattle.hearing.proofs.Answered.{packet_other, packet_beyond, packet_off_fact, packet_taken}
use Rattle.hearing.specs.declared.contradicting.Span.{Span}
use Rattle.hearing.specs.declared.following.Following.{Following}
use Rattle.hearing.specs.Following.{with_place, span_after, followed, Follows}
use Rattle.std.specs.Prelude.{Ok, Err}
use Rattle.units.specs.declared.refusals.Refusal.{Refusal}

-- a mark set at place k
pub wider_before : (marks : List ℕ) (s : Span) (k : ℕ) → NoneBefore marks s.first → NoneBefore (set marks k 1) (with_place s k).first
wider_before marks s k o =
    record {
      none = λ j lt one.
          let same = get_or-set_other marks k j 1 0 (λ e. omega (arith, e, lt)) in
          o.none j (omega (arith, lt)) (sym same ∙ one);
    }

pub wider_from : (marks : List ℕ) (s : Span) (k : ℕ) → k < length marks → NoneFrom marks s.end → NoneFrom (set marks k 1) (with_place s k).end
wider_from marks s k lt o =
    record {
      inside = omega (arith, length-set marks k 1, lt, o.inside);
      none = λ j le one.
          let same = get_or-set_other marks k j 1 0 (λ e. omega (arith, e, le)) in
          o.none j (omega (arith, le)) (sym same ∙ one);
    }

-- a data PDU is taken, or leaves the record as it was
data PacketDone (k : Kept) (d : DataPdu) (t : Outcome) : Type 0 where
  taken : d.number.0 < length k.marks → t ≡ takes (keep_packet k d.number.0 d.elapsed.0 d.length.0) → PacketDone k d t
  refused : (n : Refusal) → t ≡ refuses k n → PacketDone k d t

packet_done : (k : Kept) (bearer period : ℕ) (d : DataPdu) → PacketDone k d (hear_packet k bearer period d)
packet_done k bearer period d =
    ⊎_elim (λ (o : other_key k.head bearer period d.stamp ≡ true). refused _ (packet_other k bearer period d o))
    (λ (o : other_key k.head bearer period d.stamp ≡ false).
    ⊎_elim (λ (h : leb (length k.marks) d.number.0 ≡ true). refused _ (packet_beyond k bearer period d o (leb-true _ _ h)))
    (λ (h : leb (length k.marks) d.number.0 ≡ false).
    let lt = leb-false (length k.marks) d.number.0 h in
    ⊎_elim
    (λ (w : packet_contradicts (held_by k) d.number.0 d.elapsed.0 d.length.0 ≡ true). refused _ (packet_off_fact k bearer period d o lt w))
    (λ (w : packet_contradicts (held_by k) d.number.0 d.elapsed.0 d.length.0 ≡ false). taken lt (packet_taken k bearer period d o lt w))
    (either (packet_contradicts (held_by k) d.number.0 d.elapsed.0 d.length.0)))
    (either (leb (length k.marks) d.number.0)))
    (either (other_key k.head bearer period d.stamp))

-- the span after a data PDU, by what became of it
span_right : (k : Kept) (d : DataPdu) (u : Outcome) (t : Taking) (marks elapsed sizes : List ℕ) (s : Span) → PacketDone k d u
    → Takes u t marks elapsed sizes → NoneBefore k.marks s.first → NoneFrom k.marks s.end
    → NoneBefore marks (span_after t.answer s d.number.0).first × NoneFrom marks (span_after t.answer s d.number.0).end
span_right k d u t marks elapsed sizes s (taken lt e) p o f =
    let a = taken_known t.answer (Ok tt) (rw e at p.says) in
    let m : marks ≡ set k.marks d.number.0 1 = ap (λ (x : Kept). x.marks) (rw e at p.leaves) in
    rw (a, m) (wider_before k.marks s d.number.0 o, wider_from k.marks s d.number.0 lt f)
span_right k d u t marks elapsed sizes s (refused n e) p o f =
    let a = taken_known t.answer (Err n) (rw e at p.says) in
    let m : marks ≡ k.marks = ap (λ (x : Kept). x.marks) (rw e at p.leaves) in
    rw (a, m) (o, f)

pub follows_packet : (k : Kept) (bearer period : ℕ) (d : DataPdu) (t : Taking) (marks elapsed sizes : List ℕ) (s : Span)
    → Takes (hear_packet k bearer period d) t marks elapsed sizes → NoneBefore k.marks s.first → NoneFrom k.marks s.end
    → Follows (hear_packet k bearer period d) (followed t s d.number.0) marks elapsed sizes
follows_packet k bearer period d t marks elapsed sizes s p o f =
    let q = span_right k d _ t marks elapsed sizes s (packet_done k bearer period d) p o f in
    record { taken = p; before = q.0; from_end = q.1 }

-- where the lists stay as they are, so does the span
pub follows_still : (u : Outcome) (t : Taking) (marks elapsed sizes : List ℕ) (s : Span) → Takes u t marks elapsed sizes → NoneBefore marks s.first
    → NoneFrom marks s.end → Follows u (record { answer = t.answer; head = t.head; span = s }) marks elapsed sizes
follows_still u t marks elapsed sizes s p o f = record { taken = p; before = o; from_end = f }

-- a promise about an outcome that is another one's name
pub same_follows : {t u : Outcome} {r : Following} {marks elapsed sizes : List ℕ} → t ≡ u → Follows u r marks elapsed sizes → Follows t r marks elapsed sizes
same_follows e p = rw e p
