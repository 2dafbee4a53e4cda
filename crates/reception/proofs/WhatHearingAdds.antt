-- What hearing a frame adds to a record: that packet or that closing, and nothing else. And when it is accepted, test by test.
-- Assumes nothing.
use Prim.Native.Nat.{ℕ, ◌≤◌, ◌<◌}
use mathlib.Core.Path.{◌≡◌, refl, sym, ap, ◌∙◌}
use mathlib.Core.Logic.{◌⊎◌, ⊎_elim}
use mathlib.Core.Bool.{Bool, true, false, not}
use mathlib.Core.List.{List}
use lib.Dec.{ltb, leb, eqb}
use lib.ListN.{length}
use borrow.Author.Tests.{ltb-false, leb-false, le-ltb, lt-leb, eqb-true, eq-eqb, not-false}
use Rattle.fields.specs.Choice.{◌when◌otherwise◌}
use Rattle.fields.proofs.Tests.{or_false}
use Rattle.frame.specs.declared.ClosingPdu.{ClosingPdu}
use Rattle.frame.specs.declared.DataPdu.{DataPdu}
use Rattle.frame.specs.declared.Read.TheVariants.{Closing, Data, ClosingWithLengths}
use Rattle.frame.specs.Reading.{read_frame}
use Rattle.reception.specs.declared.Head.{Head}
use Rattle.reception.specs.Adding.{with_packet, with_closing, packet_contradicts, closing_contradicts}
use Rattle.reception.specs.Hearing.{Kept, Outcome, held_by, refuses, takes, unmatched, damaged_kept, other_key, keep_packet, keep_closing, hear_packet, hear_closing, hear_read, hear_frame}
use Rattle.reception.proofs.KeptAsHeld.{MatchedKept, lists_matched, held_packet, SameKey}
use Rattle.reception.proofs.RefusalChangesNothing.{done_not_refused}
use Rattle.std.specs.Prelude.{Ok}
use Rattle.units.specs.declared.refusals.Refusal.TheVariants.{BeyondCapacity, CapacitiesDiffer, Contradiction, OtherSequence, RecordDamaged}
use Rattle.units.specs.declared.refusals.Refusal.{Refusal}

-- an accepted frame passed the first test of a chain
pub passed : (k : Kept) (n : Refusal) (t : Bool) (o : Outcome) → (refuses k n when t otherwise o).answer ≡ Ok tt → (t ≡ false) × (o.answer ≡ Ok tt)
passed k n true o e = absurd (done_not_refused _ (sym e))
passed k n false o e = (refl, e)

-- neither refusal 14 nor 13 applies to a record
pub record Sound (k : Kept) : Type 0 where
  pub matched : unmatched k ≡ false
  pub undamaged : damaged_kept k ≡ false

pub sound_lists : (k : Kept) → Sound k → MatchedKept k
sound_lists k s = lists_matched k.marks k.elapsed k.sizes s.matched

-- the key of a frame is the record's own exactly if refusal 9 does not apply
pub own_key : (h : Head) (bearer period stamp : ℕ) → other_key h bearer period stamp ≡ false
    → (h.bearer ≡ bearer) × (h.period ≡ period) × (h.stamp ≡ stamp)
unfolding other_key
own_key h bearer period stamp e =
    let p = or_false (not (eqb h.bearer bearer)) _ e in
    let q = or_false (not (eqb h.period period)) (not (eqb h.stamp stamp)) p.1 in
    (eqb-true _ _ (not-false _ p.0), eqb-true _ _ (not-false _ q.0), eqb-true _ _ (not-false _ q.1))

pub owned_key : (h : Head) (bearer period stamp : ℕ) → h.bearer ≡ bearer → h.period ≡ period → h.stamp ≡ stamp → other_key h bearer period stamp ≡ false
unfolding other_key
owned_key h bearer period stamp b p s = simp (eq-eqb h.bearer bearer b, eq-eqb h.period period p, eq-eqb h.stamp stamp s)

pub key_owned : (h : Head) → other_key h h.bearer h.period h.stamp ≡ false
key_owned h = owned_key h _ _ _ refl refl refl

-- none of 9, 10, 11 applies to a packet
pub record PacketFits (k : Kept) (bearer period : ℕ) (d : DataPdu) : Type 0 where
  pub own : other_key k.head bearer period d.stamp ≡ false
  pub below : d.number.0 < length k.marks
  pub agrees : packet_contradicts (held_by k) d.number.0 d.elapsed.0 d.length.0 ≡ false

pub data_accepted : (k : Kept) (bearer period : ℕ) (f : List ℕ) (d : DataPdu) → read_frame f ≡ Data d
    → (hear_frame k bearer period f).answer ≡ Ok tt → Sound k × PacketFits k bearer period d
unfolding hear_frame hear_read hear_packet
data_accepted k bearer period f d e a =
    let p1 = passed k CapacitiesDiffer (unmatched k) _ a in
    let h : (hear_read k bearer period (Data d)).answer ≡ Ok tt = rw e at p1.1 in
    let p2 = passed k RecordDamaged (damaged_kept k) _ h in
    let p3 = passed k OtherSequence (other_key k.head bearer period d.stamp) _ p2.1 in
    let p4 = passed k BeyondCapacity (leb (length k.marks) d.number.0) _ p3.1 in
    let p5 = passed k Contradiction (packet_contradicts (held_by k) d.number.0 d.elapsed.0 d.length.0) _ p4.1 in
    (record { matched = p1.0; undamaged = p2.0 }, record { own = p3.0; below = leb-false _ _ p4.0; agrees = p5.0 })

-- a sound record goes on to what the frame says
pub heard_data : (k : Kept) (bearer period : ℕ) (f : List ℕ) (d : DataPdu) → read_frame f ≡ Data d → Sound k
    → hear_frame k bearer period f ≡ hear_packet k bearer period d
unfolding hear_frame hear_read
heard_data k bearer period f d e s = simp (s.matched, e, s.undamaged)

-- and takes a packet to which none of the refusals applies
pub data_taken : (k : Kept) (bearer period : ℕ) (f : List ℕ) (d : DataPdu) → read_frame f ≡ Data d → Sound k → PacketFits k bearer period d
    → hear_frame k bearer period f ≡ takes (keep_packet k d.number.0 d.elapsed.0 d.length.0)
unfolding hear_packet
data_taken k bearer period f d e s q =
    heard_data k bearer period f d e s ∙ simp (q.own, lt-leb (length k.marks) d.number.0 q.below, q.agrees)

-- the record after is the one before with that packet kept, and with nothing else
pub record PacketHeard (k : Kept) (d : DataPdu) (after : Kept) : Type 0 where
  pub kept_is : after ≡ keep_packet k d.number.0 d.elapsed.0 d.length.0
  pub holds : held_by after ≡ with_packet (held_by k) d.number.0 d.elapsed.0 d.length.0
  pub below : d.number.0 < length k.marks
  pub same_head : after.head ≡ k.head

pub packet_heard : (k : Kept) (bearer period : ℕ) (f : List ℕ) (d : DataPdu) → read_frame f ≡ Data d
    → (hear_frame k bearer period f).answer ≡ Ok tt → PacketHeard k d (hear_frame k bearer period f).kept
packet_heard k bearer period f d e a =
    let p = data_accepted k bearer period f d e a in
    let q = ap (λ (o : Outcome). o.kept) (data_taken k bearer period f d e p.0 p.1) in
    record {
      kept_is = q;
      holds = ap held_by q ∙ held_packet k _ _ _ (sound_lists k p.0) p.1.below;
      below = p.1.below;
      same_head = ap (λ (x : Kept). x.head) q;
    }

-- a frame is read as a closing, of Type 0 or 3
abbrev pub ReadAsClosing : List ℕ → ClosingPdu → Type 0
ReadAsClosing f c = (read_frame f ≡ Closing c) ⊎ (read_frame f ≡ ClosingWithLengths c)

-- none of 9, 10, 11 applies to it
pub record ClosingFits (k : Kept) (bearer period : ℕ) (c : ClosingPdu) : Type 0 where
  pub own : other_key k.head bearer period c.stamp ≡ false
  pub within : c.number.0 ≤ length k.marks
  pub agrees : closing_contradicts (held_by k) c.number.0 c.elapsed.0 ≡ false

pub heard_closing : (k : Kept) (bearer period : ℕ) (f : List ℕ) (c : ClosingPdu) → ReadAsClosing f c → Sound k
    → hear_frame k bearer period f ≡ hear_closing k bearer period c
unfolding hear_frame hear_read
heard_closing k bearer period f c e s =
    ⊎_elim (λ (t : read_frame f ≡ Closing c). simp (s.matched, t, s.undamaged))
    (λ (t : read_frame f ≡ ClosingWithLengths c). simp (s.matched, t, s.undamaged)) e

-- only a sound record takes a closing
closing_sound : (k : Kept) (bearer period : ℕ) (f : List ℕ) (c : ClosingPdu) → ReadAsClosing f c
    → (hear_frame k bearer period f).answer ≡ Ok tt → Sound k
unfolding hear_frame hear_read
closing_sound k bearer period f c e a =
    let p1 = passed k CapacitiesDiffer (unmatched k) _ a in
    let go : (hear_read k bearer period (Closing c)).answer ≡ Ok tt → Sound k =
    λ h. record { matched = p1.0; undamaged = (passed k RecordDamaged (damaged_kept k) _ h).0 }
    in
    ⊎_elim (λ (t : read_frame f ≡ Closing c). go (rw t at p1.1)) (λ (t : read_frame f ≡ ClosingWithLengths c). go (rw t at p1.1)) e

pub closing_accepted : (k : Kept) (bearer period : ℕ) (f : List ℕ) (c : ClosingPdu) → ReadAsClosing f c
    → (hear_frame k bearer period f).answer ≡ Ok tt → Sound k × ClosingFits k bearer period c
unfolding hear_closing
closing_accepted k bearer period f c e a =
    let s = closing_sound k bearer period f c e a in
    let h : (hear_closing k bearer period c).answer ≡ Ok tt = rw (heard_closing k bearer period f c e s) at a in
    let p1 = passed k OtherSequence (other_key k.head bearer period c.stamp) _ h in
    let p2 = passed k BeyondCapacity (ltb (length k.marks) c.number.0) _ p1.1 in
    let p3 = passed k Contradiction (closing_contradicts (held_by k) c.number.0 c.elapsed.0) _ p2.1 in
    (s, record { own = p1.0; within = ltb-false _ _ p2.0; agrees = p3.0 })

pub closing_taken : (k : Kept) (bearer period : ℕ) (f : List ℕ) (c : ClosingPdu) → ReadAsClosing f c → Sound k → ClosingFits k bearer period c
    → hear_frame k bearer period f ≡ takes (keep_closing k c.number.0 c.elapsed.0)
unfolding hear_closing
closing_taken k bearer period f c e s q =
    heard_closing k bearer period f c e s ∙ simp (q.own, le-ltb (length k.marks) c.number.0 q.within, q.agrees)

-- the record after is the one before with that closing, and with nothing else
pub record ClosingHeard (k : Kept) (c : ClosingPdu) (after : Kept) : Type 0 where
  pub kept_is : after ≡ keep_closing k c.number.0 c.elapsed.0
  pub holds : held_by after ≡ with_closing (held_by k) c.number.0 c.elapsed.0
  pub within : c.number.0 ≤ length k.marks
  pub same_key : SameKey after.head k.head

pub closing_heard : (k : Kept) (bearer period : ℕ) (f : List ℕ) (c : ClosingPdu) → ReadAsClosing f c
    → (hear_frame k bearer period f).answer ≡ Ok tt → ClosingHeard k c (hear_frame k bearer period f).kept
closing_heard k bearer period f c e a =
    let p = closing_accepted k bearer period f c e a in
    let q = ap (λ (o : Outcome). o.kept) (closing_taken k bearer period f c e p.0 p.1) in
    record {
      kept_is = q;
      holds = ap held_by q;
      within = p.1.within;
      same_key =
          record {
            bearers = ap (λ (x : Kept). x.head.bearer) q;
            periods = ap (λ (x : Kept). x.head.period) q;
            stamps = ap (λ (x : Kept). x.head.stamp) q;
          };
    }
