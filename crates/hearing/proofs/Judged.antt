-- A record before a frame is taken: what is known of it once its lists match and it is not damaged, and how the answers of the stages
-- are those of the whole. Assumes nothing.
use Prim.Native.Nat.{ℕ, ◌≤◌, ◌<◌}
use mathlib.Core.Path.{◌≡◌, refl, ap, ◌∙◌}
use mathlib.Core.Logic.{◌⊎◌, ⊎_elim}
use mathlib.Core.Bool.{true, false}
use mathlib.Core.List.{List}
use native.Mathlib.Omega.{arith}
use lib.Dec.{ltb}
use lib.ListN.{length, replicate, get_or-eq_default}
use borrow.Author.Tests.{not-false, lt-ltb, le-ltb}
use Rattle.units.specs.Limits.{last_stamp}
use Rattle.fields.proofs.Tests.{or_false}
use Rattle.frame.specs.declared.ClosingPdu.{ClosingPdu}
use Rattle.frame.specs.declared.DataPdu.{DataPdu}
use Rattle.frame.specs.declared.Read.{Read}
use Rattle.frame.specs.declared.Read.TheVariants.{Closing, Data, ClosingWithLengths, Refused as NotRead}
use Rattle.frame.specs.Reading.{read_frame}
use Rattle.units.specs.declared.refusals.Refusal.{Refusal}
use Rattle.reception.specs.Answers.{Taking}
use Rattle.reception.specs.Sendings.{Held}
use Rattle.reception.specs.Walk.{is_explained}
use Rattle.reception.specs.Damage.{closing_off, places_wrong, walk_fails, damaged_record}
use Rattle.reception.specs.Neighbours.{NoneBefore, NoneFrom}
use Rattle.reception.specs.Hearing.{Kept, Outcome, refuses, takes, lists_differ, unmatched, damaged_kept, unused, open_head, empty_kept, fresh_record, data_pdu, hear_packet, hear_closing, hear_read, hear_frame, Takes}
use Rattle.std.specs.Prelude.{Ok, Err}
use Rattle.units.specs.declared.refusals.Refusal.TheVariants.{CapacitiesDiffer, RecordDamaged, StampTooHigh}

-- a record that is not damaged is explained
pub explained : (stamp : ℕ) (r : Held) → damaged_record stamp r ≡ false → is_explained r ≡ true
unfolding damaged_record walk_fails
explained stamp r h =
    let p = or_false (ltb last_stamp stamp) _ h in
    let q = or_false (closing_off r.closed r.count r.total r.capacity) _ p.1 in
    not-false _ (or_false (places_wrong r r.capacity) _ q.1).1

-- a span of all places leaves none out
pub all_before : (marks : List ℕ) → NoneBefore marks 0
all_before marks = record { none = λ j lt _. omega arith }

pub all_from : (marks : List ℕ) → NoneFrom marks (length marks)
all_from marks =
    record { inside = omega arith; none = λ j le one. let z = get_or-eq_default marks 0 le in omega (arith, z, one) }

-- a promise about an outcome that is another one's name
pub same_outcome : {t u : Outcome} {r : Taking} {marks elapsed sizes : List ℕ} → t ≡ u → Takes u r marks elapsed sizes → Takes t r marks elapsed sizes
same_outcome e p = rw e p

-- a fresh record, in the order of its refusals
module _ (bearer period stamp : ℕ) (marks elapsed sizes : List ℕ) where
  pub fresh_unmatched : lists_differ (length marks) (length elapsed) (length sizes) ≡ true
      → fresh_record bearer period stamp marks elapsed sizes ≡ refuses (unused marks elapsed sizes) CapacitiesDiffer
  unfolding fresh_record
  fresh_unmatched h = rw h refl

  module _ (m : lists_differ (length marks) (length elapsed) (length sizes) ≡ false) where
    pub fresh_high : last_stamp < stamp → fresh_record bearer period stamp marks elapsed sizes ≡ refuses (unused marks elapsed sizes) StampTooHigh
    unfolding fresh_record
    fresh_high h = rw (m, lt-ltb last_stamp stamp h) refl

    pub fresh_taken : stamp ≤ last_stamp → fresh_record bearer period stamp marks elapsed sizes ≡ takes (empty_kept bearer period stamp (length marks))
    unfolding fresh_record
    fresh_taken h = rw (m, le-ltb last_stamp stamp h) refl

-- what a frame was read as, where the record is damaged and where it is not
module _ (k : Kept) (bearer period : ℕ) where
  pub packet_damaged : (d : DataPdu) → damaged_kept k ≡ true → hear_read k bearer period (Data d) ≡ refuses k RecordDamaged
  unfolding hear_read
  packet_damaged d h = rw h refl

  pub packet_judged : (d : DataPdu) → damaged_kept k ≡ false → hear_read k bearer period (Data d) ≡ hear_packet k bearer period d
  unfolding hear_read
  packet_judged d h = rw h refl

  -- a data PDU is heard with the length l of the payload that is handed on
  pub packet_with : (d : DataPdu) (l : ℕ) → d.length.0 ≡ l
      → hear_packet k bearer period d ≡ hear_packet k bearer period (data_pdu d.stamp d.number.0 d.elapsed.0 l)
  packet_with d l e = ap (λ (x : ℕ). hear_packet k bearer period (data_pdu d.stamp d.number.0 d.elapsed.0 x)) e

  pub closing_damaged : (c : ClosingPdu) → damaged_kept k ≡ true → hear_read k bearer period (Closing c) ≡ refuses k RecordDamaged
  unfolding hear_read
  closing_damaged c h = rw h refl

  pub closing_judged : (c : ClosingPdu) → damaged_kept k ≡ false → hear_read k bearer period (Closing c) ≡ hear_closing k bearer period c
  unfolding hear_read
  closing_judged c h = rw h refl

  -- any octets
  pub frame_unmatched : (frame : List ℕ) → unmatched k ≡ true → hear_frame k bearer period frame ≡ refuses k CapacitiesDiffer
  unfolding hear_frame
  frame_unmatched frame h = rw h refl

  pub frame_read : (frame : List ℕ) (x : Read) → unmatched k ≡ false → read_frame frame ≡ x → hear_frame k bearer period frame ≡ hear_read k bearer period x
  unfolding hear_frame
  frame_read frame x h e = rw (h, e) refl

-- an empty record
pub empty_as : (bearer period stamp n : ℕ) {t : Outcome} {r : Taking} {marks elapsed sizes : List ℕ} → t ≡ takes (empty_kept bearer period stamp n)
    → r ≡ record { answer = Ok tt; head = open_head bearer period stamp } → marks ≡ replicate n 0 → elapsed ≡ replicate n 0 → sizes ≡ replicate n 0
    → Takes t r marks elapsed sizes
empty_as bearer period stamp n e q m l s = record { says = rw (e, q) refl; leaves = rw (e, q, m, l, s) refl }

-- a frame that was not read
pub unread : (k : Kept) (bearer period : ℕ) (x : Refusal)
    → Takes (hear_read k bearer period (NotRead x)) (record { answer = Err x; head = k.head }) k.marks k.elapsed k.sizes
unfolding hear_read
unread k bearer period x = record { says = refl; leaves = refl }

-- a closing with lengths is held as its closing only
pub closing_only : (k : Kept) (bearer period : ℕ) (c : ClosingPdu) → hear_read k bearer period (ClosingWithLengths c) ≡ hear_read k bearer period (Closing c)
unfolding hear_read
closing_only k bearer period c = refl

-- so a frame that was read as either is heard as the closing
pub closing_heard : (k : Kept) (bearer period : ℕ) (frame : List ℕ) (x : Read) (c : ClosingPdu) → unmatched k ≡ false → read_frame frame ≡ x
    → (x ≡ Closing c) ⊎ (x ≡ ClosingWithLengths c) → hear_frame k bearer period frame ≡ hear_read k bearer period (Closing c)
closing_heard k bearer period frame x c h r =
    ⊎_elim (λ (e : x ≡ Closing c). frame_read k bearer period frame _ h (r ∙ e))
    (λ (e : x ≡ ClosingWithLengths c). frame_read k bearer period frame _ h (r ∙ e) ∙ closing_only k bearer period c)
