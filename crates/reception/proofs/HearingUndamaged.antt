-- A sound record stays sound whatever frame it hears, and a fresh record is sound. Assumes nothing.
use Prim.Native.Nat.{ℕ, ◌≤◌, ◌<◌}
use mathlib.Core.Path.{◌≡◌, sym, subst}
use mathlib.Core.Bool.{false}
use mathlib.Core.List.{List}
use lib.Dec.{ltb, leb}
use lib.ListN.{length}
use borrow.Author.Tests.{ltb-false, leb-false}
use Rattle.units.specs.Limits.{last_stamp, most_capacity}
use Rattle.fields.proofs.Choosing.{whichever}
use Rattle.frame.specs.declared.ClosingPdu.{ClosingPdu}
use Rattle.frame.specs.declared.DataPdu.{DataPdu}
use Rattle.frame.specs.declared.Read.{Read}
use Rattle.frame.specs.declared.Read.TheVariants.{Closing, Data, ClosingWithLengths, Refused as NotRead}
use Rattle.frame.specs.Reading.{read_frame}
use Rattle.reception.specs.Sendings.{Held}
use Rattle.reception.specs.Damage.{Undamaged, damaged_record}
use Rattle.reception.specs.Adding.{packet_contradicts, closing_contradicts}
use Rattle.reception.specs.Hearing.{Kept, Outcome, held_by, lists_differ, unmatched, damaged_kept, other_key, empty_kept, fresh_record, keep_packet, keep_closing, hear_packet, hear_closing, hear_read, hear_frame}
use Rattle.reception.proofs.DamagedExactly.{passed_undamaged, undamaged_passed}
use Rattle.reception.proofs.KeptAsHeld.{lists_matched, matched_lists, held_packet, held_empty, empty_matched, packet_matched}
use Rattle.reception.proofs.StaysUndamaged.{packet_added, closing_added, empty_undamaged}
use Rattle.reception.proofs.WhatHearingAdds.{Sound, sound_lists, passed}
use Rattle.std.specs.Prelude.{Ok}
use Rattle.units.specs.declared.refusals.Refusal.TheVariants.{CapacitiesDiffer, StampTooHigh}

-- what a sound record holds is undamaged
pub sound_undamaged : (k : Kept) → Sound k → Undamaged k.head.stamp (held_by k)
sound_undamaged k s = passed_undamaged k.head.stamp (held_by k) (sound_lists k s).room s.undamaged

-- a packet that does not contradict, kept
pub packet_sound : (k : Kept) (n e l : ℕ) → Sound k → n < length k.marks → packet_contradicts (held_by k) n e l ≡ false
    → Sound (keep_packet k n e l)
packet_sound k n e l s lt h =
    let m = sound_lists k s in
    record {
      matched = matched_lists _ _ _ (packet_matched k n e l m);
      undamaged = subst (λ (r : Held). damaged_record k.head.stamp r ≡ false) (sym (held_packet k n e l m lt))
          (undamaged_passed _ _ (packet_added k.head.stamp (held_by k) n e l m.room (sound_undamaged k s) lt h));
    }

-- and a closing
pub closing_sound : (k : Kept) (n t : ℕ) → Sound k → n ≤ length k.marks → closing_contradicts (held_by k) n t ≡ false
    → Sound (keep_closing k n t)
closing_sound k n t s le h =
    record {
      matched = s.matched;
      undamaged =
          undamaged_passed _ _ (closing_added k.head.stamp (held_by k) n t (sound_lists k s).room (sound_undamaged k s) le h);
    }

abbrev LeftSound : Outcome → Type 0
LeftSound o = Sound o.kept

after_packet : (k : Kept) (bearer period : ℕ) (d : DataPdu) → Sound k → LeftSound (hear_packet k bearer period d)
unfolding hear_packet
after_packet k bearer period d s =
    whichever LeftSound _ _ (other_key k.head bearer period d.stamp) s
    (λ _.
    whichever LeftSound _ _ (leb (length k.marks) d.number.0) s
    (λ below.
    whichever LeftSound _ _ (packet_contradicts (held_by k) d.number.0 d.elapsed.0 d.length.0) s
    (λ agrees. packet_sound k _ _ _ s (leb-false _ _ below) agrees)))

after_closing : (k : Kept) (bearer period : ℕ) (c : ClosingPdu) → Sound k → LeftSound (hear_closing k bearer period c)
unfolding hear_closing
after_closing k bearer period c s =
    whichever LeftSound _ _ (other_key k.head bearer period c.stamp) s
    (λ _.
    whichever LeftSound _ _ (ltb (length k.marks) c.number.0) s
    (λ within.
    whichever LeftSound _ _ (closing_contradicts (held_by k) c.number.0 c.elapsed.0) s
    (λ agrees. closing_sound k _ _ s (ltb-false _ _ within) agrees)))

after_read : (k : Kept) (bearer period : ℕ) (x : Read) → Sound k → LeftSound (hear_read k bearer period x)
unfolding hear_read
after_read k bearer period (NotRead r) s = s
after_read k bearer period (Data d) s = whichever LeftSound _ _ (damaged_kept k) s (λ _. after_packet k bearer period d s)
after_read k bearer period (Closing c) s = whichever LeftSound _ _ (damaged_kept k) s (λ _. after_closing k bearer period c s)
after_read k bearer period (ClosingWithLengths c) s = whichever LeftSound _ _ (damaged_kept k) s (λ _. after_closing k bearer period c s)

-- hearing makes no record damaged, nor its lists of different lengths
pub stays_sound : (k : Kept) (bearer period : ℕ) (f : List ℕ) → Sound k → Sound (hear_frame k bearer period f).kept
unfolding hear_frame
stays_sound k bearer period f s = whichever LeftSound _ _ (unmatched k) s (λ _. after_read k bearer period (read_frame f) s)

pub stays_undamaged : (k : Kept) (bearer period : ℕ) (f : List ℕ) → unmatched k ≡ false → damaged_kept k ≡ false
    → (unmatched (hear_frame k bearer period f).kept ≡ false) × (damaged_kept (hear_frame k bearer period f).kept ≡ false)
stays_undamaged k bearer period f m u =
    let s = stays_sound k bearer period f (record { matched = m; undamaged = u }) in (s.matched, s.undamaged)

-- an empty record of a stamp and a capacity within the limits
pub empty_sound : (bearer period stamp c : ℕ) → stamp ≤ last_stamp → c ≤ most_capacity → Sound (empty_kept bearer period stamp c)
empty_sound bearer period stamp c st le =
    record {
      matched = matched_lists _ _ _ (empty_matched bearer period stamp c le);
      undamaged = subst (λ (r : Held). damaged_record stamp r ≡ false) (sym (held_empty bearer period stamp c))
          (undamaged_passed _ _ (empty_undamaged stamp c st));
    }

-- what a fresh record is where it is not refused
pub record Fresh (bearer period stamp capacity : ℕ) (k : Kept) : Type 0 where
  pub kept_is : k ≡ empty_kept bearer period stamp capacity
  pub sound : Sound k

pub fresh_undamaged : (bearer period stamp : ℕ) (marks elapsed sizes : List ℕ)
    → (fresh_record bearer period stamp marks elapsed sizes).answer ≡ Ok tt
    → Fresh bearer period stamp (length marks) (fresh_record bearer period stamp marks elapsed sizes).kept
unfolding fresh_record
fresh_undamaged bearer period stamp marks elapsed sizes e =
    let p1 = passed _ CapacitiesDiffer (lists_differ (length marks) (length elapsed) (length sizes)) _ e in
    let p2 = passed _ StampTooHigh (ltb last_stamp stamp) _ p1.1 in
    let m = lists_matched marks elapsed sizes p1.0 in
    let w : (fresh_record bearer period stamp marks elapsed sizes).kept ≡ empty_kept bearer period stamp (length marks) = simp (p1.0, p2.0) in
    record { kept_is = w; sound = rw w (empty_sound bearer period stamp (length marks) (ltb-false _ _ p2.0) m.room) }
