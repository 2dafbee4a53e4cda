-- A sound record that hears again, with its own key, what it holds accepts it and does not change. Assumes nothing.
use Prim.Native.Nat.{ℕ, ◌<◌}
use mathlib.Core.Path.{◌≡◌, sym, ap, ◌∙◌}
use mathlib.Core.Logic.{⊎_elim}
use mathlib.Core.Bool.{true, false}
use mathlib.Core.List.{List}
use native.Mathlib.Omega.{arith}
use lib.Dec.{ltb}
use lib.ListN.{length, get_or, set, get_or-eq_default}
use lib.Seq.{set-get_or}
use borrow.Author.Tests.{ltb-true, ltb-false, eq-eqb}
use Rattle.fields.proofs.Tests.{either}
use Rattle.frame.specs.declared.ClosingPdu.{ClosingPdu}
use Rattle.frame.specs.declared.DataPdu.{DataPdu}
use Rattle.frame.specs.declared.Read.TheVariants.{Data}
use Rattle.frame.specs.Reading.{read_frame}
use Rattle.reception.specs.Adding.{packet_contradicts, closing_contradicts}
use Rattle.reception.specs.Hearing.{Kept, held_by, takes, other_key, keep_packet, keep_closing, hear_frame}
use Rattle.reception.proofs.ContradictsExactly.{same_pair}
use Rattle.reception.proofs.HearingUndamaged.{sound_undamaged}
use Rattle.reception.proofs.WhatHearingAdds.{Sound, data_taken, ReadAsClosing, closing_taken}

-- the record holds that packet
pub record HoldsPacket (k : Kept) (d : DataPdu) : Type 0 where
  pub marked : get_or k.marks d.number.0 0 ≡ 1
  pub elapsed_is : get_or k.elapsed d.number.0 0 ≡ d.elapsed.0
  pub length_is : get_or k.sizes d.number.0 0 ≡ d.length.0

-- a place that does not read as zero is one of the list's
marked_below : (l : List ℕ) (n : ℕ) → get_or l n 0 ≡ 1 → n < length l
marked_below l n e =
    ⊎_elim (λ t. ltb-true n (length l) t)
    (λ t. let z : ◌≡◌ {A = ℕ} 0 1 = sym (get_or-eq_default l 0 (ltb-false n (length l) t)) ∙ e in absurd (omega (arith, z)))
    (either (ltb n (length l)))

-- what stands there set again
set_again : (l : List ℕ) (n a : ℕ) → get_or l n 0 ≡ a → set l n a ≡ l
set_again l n a e = ap (set l n) (sym e) ∙ set-get_or l n 0

pub packet_kept_again : (k : Kept) (d : DataPdu) → HoldsPacket k d → keep_packet k d.number.0 d.elapsed.0 d.length.0 ≡ k
packet_kept_again k d h =
    λ i.
    record {
      head = k.head;
      marks = set_again k.marks d.number.0 1 h.marked i;
      elapsed = set_again k.elapsed d.number.0 d.elapsed.0 h.elapsed_is i;
      sizes = set_again k.sizes d.number.0 d.length.0 h.length_is i;
    }

held_agrees : (k : Kept) (d : DataPdu) → HoldsPacket k d
    → packet_contradicts (held_by k) d.number.0 d.elapsed.0 d.length.0 ≡ false
unfolding packet_contradicts
held_agrees k d h = rw (eq-eqb (get_or k.marks d.number.0 0) 1 h.marked) (same_pair _ _ _ _ h.elapsed_is h.length_is)

pub packet_heard_again : (k : Kept) (bearer period : ℕ) (f : List ℕ) (d : DataPdu) → read_frame f ≡ Data d → Sound k
    → other_key k.head bearer period d.stamp ≡ false → HoldsPacket k d → hear_frame k bearer period f ≡ takes k
packet_heard_again k bearer period f d e s own h =
    data_taken k bearer period f d e s
    (record { own = own; below = marked_below k.marks d.number.0 h.marked; agrees = held_agrees k d h })
    ∙ ap takes (packet_kept_again k d h)

-- the record holds that closing
pub record HoldsClosing (k : Kept) (c : ClosingPdu) : Type 0 where
  pub closed_is : k.head.closed ≡ true
  pub count_is : k.head.count.0 ≡ c.number.0
  pub total_is : k.head.total.0 ≡ c.elapsed.0

pub closing_kept_again : (k : Kept) (c : ClosingPdu) → HoldsClosing k c → keep_closing k c.number.0 c.elapsed.0 ≡ k
closing_kept_again k c h =
    λ i.
    record {
      head =
          record {
            bearer = k.head.bearer;
            period = k.head.period;
            stamp = k.head.stamp;
            closed = sym h.closed_is i;
            count = record { 0 = sym h.count_is i };
            total = record { 0 = sym h.total_is i };
          };
      marks = k.marks;
      elapsed = k.elapsed;
      sizes = k.sizes;
    }

closed_agrees : (k : Kept) (c : ClosingPdu) → HoldsClosing k c → closing_contradicts (held_by k) c.number.0 c.elapsed.0 ≡ false
unfolding closing_contradicts
closed_agrees k c h = rw h.closed_is (same_pair _ _ _ _ h.count_is h.total_is)

pub closing_heard_again : (k : Kept) (bearer period : ℕ) (f : List ℕ) (c : ClosingPdu) → ReadAsClosing f c → Sound k
    → other_key k.head bearer period c.stamp ≡ false → HoldsClosing k c → hear_frame k bearer period f ≡ takes k
closing_heard_again k bearer period f c e s own h =
    closing_taken k bearer period f c e s
    (record { own = own; within = rw h.count_is at (sound_undamaged k s).within; agrees = closed_agrees k c h })
    ∙ ap takes (closing_kept_again k c h)
