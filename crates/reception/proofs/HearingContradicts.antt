-- A sound record that hears a frame with its own key and within its capacity refuses it with 11 exactly if no sending explains the record
-- and has the packet, or the closing, too. Assumes nothing.
use Prim.Native.Nat.{ℕ, ◌≤◌, ◌<◌}
use mathlib.Core.Path.{◌≡◌, sym, ap, ◌∙◌}
use mathlib.Core.Logic.{⊎_elim}
use mathlib.Core.Bool.{true, false}
use mathlib.Core.List.{List}
use native.Mathlib.Omega.{arith}
use lib.ListN.{length, get_or}
use borrow.Author.Tests.{le-ltb, lt-leb}
use Rattle.units.specs.Limits.{most_in_sequence}
use Rattle.fields.proofs.Tests.{either}
use Rattle.frame.specs.declared.ClosingPdu.{ClosingPdu}
use Rattle.frame.specs.declared.DataPdu.{DataPdu}
use Rattle.frame.specs.declared.Read.TheVariants.{Data}
use Rattle.frame.specs.Reading.{read_frame}
use Rattle.reception.specs.Sendings.{Sent, Whole, Explains, Explained}
use Rattle.reception.specs.Walk.{is_heard}
use Rattle.reception.specs.Adding.{with_packet, with_closing, packet_contradicts, closing_contradicts}
use Rattle.reception.specs.Hearing.{Kept, Outcome, held_by, refuses, other_key, hear_packet, hear_closing, hear_frame}
use Rattle.reception.proofs.ContradictsExactly.{explains_added, added_explains, packet_agrees, agreeing_packet, explains_closed, closed_explains, closing_agrees, agreeing_closing}
use Rattle.reception.proofs.HearingUndamaged.{sound_undamaged}
use Rattle.reception.proofs.RefusalChangesNothing.{done_not_refused}
use Rattle.reception.proofs.StaysUndamaged.{sized}
use Rattle.reception.proofs.WhatHearingAdds.{Sound, sound_lists, heard_data, data_accepted, data_taken, ReadAsClosing, heard_closing, closing_accepted, closing_taken}
use Rattle.std.specs.Prelude.{Ok, Err}
use Rattle.units.specs.declared.refusals.Refusal.TheVariants.{Contradiction}

-- an accepted packet is one of a sending that explains the record
pub packet_explained : (k : Kept) (bearer period : ℕ) (f : List ℕ) (d : DataPdu) → read_frame f ≡ Data d
    → (hear_frame k bearer period f).answer ≡ Ok tt
    → (s : List ℕ) × Explains (held_by k) s × Sent s d.number.0 d.elapsed.0 d.length.0
packet_explained k bearer period f d e a =
    let p = data_accepted k bearer period f d e a in
    let u = sound_undamaged k p.0 in
    packet_agrees (held_by k) _ _ _ (sized _ _ (sound_lists k p.0).room u) p.1.below u.explained p.1.agrees

module _ (k : Kept) (bearer period : ℕ) (f : List ℕ) (d : DataPdu) (e : read_frame f ≡ Data d) (sound : Sound k)
    (own : other_key k.head bearer period d.stamp ≡ false) (below : d.number.0 < length k.marks) where
  agreed : packet_contradicts (held_by k) d.number.0 d.elapsed.0 d.length.0 ≡ false → (hear_frame k bearer period f).answer ≡ Ok tt
  agreed h = ap (λ (o : Outcome). o.answer) (data_taken k bearer period f d e sound (record { own = own; below = below; agrees = h }))

  pub contradicting_packet : packet_contradicts (held_by k) d.number.0 d.elapsed.0 d.length.0 ≡ true
      → hear_frame k bearer period f ≡ refuses k Contradiction
  unfolding hear_packet
  contradicting_packet h =
      heard_data k bearer period f d e sound ∙ simp (own, lt-leb (length k.marks) d.number.0 below, h)

  -- a packet of a sending that explains the record is accepted
  pub explained_packet : (s : List ℕ) → Explains (held_by k) s → Sent s d.number.0 d.elapsed.0 d.length.0
      → (hear_frame k bearer period f).answer ≡ Ok tt
  explained_packet s x w = agreed (agreeing_packet (held_by k) _ _ _ s below x w)

  -- a packet of no such sending is refused with 11
  pub unexplained_packet : ((s : List ℕ) → Explains (held_by k) s → Sent s d.number.0 d.elapsed.0 d.length.0 → ⊥)
      → hear_frame k bearer period f ≡ refuses k Contradiction
  unexplained_packet never =
      ⊎_elim contradicting_packet
      (λ t. let x = packet_explained k bearer period f d e (agreed t) in absurd (never x.0 x.1 x.2))
      (either (packet_contradicts (held_by k) d.number.0 d.elapsed.0 d.length.0))

  -- and one that is refused with 11 is of no such sending
  pub refused_packet : (hear_frame k bearer period f).answer ≡ Err Contradiction
      → (s : List ℕ) → Explains (held_by k) s → Sent s d.number.0 d.elapsed.0 d.length.0 → ⊥
  refused_packet r s x w = done_not_refused _ (sym (explained_packet s x w) ∙ r)

  -- where its place is unheard: it is accepted exactly if some sending explains the record with it
  pub new_packet_explained : (hear_frame k bearer period f).answer ≡ Ok tt
      → Explained (with_packet (held_by k) d.number.0 d.elapsed.0 d.length.0)
  new_packet_explained a =
      let x = packet_explained k bearer period f d e a in
      (x.0, explains_added (held_by k) _ _ _ x.0 x.1 x.2)

  pub explained_new_packet : is_heard (held_by k) d.number.0 ≡ false
      → Explained (with_packet (held_by k) d.number.0 d.elapsed.0 d.length.0) → (hear_frame k bearer period f).answer ≡ Ok tt
  explained_new_packet new x =
      let p = added_explains (held_by k) _ _ _ x.0 below new x.1 in
      explained_packet x.0 p.0 p.1

  -- so it is refused with 11 exactly if none does
  pub unexplained_new_packet : (Explained (with_packet (held_by k) d.number.0 d.elapsed.0 d.length.0) → ⊥)
      → hear_frame k bearer period f ≡ refuses k Contradiction
  unexplained_new_packet never = unexplained_packet (λ s x w. never (s, explains_added (held_by k) _ _ _ s x w))

  pub refused_new_packet : is_heard (held_by k) d.number.0 ≡ false
      → (hear_frame k bearer period f).answer ≡ Err Contradiction
      → Explained (with_packet (held_by k) d.number.0 d.elapsed.0 d.length.0) → ⊥
  refused_new_packet new r x = done_not_refused _ (sym (explained_new_packet new x) ∙ r)

  -- where its place holds a packet of other octets, it is refused with 11
  pub other_packet_refused : get_or k.marks d.number.0 0 ≡ 1
      → ((get_or k.elapsed d.number.0 0 ≡ d.elapsed.0) × (get_or k.sizes d.number.0 0 ≡ d.length.0) → ⊥)
      → hear_frame k bearer period f ≡ refuses k Contradiction
  other_packet_refused marked other =
      unexplained_packet
      (λ s x w.
      let v = x.packets d.number.0 (record { below = below; marked = marked }) in
      other (sym v.before_is ∙ w.before_is, sym v.length_is ∙ w.length_is))

-- the same of a closing
pub closing_explained : (k : Kept) (bearer period : ℕ) (f : List ℕ) (c : ClosingPdu) → ReadAsClosing f c
    → (hear_frame k bearer period f).answer ≡ Ok tt → (s : List ℕ) × Explains (held_by k) s × Whole s c.number.0 c.elapsed.0
closing_explained k bearer period f c e a =
    let p = closing_accepted k bearer period f c e a in
    let u = sound_undamaged k p.0 in
    let room = (sound_lists k p.0).room in
    let few : c.number.0 ≤ most_in_sequence = omega (arith, room, p.1.within) in
    closing_agrees (held_by k) _ _ (sized _ _ room u) few u.explained p.1.agrees

module _ (k : Kept) (bearer period : ℕ) (f : List ℕ) (c : ClosingPdu) (e : ReadAsClosing f c) (sound : Sound k)
    (own : other_key k.head bearer period c.stamp ≡ false) (within : c.number.0 ≤ length k.marks) where
  agreed_closing : closing_contradicts (held_by k) c.number.0 c.elapsed.0 ≡ false → (hear_frame k bearer period f).answer ≡ Ok tt
  agreed_closing h =
      ap (λ (o : Outcome). o.answer) (closing_taken k bearer period f c e sound (record { own = own; within = within; agrees = h }))

  pub contradicting_closing : closing_contradicts (held_by k) c.number.0 c.elapsed.0 ≡ true
      → hear_frame k bearer period f ≡ refuses k Contradiction
  unfolding hear_closing
  contradicting_closing h =
      heard_closing k bearer period f c e sound ∙ simp (own, le-ltb (length k.marks) c.number.0 within, h)

  pub explained_closing : (s : List ℕ) → Explains (held_by k) s → Whole s c.number.0 c.elapsed.0
      → (hear_frame k bearer period f).answer ≡ Ok tt
  explained_closing s x w = agreed_closing (agreeing_closing (held_by k) _ _ s x w)

  pub unexplained_closing : ((s : List ℕ) → Explains (held_by k) s → Whole s c.number.0 c.elapsed.0 → ⊥)
      → hear_frame k bearer period f ≡ refuses k Contradiction
  unexplained_closing never =
      ⊎_elim contradicting_closing
      (λ t. let x = closing_explained k bearer period f c e (agreed_closing t) in absurd (never x.0 x.1 x.2))
      (either (closing_contradicts (held_by k) c.number.0 c.elapsed.0))

  pub refused_closing : (hear_frame k bearer period f).answer ≡ Err Contradiction
      → (s : List ℕ) → Explains (held_by k) s → Whole s c.number.0 c.elapsed.0 → ⊥
  refused_closing r s x w = done_not_refused _ (sym (explained_closing s x w) ∙ r)

  -- where no closing was heard: it is accepted exactly if some sending explains the record with it
  pub new_closing_explained : (hear_frame k bearer period f).answer ≡ Ok tt → Explained (with_closing (held_by k) c.number.0 c.elapsed.0)
  new_closing_explained a =
      let x = closing_explained k bearer period f c e a in
      (x.0, explains_closed (held_by k) _ _ x.0 x.1 x.2)

  pub explained_new_closing : k.head.closed ≡ false → Explained (with_closing (held_by k) c.number.0 c.elapsed.0)
      → (hear_frame k bearer period f).answer ≡ Ok tt
  explained_new_closing new x =
      let p = closed_explains (held_by k) _ _ x.0 new x.1 in
      explained_closing x.0 p.0 p.1

  pub unexplained_new_closing : (Explained (with_closing (held_by k) c.number.0 c.elapsed.0) → ⊥)
      → hear_frame k bearer period f ≡ refuses k Contradiction
  unexplained_new_closing never = unexplained_closing (λ s x w. never (s, explains_closed (held_by k) _ _ s x w))

  pub refused_new_closing : k.head.closed ≡ false → (hear_frame k bearer period f).answer ≡ Err Contradiction
      → Explained (with_closing (held_by k) c.number.0 c.elapsed.0) → ⊥
  refused_new_closing new r x = done_not_refused _ (sym (explained_new_closing new x) ∙ r)

  pub other_closing_refused : k.head.closed ≡ true
      → ((k.head.count.0 ≡ c.number.0) × (k.head.total.0 ≡ c.elapsed.0) → ⊥) → hear_frame k bearer period f ≡ refuses k Contradiction
  other_closing_refused closed other =
      unexplained_closing
      (λ s x w.
      let v = x.closing closed in
      other (sym v.count_is ∙ w.count_is, sym v.total_is ∙ w.total_is))
