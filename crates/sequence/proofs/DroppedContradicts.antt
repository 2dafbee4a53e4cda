-- Why hearing our sender's frames "needs payloads from which this rule drops nothing" (document 02, request 2). The sender counts every octet
-- that it was given. A record that took a packet holds the sender to the octets that were kept of it: the next packet, which counts others,
-- contradicts. Assumes nothing.
use Prim.Native.Nat.{ℕ, suc, ◌+◌, ◌≤◌, ◌<◌}
use mathlib.Core.Path.{◌≡◌, refl, sym, ap, ◌∙◌, subst}
use mathlib.Core.Bool.{false}
use mathlib.Core.List.{List, [], ◌∷◌, ◌++◌}
use native.Mathlib.Omega.{arith}
use lib.ListN.{length, get_or, length-set, length-map, replicate}
use borrow.Author.Tests.{eq-eqb}
use Rattle.units.specs.Limits.{most_payload}
use Rattle.fields.specs.Numbers.{be, octets}
use Rattle.checks.specs.Check.{divide, low_digits, bits_of, check}
use Rattle.frame.specs.declared.DataPdu.{DataPdu}
use Rattle.frame.specs.declared.Read.TheVariants.{Data}
use Rattle.frame.specs.Layout.{data_pdu}
use Rattle.frame.specs.Payloads.{payload_kept, starts_v4, starts_v6}
use Rattle.frame.specs.Reading.{read_frame, read_headed, read_body}
use Rattle.frame.specs.Counts.{some_of, data_wrong, closing_wrong}
use Rattle.frame.specs.Writing.{data_frame}
use Rattle.frame.proofs.Payloads.{payload_most}
use Rattle.frame.proofs.ReadBack.{data_back}
use Rattle.sender.specs.State.{damaged, fresh_sender}
use Rattle.sender.specs.Calls.{open_call, data_call}
use Rattle.sender.specs.Sequence.{frames_by}
use Rattle.reception.specs.declared.Head.{Head}
use Rattle.reception.specs.Sendings.{Held, Sent, Explains}
use Rattle.reception.specs.Adding.{with_packet, packet_contradicts}
use Rattle.reception.specs.Hearing.{Kept, held_by, refuses, other_key, hear_frame, empty_kept, lists_differ, hear_packet, hear_read}
use Rattle.reception.specs.Damage.{place_wrong, places_wrong, closing_off, walk_fails, damaged_record}
use Rattle.reception.specs.Several.{answers_to}
use Rattle.reception.specs.Walk.{reach, fits, may_end, walk, is_explained}
use Rattle.reception.proofs.HearingContradicts.{unexplained_packet}
use Rattle.reception.proofs.HearingUndamaged.{stays_sound}
use Rattle.reception.proofs.SumsBefore.{before, before_next}
use Rattle.reception.proofs.WhatHearingAdds.{data_accepted, packet_heard}
use Rattle.sequence.specs.Pieces.{frame_of, lengths_of}
use Rattle.sequence.specs.Pieces.Piece.{DataOf}
use Rattle.sequence.proofs.PiecesRead.{Carried, length_at_lem, short_at, data_frame_is, data_possible}
use Rattle.std.specs.Prelude.{Ok, Err}
use Rattle.units.specs.declared.refusals.Refusal.TheVariants.{Contradiction}

-- a packet that is held is one of every sending that explains the record
held_sent : (r : Held) (n e l : ℕ) (s : List ℕ) → n < r.capacity → Explains (with_packet r n e l) s → Sent s n e l
held_sent r n e l s lt x = rw (eq-eqb n n refl) at (x.packets n (record { below = lt; marked = rw (eq-eqb n n refl) }))

-- so a next packet of the same sending has its octets before it
next_counts : (s : List ℕ) (n e l m f o : ℕ) → m ≡ suc n → Sent s n e l → Sent s m f o → f ≡ e + l
next_counts s n e l m f o q a b =
    let t : before s m ≡ before s (suc n) = ap (before s) q in
    omega (arith, t, before_next s n, a.before_is, a.length_is, b.before_is)

module _ (k : Kept) (bearer period : ℕ) (f g : List ℕ) (d c : DataPdu) (fd : read_frame f ≡ Data d) (gc : read_frame g ≡ Data c) (taken : (hear_frame k bearer period f).answer ≡ Ok tt) where
  abbrev after : Kept
  after = (hear_frame k bearer period f).kept

  -- in any record that took the first, the next is refused unless it counts its octets
  pub next_contradicts : c.stamp ≡ d.stamp → c.number.0 ≡ suc d.number.0 → c.number.0 < length k.marks
      → (c.elapsed.0 ≡ d.elapsed.0 + d.length.0 → ⊥) → hear_frame after bearer period g ≡ refuses after Contradiction
  next_contradicts st nx room off =
      let p = data_accepted k bearer period f d fd taken in
      let h = packet_heard k bearer period f d fd taken in
      let own : other_key after.head bearer period c.stamp ≡ false =
      subst (λ (x : Head). other_key x bearer period c.stamp ≡ false) (sym h.same_head) (rw st p.1.own) in
      let below : c.number.0 < length after.marks =
      subst (λ (x : Kept). c.number.0 < length x.marks) (sym h.kept_is) (rw (length-set k.marks d.number.0 1) room) in
      unexplained_packet after bearer period g c gc (stays_sound k bearer period f p.0) own below
      (λ s x w.
      let y : Explains (with_packet (held_by k) d.number.0 d.elapsed.0 d.length.0) s = subst (λ (r : Held). Explains r s) h.holds x in
      off (next_counts s _ _ _ _ _ _ nx (held_sent (held_by k) d.number.0 d.elapsed.0 d.length.0 s p.1.below y) w))

module _ (stamp packets octets : ℕ) (ps : List (List ℕ)) (c : Carried stamp packets octets ps) where
  -- a data frame of our sender is read with what the rule keeps of its payload
  data_kept : (j : ℕ) → j < length ps
      → read_frame (frame_of stamp packets octets ps (DataOf j)) ≡ Data (data_pdu stamp j (before (lengths_of ps) j) (payload_kept (get_or ps j [])))
  data_kept j lt =
      let small : length (get_or ps j []) ≤ most_payload = rw (length_at_lem ps j) at (short_at c.short j (rw (length-map ps length) lt)) in
      let most = payload_most (get_or ps j []) in
      ap read_frame (data_frame_is stamp packets octets ps j lt)
      ∙ data_back stamp j (before (lengths_of ps) j) (get_or ps j []) c.stamped (omega (arith, small, most)) (data_possible stamp packets octets ps c j lt)

  -- once a record took one of which less is kept than was sent, it refuses the next with 11
  pub dropped_contradicts : (bearer period : ℕ) (k : Kept) (j : ℕ) → suc j < length ps → suc j < length k.marks
      → payload_kept (get_or ps j []) < length (get_or ps j [])
      → (hear_frame k bearer period (frame_of stamp packets octets ps (DataOf j))).answer ≡ Ok tt
      → hear_frame (hear_frame k bearer period (frame_of stamp packets octets ps (DataOf j))).kept bearer period (frame_of stamp packets octets ps (DataOf (suc j)))
      ≡ refuses (hear_frame k bearer period (frame_of stamp packets octets ps (DataOf j))).kept Contradiction
  dropped_contradicts bearer period k j there room less taken =
      let n = before_next (lengths_of ps) j in
      let l = length_at_lem ps j in
      next_contradicts k bearer period _ _ _ _ (data_kept j (omega (arith, there))) (data_kept (suc j) there) taken refl refl room
      (λ e. omega (arith, e, n, l, less))

-- for example an IPv4 packet of twenty octets, and one more
abbrev stray : List ℕ
stray = 0x45 ∷ 0 ∷ 0 ∷ 20 ∷ replicate 16 0 ++ (0xAA ∷ [])

-- two frames of our sender, the first with that payload, heard by an empty record of their key
pub stray_octet : answers_to (empty_kept 7 3 0 2) 7 3 (frames_by (open_call fresh_sender 0).sender (stray ∷ (1 ∷ []) ∷ [])) ≡ Ok tt ∷ Err Contradiction ∷ []
unfolding damaged open_call data_call frames_by some_of reach fits may_end walk is_explained packet_contradicts place_wrong places_wrong closing_off walk_fails damaged_record be octets divide low_digits bits_of check data_wrong closing_wrong payload_kept starts_v4 starts_v6 read_frame read_headed read_body data_frame lists_differ other_key hear_packet hear_read hear_frame answers_to
stray_octet = refl
