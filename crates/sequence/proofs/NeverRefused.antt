-- An empty record that hears frames of one sequence, with its key and within capacity, and of payloads from which the rule drops nothing,
-- accepts every one, whatever came before it; and what it then keeps is the parts that those frames are. Assumes nothing.
use Prim.Native.Nat.{ℕ, ◌≤◌, ◌<◌}
use mathlib.Core.Path.{◌≡◌, refl, sym, ap, ap₂, ◌∙◌, subst}
use mathlib.Core.Logic.{inl, inr}
use mathlib.Core.Bool.{false}
use mathlib.Core.List.{List, [], ◌∷◌, map}
use native.Mathlib.Omega.{arith}
use lib.ListN.{length, get_or, replicate, length-set, length-map, length-replicate}
use Rattle.units.specs.Limits.{most_capacity}
use Rattle.frame.specs.Counts.{sum_of}
use Rattle.sender.specs.Sequence.{count_of, octets_of, closing_after}
use Rattle.reception.specs.Answers.{Taken}
use Rattle.reception.specs.Sendings.{Held, Explains, Whole}
use Rattle.reception.specs.OneSequence.{Part}
use Rattle.reception.specs.OneSequence.Part.{Packet, Closing}
use Rattle.reception.specs.Hearing.{Kept, Outcome, held_by, takes, other_key, open_head, empty_kept, keep_packet, keep_closing, hear_frame}
use Rattle.reception.proofs.AnyOrder.{sent_at, whole_of, explains_empty}
use Rattle.reception.proofs.ContradictsExactly.{explains_added, explains_closed, agreeing_packet, agreeing_closing}
use Rattle.reception.proofs.HearingUndamaged.{stays_sound, empty_sound}
use Rattle.reception.proofs.KeptAsHeld.{held_packet, held_empty}
use Rattle.reception.proofs.SumsBefore.{before}
use Rattle.reception.proofs.WhatHearingAdds.{Sound, sound_lists, key_owned, data_taken, ReadAsClosing, closing_taken}
use Rattle.reception.specs.Several.{hear_all, answers_to}
use Rattle.sequence.specs.Pieces.{Piece, frame_of, part_of, PieceOf, PiecesOf, NoneDropped, lengths_of}
use Rattle.sequence.specs.Pieces.Piece.{DataOf, PlainClosing, ListedClosing}
use Rattle.sequence.specs.Pieces.PieceOf.{a_packet, a_closing, with_lengths}
use Rattle.sequence.specs.Pieces.PiecesOf.{none, more}
use Rattle.sequence.proofs.PiecesRead.{Carried, count_is, octets_are, carried_sending, data_of, data_read, closing_read, lengths_read}
use Rattle.std.specs.Prelude.{Ok}

-- the record with that part of the sending s kept
abbrev pub keep_part : Kept → List ℕ → Part → Kept
keep_part k s (Packet j) = keep_packet k j (before s j) (get_or s j 0)
keep_part k s Closing = keep_closing k (length s) (sum_of s)

unfoldable pub keep_parts : Kept → List ℕ → List Part → Kept
keep_parts k s [] = k
keep_parts k s (p ∷ ps) = keep_parts (keep_part k s p) s ps

-- a record of that key, with room for the sending s, that s explains
pub record Hearer (bearer period stamp : ℕ) (s : List ℕ) (k : Kept) : Type 0 where
  pub sound : Sound k
  pub explains : Explains (held_by k) s
  pub own : other_key k.head bearer period stamp ≡ false
  pub room : length s ≤ length k.marks

module _ (bearer period stamp packets octets : ℕ) (ps : List (List ℕ)) (c : Carried stamp packets octets ps) (whole : NoneDropped ps) where
  abbrev s : List ℕ
  s = lengths_of ps

  abbrev octets_in : Piece → List ℕ
  octets_in x = frame_of stamp packets octets ps x

  abbrev Hears : Kept → Type 0
  Hears k = Hearer bearer period stamp s k

  -- packet j is taken
  packet_taken : (k : Kept) (j : ℕ) → Hears k → j < length s → hear_frame k bearer period (octets_in (DataOf j)) ≡ takes (keep_part k s (Packet j))
  packet_taken k j h lt =
      data_taken k bearer period (octets_in (DataOf j)) (data_of stamp ps j)
      (data_read stamp packets octets ps c whole j (rw (length-map ps length) at lt)) h.sound
      (record {
        own = h.own;
        below = omega (arith, lt, h.room);
        agrees = agreeing_packet (held_by k) j _ _ s (omega (arith, lt, h.room)) h.explains (sent_at s j lt);
      })

  -- so is the closing, of Type 0 or 3
  whole_taken : (k : Kept) (x : Piece) → Hears k → ReadAsClosing (octets_in x) (closing_after stamp packets octets ps)
      → hear_frame k bearer period (octets_in x) ≡ takes (keep_part k s Closing)
  whole_taken k x h r =
      let few = count_is ps in
      let w : Whole s (count_of ps) (octets_of ps) = record { count_is = sym few; total_is = sym (octets_are ps) } in
      closing_taken k bearer period (octets_in x) (closing_after stamp packets octets ps) r h.sound
      (record { own = h.own; within = omega (arith, few, h.room); agrees = agreeing_closing (held_by k) _ _ s h.explains w })
      ∙ ap₂ (λ (n t : ℕ). takes (keep_closing k n t)) few (octets_are ps)

  -- every frame of the sequence is taken
  pub piece_taken : (k : Kept) (x : Piece) → Hears k → PieceOf ps x → hear_frame k bearer period (octets_in x) ≡ takes (keep_part k s (part_of x))
  piece_taken k x h (a_packet {k = j} lt) = packet_taken k j h (rw (length-map ps length) lt)
  piece_taken k x h a_closing = whole_taken k PlainClosing h (inl (closing_read stamp packets octets ps c))
  piece_taken k x h (with_lengths {ls} w) = whole_taken k (ListedClosing ls) h (inr (lengths_read stamp packets octets ps c ls w))

  -- and leaves a record that takes the next
  sound_after : (k : Kept) (x : Piece) → Hears k → PieceOf ps x → Sound (keep_part k s (part_of x))
  sound_after k x h q =
      subst Sound (ap (λ (o : Outcome). o.kept) (piece_taken k x h q)) (stays_sound k bearer period (octets_in x) h.sound)

  after_packet : (k : Kept) (j : ℕ) → Hears k → j < length s → Sound (keep_part k s (Packet j)) → Hears (keep_part k s (Packet j))
  after_packet k j h lt sound =
      let there : j < length k.marks = omega (arith, lt, h.room) in
      record {
        sound = sound;
        explains = subst (λ (r : Held). Explains r s) (sym (held_packet k j (before s j) (get_or s j 0) (sound_lists k h.sound) there))
            (explains_added (held_by k) j _ _ s h.explains (sent_at s j lt));
        own = h.own;
        room = rw (length-set k.marks j 1) h.room;
      }

  after_closing : (k : Kept) → Hears k → Sound (keep_part k s Closing) → Hears (keep_part k s Closing)
  unfolding other_key
  after_closing k h sound =
      record {
        sound = sound;
        explains = explains_closed (held_by k) _ _ s h.explains (whole_of s);
        own = h.own;
        room = h.room;
      }

  pub hears_on : (k : Kept) (x : Piece) → Hears k → PieceOf ps x → Hears (keep_part k s (part_of x))
  hears_on k x h (a_packet {k = j} lt) = after_packet k j h (rw (length-map ps length) lt) (sound_after k (DataOf j) h (a_packet lt))
  hears_on k x h a_closing = after_closing k h (sound_after k PlainClosing h a_closing)
  hears_on k x h (with_lengths {ls} w) = after_closing k h (sound_after k (ListedClosing ls) h (with_lengths w))

  -- an empty record takes them
  pub hears_first : (capacity : ℕ) → capacity ≤ most_capacity → count_of ps ≤ capacity → Hears (empty_kept bearer period stamp capacity)
  hears_first capacity fits room =
      record {
        sound = empty_sound bearer period stamp capacity c.stamped fits;
        explains = subst (λ (r : Held). Explains r s) (sym (held_empty bearer period stamp capacity))
            (explains_empty capacity s (carried_sending stamp packets octets ps c));
        own = key_owned (open_head bearer period stamp);
        room = rw (length-replicate {A = ℕ} capacity 0, ← count_is ps) room;
      }

  -- each answer is "accepted"
  all_taken : (k : Kept) {xs : List Piece} → Hears k → PiecesOf ps xs → answers_to k bearer period (map octets_in xs) ≡ replicate (length xs) (Ok tt)
  unfolding answers_to
  all_taken k h none = refl
  all_taken k h (more {x} {xs} q w) =
      rw (piece_taken k x h q) (ap (λ (l : List Taken). Ok tt ∷ l) (all_taken (keep_part k s (part_of x)) (hears_on k x h q) w))

  -- and the record after has kept the parts
  pub parts_kept : (k : Kept) {xs : List Piece} → Hears k → PiecesOf ps xs → hear_all k bearer period (map octets_in xs) ≡ keep_parts k s (map part_of xs)
  unfolding hear_all keep_parts
  parts_kept k h none = refl
  parts_kept k h (more {x} {xs} q w) =
      ap (λ (o : Outcome). hear_all o.kept bearer period (map octets_in xs)) (piece_taken k x h q)
      ∙ parts_kept (keep_part k s (part_of x)) (hears_on k x h q) w

  -- no order, repeat or loss makes an empty record refuse
  pub never_refused : (capacity : ℕ) (xs : List Piece) → capacity ≤ most_capacity → count_of ps ≤ capacity → PiecesOf ps xs
      → answers_to (empty_kept bearer period stamp capacity) bearer period (map (frame_of stamp packets octets ps) xs) ≡ replicate (length xs) (Ok tt)
  never_refused capacity xs fits room w = all_taken (empty_kept bearer period stamp capacity) (hears_first capacity fits room) w
