-- What an empty record holds after frames of one sequence, of payloads from which the rule drops nothing, depends only on which of them were
-- heard, and so does the record itself, its lists included. Assumes nothing.
use Prim.Native.Nat.{ℕ, ◌≤◌}
use mathlib.Core.Path.{◌≡◌, refl, sym, ap, ◌∙◌, subst}
use mathlib.Core.Bool.{cond}
use mathlib.Core.List.{List, map}
use native.Mathlib.Omega.{arith}
use lib.ListN.{length, get_or, take, length-map}
use Rattle.units.specs.Limits.{most_capacity}
use Rattle.frame.specs.Counts.{sum_of}
use Rattle.sender.specs.Sequence.{count_of}
use Rattle.reception.specs.Sendings.{Held}
use Rattle.reception.specs.OneSequence.{add_part, add_parts, holding}
use Rattle.reception.specs.Hearing.{Kept, held_by, empty_kept}
use Rattle.reception.proofs.AnyOrder.{only_which_came}
use Rattle.reception.proofs.KeptAsHeld.{held_packet, held_empty, SameKey, told_by_held}
use Rattle.reception.proofs.SumsBefore.{before}
use Rattle.reception.proofs.WhatHearingAdds.{sound_lists, own_key}
use Rattle.reception.specs.Several.{hear_all}
use Rattle.sequence.specs.Pieces.{Piece, frame_of, part_of, PieceOf, PiecesOf, NoneDropped, lengths_of, SameFrames}
use Rattle.sequence.specs.Pieces.PieceOf.{a_packet, a_closing, with_lengths}
use Rattle.sequence.specs.Pieces.PiecesOf.{none, more}
use Rattle.sequence.proofs.PiecesRead.{Carried}
use Rattle.sequence.proofs.NeverRefused.{keep_part, keep_parts, Hearer, hears_on, hears_first, parts_kept}

-- which parts came decides what is held
same_holding : (c : ℕ) (s : List ℕ) (xs ys : List Piece) → SameFrames xs ys → holding c s (map part_of xs) ≡ holding c s (map part_of ys)
same_holding c s xs ys h =
    λ i.
    record {
      capacity = c;
      mark = λ k. cond (h.packets k i) 1 0;
      elapsed = λ k. cond (h.packets k i) (sum_of (take k s)) 0;
      size = λ k. cond (h.packets k i) (get_or s k 0) 0;
      closed = h.closings i;
      count = cond (h.closings i) (length s) 0;
      total = cond (h.closings i) (sum_of s) 0;
    }

module _ (bearer period stamp packets octets : ℕ) (ps : List (List ℕ)) (c : Carried stamp packets octets ps) (whole : NoneDropped ps) where
  abbrev s : List ℕ
  s = lengths_of ps

  abbrev Hears : Kept → Type 0
  Hears k = Hearer bearer period stamp s k

  -- a part that is kept is held
  held_part : (k : Kept) (x : Piece) → Hears k → PieceOf ps x → held_by (keep_part k s (part_of x)) ≡ add_part (held_by k) s (part_of x)
  held_part k x h (a_packet {k = j} lt) =
      held_packet k j (before s j) (get_or s j 0) (sound_lists k h.sound) (omega (arith, lt, length-map ps length, h.room))
  held_part k x h a_closing = refl
  held_part k x h (with_lengths w) = refl

  held_parts : (k : Kept) {xs : List Piece} → Hears k → PiecesOf ps xs
      → held_by (keep_parts k s (map part_of xs)) ≡ add_parts (held_by k) s (map part_of xs)
  unfolding keep_parts add_parts
  held_parts k h none = refl
  held_parts k h (more {x} {xs} q w) =
      held_parts (keep_part k s (part_of x)) (hears_on bearer period stamp packets octets ps c whole k x h q) w
      ∙ ap (λ (r : Held). add_parts r s (map part_of xs)) (held_part k x h q)

  hears_after : (k : Kept) {xs : List Piece} → Hears k → PiecesOf ps xs → Hears (keep_parts k s (map part_of xs))
  unfolding keep_parts
  hears_after k h none = h
  hears_after k h (more {x} {xs} q w) =
      hears_after (keep_part k s (part_of x)) (hears_on bearer period stamp packets octets ps c whole k x h q) w

  module _ (capacity : ℕ) (fits : capacity ≤ most_capacity) (room : count_of ps ≤ capacity) where
    -- the record after some frames
    abbrev after : List Piece → Kept
    after xs = hear_all (empty_kept bearer period stamp capacity) bearer period (map (frame_of stamp packets octets ps) xs)

    abbrev first : Hears (empty_kept bearer period stamp capacity)
    first = hears_first bearer period stamp packets octets ps c whole capacity fits room

    kept_after : {xs : List Piece} → PiecesOf ps xs → after xs ≡ keep_parts (empty_kept bearer period stamp capacity) s (map part_of xs)
    kept_after w = parts_kept bearer period stamp packets octets ps c whole (empty_kept bearer period stamp capacity) first w

    -- it holds what of the sending came, and nothing else
    pub holds_which_came : (xs : List Piece) → PiecesOf ps xs
        → held_by (hear_all (empty_kept bearer period stamp capacity) bearer period (map (frame_of stamp packets octets ps) xs))
        ≡ holding capacity (lengths_of ps) (map part_of xs)
    holds_which_came xs w =
        ap held_by (kept_after w)
        ∙ held_parts (empty_kept bearer period stamp capacity) first w
        ∙ ap (λ (r : Held). add_parts r s (map part_of xs)) (held_empty bearer period stamp capacity)
        ∙ only_which_came capacity s (map part_of xs)

    still_hears : {xs : List Piece} → PiecesOf ps xs → Hears (after xs)
    still_hears w = subst Hears (sym (kept_after w)) (hears_after (empty_kept bearer period stamp capacity) first w)

    same_key : {xs ys : List Piece} → PiecesOf ps xs → PiecesOf ps ys → SameKey (after xs).head (after ys).head
    same_key {xs} {ys} v w =
        let a = own_key (after xs).head bearer period stamp (still_hears v).own in
        let b = own_key (after ys).head bearer period stamp (still_hears w).own in
        record { bearers = a.0 ∙ sym b.0; periods = a.1 ∙ sym b.1; stamps = a.2 ∙ sym b.2 }

    -- the record depends only on which frames were heard
    pub only_which_frames : (xs ys : List Piece) → PiecesOf ps xs → PiecesOf ps ys → SameFrames xs ys
        → hear_all (empty_kept bearer period stamp capacity) bearer period (map (frame_of stamp packets octets ps) xs)
        ≡ hear_all (empty_kept bearer period stamp capacity) bearer period (map (frame_of stamp packets octets ps) ys)
    only_which_frames xs ys v w same =
        told_by_held (after xs) (after ys) (sound_lists _ (still_hears v).sound) (sound_lists _ (still_hears w).sound) (same_key v w)
        (holds_which_came xs v ∙ same_holding capacity s xs ys same ∙ sym (holds_which_came ys w))
