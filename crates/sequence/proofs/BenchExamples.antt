-- Bench examples G and H as frames heard: an empty record of stamp 0 hears B and then one data PDU more, in every capacity that has the
-- places, of every bearer and period, and with every payload of which the rule keeps at most 4,095 octets. Assumes nothing.
use Prim.Native.Nat.{ℕ, ◌≤◌, ◌<◌}
use mathlib.Core.Path.{◌≡◌, refl, sym, ap, ◌∙◌, subst}
use mathlib.Core.Bool.{true, false}
use mathlib.Core.List.{List, [], ◌∷◌}
use native.Mathlib.Omega.{arith}
use lib.ListN.{length, length-set, length-replicate}
use Rattle.units.specs.Limits.{most_payload, most_capacity}
use Rattle.frame.specs.declared.DataPdu.{DataPdu}
use Rattle.frame.specs.declared.Read.TheVariants.{Data}
use Rattle.frame.specs.Counts.{data_wrong}
use Rattle.frame.specs.Layout.{data_pdu}
use Rattle.frame.specs.Payloads.{payload_kept}
use Rattle.frame.specs.Reading.{read_frame}
use Rattle.frame.specs.Writing.{data_frame}
use Rattle.frame.proofs.BenchExamples.{B, B_read, first}
use Rattle.frame.proofs.ReadBack.{data_back}
use Rattle.reception.specs.Answers.{Taken}
use Rattle.reception.specs.Sendings.{Held}
use Rattle.reception.specs.Adding.{with_packet, packet_contradicts}
use Rattle.reception.specs.Hearing.{Kept, Outcome, held_by, takes, open_head, empty_kept, keep_packet, hear_frame}
use Rattle.reception.proofs.BenchExamples.{after_b, B_accepted, G_accepted as G-agrees, G_refused as G-contradicts, H_accepted as H-agrees, H_refused as H-contradicts}
use Rattle.reception.proofs.HearingContradicts.{contradicting_packet}
use Rattle.reception.proofs.HearingUndamaged.{stays_sound, empty_sound}
use Rattle.reception.proofs.KeptAsHeld.{held_packet, held_empty, empty_matched}
use Rattle.reception.proofs.WhatHearingAdds.{Sound, key_owned, data_taken}
use Rattle.reception.specs.Several.{answers_to}
use Rattle.std.specs.Prelude.{Ok, Err}
use Rattle.units.specs.declared.refusals.Refusal.TheVariants.{Contradiction}

-- a data PDU of stamp 0
abbrev pdu_of : ℕ → ℕ → List ℕ → DataPdu
pdu_of n e p = data_pdu 0 n e (payload_kept p)

module _ (bearer period c : ℕ) (most : c ≤ most_capacity) (least : 3 ≤ c) where
  abbrev empty : Kept
  empty = empty_kept bearer period 0 c

  -- the record after B
  abbrev heard_b : Kept
  heard_b = keep_packet empty 0 0 1

  places : length empty.marks ≡ c
  places = length-replicate {A = ℕ} c 0

  -- B is accepted
  B_heard : hear_frame empty bearer period B ≡ takes heard_b
  B_heard =
      data_taken empty bearer period B (first 1) B_read (empty_sound bearer period 0 c (omega arith) most)
      (record {
        own = key_owned (open_head bearer period 0);
        below = omega (arith, places);
        agrees = subst (λ (r : Held). packet_contradicts r 0 0 1 ≡ false) (sym (held_empty bearer period 0 c)) (B_accepted c (omega arith));
      })

  -- what is held then
  held_then : held_by heard_b ≡ after_b c
  held_then =
      held_packet empty 0 0 1 (empty_matched bearer period 0 c most) (omega (arith, places))
      ∙ ap (λ (r : Held). with_packet r 0 0 1) (held_empty bearer period 0 c)

  sound_then : Sound heard_b
  sound_then =
      subst Sound (ap (λ (o : Outcome). o.kept) B_heard) (stays_sound empty bearer period B (empty_sound bearer period 0 c (omega arith) most))

  -- B and then another frame
  abbrev afterwards : List ℕ → List Taken
  afterwards f = answers_to empty bearer period (B ∷ f ∷ [])

  two_answers : (f : List ℕ) → afterwards f ≡ Ok tt ∷ (hear_frame heard_b bearer period f).answer ∷ []
  unfolding answers_to
  two_answers f = ap (λ (o : Outcome). o.answer ∷ (hear_frame o.kept bearer period f).answer ∷ []) B_heard

  module _ (p : List ℕ) (small : payload_kept p ≤ most_payload) where
    -- packet n with e octets before it, by whether it contradicts what is held
    module _ (n e : ℕ) (right : data_wrong n e ≡ false) (below : n < c) where
      said : read_frame (data_frame 0 n e p) ≡ Data (pdu_of n e p)
      said = data_back 0 n e p (omega arith) small right

      there : n < length heard_b.marks
      there = rw (length-set empty.marks 0 1, places) below

      accepted : packet_contradicts (after_b c) n e (payload_kept p) ≡ false → afterwards (data_frame 0 n e p) ≡ Ok tt ∷ Ok tt ∷ []
      accepted h =
          two_answers (data_frame 0 n e p)
          ∙ ap (λ (o : Outcome). Ok tt ∷ o.answer ∷ [])
          (data_taken heard_b bearer period (data_frame 0 n e p) (pdu_of n e p) said sound_then
          (record {
            own = key_owned (open_head bearer period 0);
            below = there;
            agrees = subst (λ (r : Held). packet_contradicts r n e (payload_kept p) ≡ false) (sym held_then) h;
          }))

      refused : packet_contradicts (after_b c) n e (payload_kept p) ≡ true
          → afterwards (data_frame 0 n e p) ≡ Ok tt ∷ Err Contradiction ∷ []
      refused h =
          two_answers (data_frame 0 n e p)
          ∙ ap (λ (o : Outcome). Ok tt ∷ o.answer ∷ [])
          (contradicting_packet heard_b bearer period (data_frame 0 n e p) (pdu_of n e p) said sound_then (key_owned (open_head bearer period 0)) there
          (subst (λ (r : Held). packet_contradicts r n e (payload_kept p) ≡ true) (sym held_then) h))

    -- G: number 1 at elapsed 2 is refused with 11
    pub G_refused : answers_to (empty_kept bearer period 0 c) bearer period (B ∷ data_frame 0 1 2 p ∷ []) ≡ Ok tt ∷ Err Contradiction ∷ []
    unfolding data_wrong
    G_refused = refused 1 2 refl (omega arith) (G-contradicts c (payload_kept p) least most)

    -- number 2 at elapsed 1 is accepted
    pub G_accepted : answers_to (empty_kept bearer period 0 c) bearer period (B ∷ data_frame 0 2 1 p ∷ []) ≡ Ok tt ∷ Ok tt ∷ []
    unfolding data_wrong
    G_accepted = accepted 2 1 refl (omega arith) (G-agrees c (payload_kept p) least small)

    -- H: number 2 at elapsed 4,096 is accepted
    pub H_accepted : answers_to (empty_kept bearer period 0 c) bearer period (B ∷ data_frame 0 2 4096 p ∷ []) ≡ Ok tt ∷ Ok tt ∷ []
    unfolding data_wrong
    H_accepted = accepted 2 4096 refl (omega arith) (H-agrees c (payload_kept p) least small)

    -- at elapsed 4,097 it is refused with 11
    pub H_refused : answers_to (empty_kept bearer period 0 c) bearer period (B ∷ data_frame 0 2 4097 p ∷ []) ≡ Ok tt ∷ Err Contradiction ∷ []
    unfolding data_wrong
    H_refused = refused 2 4097 refl (omega arith) (H-contradicts c (payload_kept p) least most)
