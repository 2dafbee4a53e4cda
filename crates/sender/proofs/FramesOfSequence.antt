-- The frames of one sequence are those that opening, data calls and closing write: from an undamaged sender between sequences, for
-- payloads within the limits, every call is accepted, the frames are `data_frames`, and the closing is `closing_after`.
-- Assumes nothing.
use Prim.Native.Nat.{ℕ, ◌+◌, ◌≤◌}
use mathlib.Core.Path.{◌≡◌, refl, sym, ap, ap₂, ◌∙◌}
use mathlib.Core.List.{List, [], ◌∷◌}
use mathlib.Core.Bool.{true, false, not, true≢false}
use native.Mathlib.Nat.{add-zero, zero-add, add_assoc}
use native.Mathlib.Omega.{arith}
use lib.ListN.{length}
use lib.Dec.{eqb}
use borrow.Author.Tests.{eqb-true, not-false}
use Rattle.fields.proofs.Tests.{or_false}
use Rattle.units.specs.Limits.{most_payload, most_in_sequence, most_period_packets}
use Rattle.frame.specs.Writing.{data_frame}
use Rattle.sender.specs.declared.Phase.{Phase}
use Rattle.sender.specs.declared.Phase.TheVariants.{Fresh, Open, Closed}
use Rattle.sender.specs.declared.Sender.{Sender}
use Rattle.sender.specs.Answers.{Dispatch}
use Rattle.sender.specs.State.{damaged, is_open, rest_wrong, closing_by}
use Rattle.frame.specs.Counts.{some_of}
use Rattle.sender.specs.Calls.{advanced, begins, data_call}
use Rattle.sender.specs.Sequence.{data_frames, count_of, octets_of, closing_after, carried, after_data, frames_by}
use Rattle.sender.proofs.RefusedOrAccepted.{DataGoes, data_accepted}
use Rattle.sender.proofs.StaysUndamaged.{data_undamaged}
use Rattle.sender.proofs.Undamaged.{undamaged}

-- each payload has at most 4,095 octets
pub data Short : List (List ℕ) → Type 0 where
  none : Short []
  more : {p : List ℕ} {ps : List (List ℕ)} → length p ≤ most_payload → Short ps → Short (p ∷ ps)

-- an open, undamaged sender with room for the payloads in its sequence and its period
pub record Ready (s : Sender) (ps : List (List ℕ)) : Type 0 where
  pub whole : damaged s ≡ false
  pub turn : is_open s.phase ≡ true
  pub number : s.number.0 + count_of ps ≤ most_in_sequence
  pub packets : s.packets.0 + count_of ps ≤ most_period_packets

open_phase : (f : Phase) → is_open f ≡ true → f ≡ Open
open_phase Fresh e = absurd (true≢false (sym e))
open_phase Open e = refl
open_phase Closed e = absurd (true≢false (sym e))

-- one packet sent leaves a sender that is ready for the rest
rest_ready : (s : Sender) (p : List ℕ) (ps : List (List ℕ)) → length p ≤ most_payload → Ready s (p ∷ ps)
    → ((data_call s (length p) (11 + length p)).sender ≡ advanced s (length p)) × Ready (advanced s (length p)) ps
unfolding count_of
rest_ready s p ps h r =
    let n = r.number in
    let m = r.packets in
    let g : DataGoes s (length p) (11 + length p) =
    record { whole = r.whole; turn = r.turn; short = h; number = omega arith; packets = omega arith; fits = omega arith } in
    let e = ap (λ (x : Dispatch). x.sender) (data_accepted s (length p) (11 + length p) g) in
    (e, record { whole = rw e at (data_undamaged s r.whole (length p) (11 + length p)); turn = refl; number = omega arith; packets = omega arith })

pub frames_are : (s : Sender) {ps : List (List ℕ)} → Short ps → Ready s ps → frames_by s ps ≡ data_frames s.stamp s.number.0 s.elapsed.0 ps
unfolding frames_by data_frames
frames_are s none r = refl
frames_are s (more {p} {ps} h w) r =
    let q = rest_ready s p ps h r in
    ap (λ (x : Sender). data_frame s.stamp s.number.0 s.elapsed.0 p ∷ frames_by x ps) q.0
    ∙ ap (λ (x : List (List ℕ)). data_frame s.stamp s.number.0 s.elapsed.0 p ∷ x) (frames_are (advanced s (length p)) w q.1)

pub counts_are : (s : Sender) {ps : List (List ℕ)} → Short ps → Ready s ps → after_data s ps ≡ carried s ps
unfolding after_data carried count_of octets_of
counts_are s none r =
    simp add-zero
    (ap (λ (f : Phase). record { phase = f; stamp = s.stamp; number = s.number; elapsed = s.elapsed; packets = s.packets; octets = s.octets }) (open_phase s.phase r.turn))
counts_are s (more {p} {ps} h w) r =
    let q = rest_ready s p ps h r in
    ap (λ (x : Sender). after_data x ps) q.0 ∙ counts_are (advanced s (length p)) w q.1 ∙ simp add_assoc

-- between two sequences the counts of a sequence are zero
pub zeros : (f : Phase) (s : Sender) → is_open f ≡ false → rest_wrong f s ≡ false → (s.number.0 ≡ 0) × (s.elapsed.0 ≡ 0)
unfolding some_of
zeros Fresh s o r =
    let p = or_false (not (eqb s.stamp 0)) _ r in
    let q = or_false (some_of s.number.0 s.elapsed.0) (some_of s.packets.0 s.octets.0) p.1 in
    let z = or_false (not (eqb s.number.0 0)) (not (eqb s.elapsed.0 0)) q.0 in
    (eqb-true s.number.0 0 (not-false _ z.0), eqb-true s.elapsed.0 0 (not-false _ z.1))
zeros Open s o r = absurd (true≢false o)
zeros Closed s o r =
    let z = or_false (not (eqb s.number.0 0)) (not (eqb s.elapsed.0 0)) r in
    (eqb-true s.number.0 0 (not-false _ z.0), eqb-true s.elapsed.0 0 (not-false _ z.1))

module _ (s : Sender) (stamp : ℕ) {ps : List (List ℕ)} (short : Short ps) (whole : damaged s ≡ false) (rest : is_open s.phase ≡ false)
    (r : Ready (begins s stamp).sender ps) where
  abbrev zero_counts : (s.number.0 ≡ 0) × (s.elapsed.0 ≡ 0)
  zero_counts = zeros s.phase s rest (undamaged s whole).rest

  -- what the data calls of an opened sequence write
  pub sequence_frames : frames_by (begins s stamp).sender ps ≡ data_frames stamp 0 0 ps
  sequence_frames =
      let z = zero_counts in
      frames_are (begins s stamp).sender short r ∙ ap₂ (λ (n e : ℕ). data_frames stamp n e ps) z.0 z.1

  -- and what its closing says, of Type 0 or 3
  pub sequence_closing : closing_by (after_data (begins s stamp).sender ps) ≡ closing_after stamp s.packets.0 s.octets.0 ps
  unfolding carried
  sequence_closing =
      let z = zero_counts in
      ap closing_by (counts_are (begins s stamp).sender short r)
      ∙ ap₂ (λ (n e : ℕ). record { stamp = stamp; number = record { 0 = n }; elapsed = record { 0 = e }; packets = record { 0 = s.packets.0 + count_of ps }; octets = record { 0 = s.octets.0 + octets_of ps } })
      (ap (λ (n : ℕ). n + count_of ps) z.0 ∙ zero-add (count_of ps)) (ap (λ (n : ℕ). n + octets_of ps) z.1 ∙ zero-add (octets_of ps))
