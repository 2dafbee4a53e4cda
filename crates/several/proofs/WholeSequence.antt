-- A whole sequence heard at once: its refusals in their order, and what is taken. Assumes nothing.
use Prim.Native.Nat.{ℕ, suc, ◌≤◌, ◌<◌}
use mathlib.Core.Path.{◌≡◌, refl, ap, ◌∙◌}
use mathlib.Core.Bool.{true, false}
use mathlib.Core.List.{List, [], ◌∷◌}
use lib.ListN.{length}
use borrow.Author.Tests.{lt-ltb, le-ltb}
use Rattle.units.specs.Limits.{last_stamp}
use Rattle.reception.specs.declared.Head.{Head}
use Rattle.reception.specs.Answers.{Taken, Taking}
use Rattle.reception.specs.Hearing.{Kept, Outcome, refuses, takes, keeps, unmatched, empty_kept}
use Rattle.reception.specs.Several.{hear_all, answers_to, frames_in, hear_sequence}
use Rattle.hearing.proofs.Answered.{refused_as}
use Rattle.several.specs.Rest.{HearsAll, HearsSequence}
use Rattle.std.specs.Prelude.{Ok}
use Rattle.units.specs.declared.refusals.Refusal.TheVariants.{CapacitiesDiffer, NoRoom, StampTooHigh}
use Rattle.units.specs.declared.refusals.Refusal.{Refusal}

-- as many frames as places where one ends
frames_many : (octets : List ℕ) (from : ℕ) (ends : List ℕ) → length (frames_in octets from ends) ≡ length ends
unfolding frames_in
frames_many octets from [] = refl
frames_many octets from (e ∷ ends) = ap suc (frames_many octets e ends)

-- the refusals in their order, and what is taken
module _ (bearer period stamp : ℕ) (old : Kept) (octets ends : List ℕ) (room : ℕ) where
  pub sequence_unmatched : unmatched old ≡ true → hear_sequence bearer period stamp old (frames_in octets 0 ends) room ≡ refuses old CapacitiesDiffer
  unfolding hear_sequence
  sequence_unmatched m = rw m refl

  module _ (m : unmatched old ≡ false) where
    pub sequence_high : last_stamp < stamp → hear_sequence bearer period stamp old (frames_in octets 0 ends) room ≡ refuses old StampTooHigh
    unfolding hear_sequence
    sequence_high h = rw (m, lt-ltb last_stamp stamp h) refl

    module _ (s : stamp ≤ last_stamp) where
      pub sequence_no_room : room < length ends → hear_sequence bearer period stamp old (frames_in octets 0 ends) room ≡ refuses old NoRoom
      unfolding hear_sequence
      sequence_no_room h = rw (m, le-ltb last_stamp stamp s, frames_many octets 0 ends, lt-ltb room (length ends) h) refl

      pub sequence_taken : length ends ≤ room
          → hear_sequence bearer period stamp old (frames_in octets 0 ends) room
          ≡ takes (hear_all (empty_kept bearer period stamp (length old.marks)) bearer period (frames_in octets 0 ends))
      unfolding hear_sequence
      sequence_taken h = rw (m, le-ltb last_stamp stamp s, frames_many octets 0 ends, le-ltb room (length ends) h) refl

-- a refusal
pub sequence_refused : (k : Kept) (n : Refusal) {t : Outcome} (ts : List Taken) (old : List ℕ) {r : Taking} → t ≡ refuses k n → r ≡ keeps k.head n
    → HearsSequence t ts old r k.marks k.elapsed k.sizes old
sequence_refused k n ts old e q = record { taken = refused_as k n e q; answers = rw e refl }

-- frames heard into the empty record
pub sequence_heard : (k : Kept) (bearer period : ℕ) (frames : List (List ℕ)) {t : Outcome} (old : List ℕ) (h : Head) (marks elapsed sizes new : List ℕ)
    → t ≡ takes (hear_all k bearer period frames) → HearsAll k bearer period frames old h marks elapsed sizes new
    → HearsSequence t (answers_to k bearer period frames) old (record { answer = Ok tt; head = h }) marks elapsed sizes new
sequence_heard k bearer period frames old h marks elapsed sizes new e p =
    record { taken = record { says = rw e refl; leaves = p.leaves ∙ rw e refl }; answers = p.answers ∙ rw e refl }
