-- Several frames heard one after another, and frames that stand in one row of octets. Assumes nothing.
use Rattle.std.specs.Prelude.{ℕ, ◌-◌, List, [], ◌∷◌, map, ltb, length, take, drop, Ok, Err}
use Rattle.units.specs.OneNumber.{refusal_in_one}
use Rattle.units.specs.Limits.{last_stamp}
use Rattle.fields.specs.Choice.{◌when◌otherwise◌}
use Rattle.fields.specs.Runs.{front}
use Rattle.reception.specs.Answers.{Taken}
use Rattle.reception.specs.Hearing.{Kept, Outcome, refuses, takes, unmatched, empty_kept, hear_frame, taken_paper}
use Rattle.units.specs.declared.refusals.Refusal.TheVariants.{CapacitiesDiffer, NoRoom, StampTooHigh}

-- the record after some frames, in the order in which they came
unfoldable pub hear_all : Kept → ℕ → ℕ → List (List ℕ) → Kept
hear_all k bearer period [] = k
hear_all k bearer period (f ∷ fs) = hear_all (hear_frame k bearer period f).kept bearer period fs

-- and the answer to each
unfoldable pub answers_to : Kept → ℕ → ℕ → List (List ℕ) → List Taken
answers_to k bearer period [] = []
answers_to k bearer period (f ∷ fs) = (hear_frame k bearer period f).answer ∷ answers_to (hear_frame k bearer period f).kept bearer period fs

-- the refusal's number, or 0
abbrev pub refusal_number : Taken → ℕ
refusal_number t = (taken_paper t).number

-- the frames in a row of octets, from a place on, each by the place where it ends; one that would end before it begins is empty
unfoldable pub frames_in : List ℕ → ℕ → List ℕ → List (List ℕ)
frames_in octets from [] = []
frames_in octets from (e ∷ ends) = take (e - from) (drop from octets) ∷ frames_in octets e ends

-- a fresh record that hears them, with room for so many answers: "Fresh record: 14, 5", then 12
unfoldable pub hear_sequence : ℕ → ℕ → ℕ → Kept → List (List ℕ) → ℕ → Outcome
hear_sequence bearer period stamp old frames room =
    refuses old CapacitiesDiffer when unmatched old otherwise
    refuses old StampTooHigh when ltb last_stamp stamp otherwise
    refuses old NoRoom when ltb room (length frames) otherwise
    takes (hear_all (empty_kept bearer period stamp (length old.marks)) bearer period frames)

-- an answer in one number: 0, or the refusal's with both checks of 4 and 7
abbrev pub answer_of : Taken → ℕ
answer_of t = refusal_in_one (taken_paper t).number (taken_paper t).found (taken_paper t).worked

-- the list of answers after: one for each frame in front; or, refused, what it held
abbrev pub answers_after : Taken → List Taken → List ℕ → List ℕ
answers_after (Ok u) ts old = front old (map answer_of ts)
answers_after (Err r) ts old = old
