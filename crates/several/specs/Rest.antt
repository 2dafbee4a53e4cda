-- What is promised of a whole sequence heard at once, and what is left of it in the middle. Assumes nothing.
use Rattle.std.specs.Prelude.{ℕ, ◌≡◌, List, map}
use Rattle.fields.specs.Runs.{front}
use Rattle.reception.specs.declared.Head.{Head}
use Rattle.reception.specs.Answers.{Taken, Taking}
use Rattle.reception.specs.Hearing.{Kept, kept_in, Outcome, Takes}
use Rattle.reception.specs.Several.{hear_all, answers_to, answer_of, answers_after}

-- frames are heard into the record k: the record after them, and each answer in one number in front of a lent list
pub record HearsAll (k : Kept) (bearer period : ℕ) (frames : List (List ℕ)) (old : List ℕ) (h : Head) (marks elapsed sizes new : List ℕ) : Type 0 where
  pub leaves : kept_in h marks elapsed sizes ≡ hear_all k bearer period frames
  pub answers : new ≡ front old (map answer_of (answers_to k bearer period frames))

-- the promise of hearing a whole sequence into lists that held old, by the outcome t, with the frames' answers ts
pub record HearsSequence (t : Outcome) (ts : List Taken) (old : List ℕ) (r : Taking) (marks elapsed sizes new : List ℕ) : Type 0 where
  pub taken : Takes t r marks elapsed sizes
  pub answers : new ≡ answers_after t.answer ts old
