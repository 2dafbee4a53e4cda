-- What the exported functions tell of a frame's checks, by what they promise: their answers are numbers, which a caller takes apart (document
-- 02, request 6). Assumes nothing.
use Rattle.std.specs.Prelude.{ℕ, ◌/◌, ◌%◌, ◌<◌, ◌≡◌, List, length, get_or}
use Rattle.frame.specs.Paper.{read_paper}
use Rattle.frame.specs.Reading.{read_frame}
use Rattle.frame.specs.WrongChecks.{ChecksTold}
use Rattle.reception.specs.Hearing.{kept_in, unused, empty_kept, hear_frame}
use Rattle.reception.specs.Several.{refusal_number, answer_of, answers_to, hear_sequence}
use Rattle.numbers_frames.specs.Reading.{ReadOut, ListsInOne}
use Rattle.numbers_head.specs.Heads.{head_of}
use Rattle.numbers_record.specs.Records.{Keeps, AnswersOut}
use Rattle.demands.specs.Demand1.{EachTold}
use Rattle.demands.specs.ExportedRefusals.{RefusingInOne}

-- an answer about the frame s: eight bits of the refusal's number, sixteen of the check found, and above them the check worked out
abbrev pub TellsInOne : List ℕ → ℕ → Type 0
TellsInOne s r = ChecksTold s (r % 256) (r / 256 % 65536) (r / 256 / 65536)

-- what comes from memory: each octet has eight bits
abbrev pub InOctets : List ℕ → Type 0
InOctets s = (i : ℕ) → get_or s i 0 < 256

-- "everything above it shall give, with refusals 4 and 7, the check found and the check worked out"
pub record ToldExported : Type 0 where
  -- `quimdoral_read_frame`, `quimdoral_read_lengths`
  pub read_frame_fact : (s old : List ℕ) (r : ℕ) (new : List ℕ) → InOctets s → ReadOut (read_paper (read_frame s)) old r new → TellsInOne s r
  pub read_lengths : (s old : List ℕ) (r : ℕ) (new : List ℕ) → InOctets s → ListsInOne s old r new → RefusingInOne r → TellsInOne s r
  -- `quimdoral_hear`, `quimdoral_hear_all`
  pub hear : (bearer period : ℕ) (f old m e s : List ℕ) (r : ℕ) (new m' e' s' : List ℕ) → InOctets f
      → Keeps answer_of old (kept_in (head_of old) m e s) (hear_frame (kept_in (head_of old) m e s) bearer period f) r new m' e' s' → TellsInOne f r
  pub hear_all_fact : (bearer period stamp : ℕ) (frames : List (List ℕ)) (old m e s answers : List ℕ) (r : ℕ) (new m' e' s' answers' : List ℕ)
      → Keeps refusal_number old (unused m e s) (hear_sequence bearer period stamp (unused m e s) frames (length answers)) r new m' e' s'
      → AnswersOut old (hear_sequence bearer period stamp (unused m e s) frames (length answers))
      (answers_to (empty_kept bearer period stamp (length m)) bearer period frames) answers answers'
      → r ≡ 0 → EachTold frames answers'
