-- Demand 1 of the exported functions, by what they promise: "no lent memory differs after" a refusal. Their answers are numbers: where an
-- accepted call answers 0, any other is a refusal, also one with checks above its number; where it answers 256 times a value, one that is no
-- multiple of 256. Assumes nothing.
use Rattle.std.specs.Prelude.{ℕ, ◌%◌, ◌≡◌, ◌≢◌, List, length}
use Rattle.frame.specs.Answers.{Written}
use Rattle.frame.specs.Paper.{read_paper}
use Rattle.frame.specs.Reading.{read_frame}
use Rattle.sender.specs.Answers.{Dispatch, Turning}
use Rattle.reception.specs.Answers.{Taken}
use Rattle.reception.specs.Hearing.{Kept, kept_in, unused, fresh_record, hear_frame}
use Rattle.reception.specs.Joining.{join_records}
use Rattle.reception.specs.Several.{refusal_number, answer_of, hear_sequence}
use Rattle.numbers_frames.specs.Reading.{ReadOut, ListsInOne}
use Rattle.numbers_frames.specs.Writing.{Writes}
use Rattle.numbers_sender.specs.Senders.{MakesFresh, TurnsState, SendsState}
use Rattle.numbers_head.specs.Heads.{head_of}
use Rattle.numbers_record.specs.Records.{Keeps, AnswersOut}
use Rattle.numbers_join.specs.Joins.{KeepsJoined}
use Rattle.numbers_report.specs.Reports.{Figures}

-- an answer that is a refusal, where 0 is the only one that is not
abbrev pub Refusing : ℕ → Type 0
Refusing r = r ≢ 0

-- and one that is, where others are 256 times a value
abbrev pub RefusingInOne : ℕ → Type 0
RefusingInOne r = r % 256 ≢ 0

-- the four lists of a record are as they were
abbrev pub SameRecord : List ℕ → Kept → List ℕ → List ℕ → List ℕ → List ℕ → Type 0
SameRecord old k new marks elapsed sizes = (new ≡ old) × (marks ≡ k.marks) × (elapsed ≡ k.elapsed) × (sizes ≡ k.sizes)

-- for each function that is lent a list to write to: it answered a refusal, so every such list is as it was
pub record RefusedExported : Type 0 where
  -- `quimdoral_read_frame`, `quimdoral_read_lengths`
  pub read_frame_fact : (s old : List ℕ) (r : ℕ) (new : List ℕ) → ReadOut (read_paper (read_frame s)) old r new → Refusing r → new ≡ old
  pub read_lengths : (s old : List ℕ) (r : ℕ) (new : List ℕ) → ListsInOne s old r new → RefusingInOne r → new ≡ old
  -- `quimdoral_write_data`, `quimdoral_write_closing`, `quimdoral_write_closing_with_lengths`
  pub write : (a : Written) (frame old : List ℕ) (r : ℕ) (new : List ℕ) → Writes a frame old r new → RefusingInOne r → new ≡ old
  -- `quimdoral_sender_fresh`; `_open` and `_new_period`; `_data`, `_close` and `_close_with_lengths`
  pub sender_fresh : (old : List ℕ) (r : ℕ) (new : List ℕ) → MakesFresh old r new → Refusing r → new ≡ old
  pub sender_turn : (old : List ℕ) (t : Turning) (r : ℕ) (new : List ℕ) → TurnsState old t r new → Refusing r → new ≡ old
  pub sender_frame : (old : List ℕ) (t : Dispatch) (frame out : List ℕ) (r : ℕ) (new out' : List ℕ) → SendsState old t frame out r new out'
      → RefusingInOne r → (new ≡ old) × (out' ≡ out)
  -- `quimdoral_fresh`, `quimdoral_hear`, `quimdoral_hear_all`
  pub fresh : (bearer period stamp : ℕ) (old m e s : List ℕ) (r : ℕ) (new m' e' s' : List ℕ)
      → Keeps refusal_number old (unused m e s) (fresh_record bearer period stamp m e s) r new m' e' s' → Refusing r → SameRecord old (unused m e s) new m' e' s'
  pub hear : (bearer period : ℕ) (f old m e s : List ℕ) (r : ℕ) (new m' e' s' : List ℕ)
      → Keeps answer_of old (kept_in (head_of old) m e s) (hear_frame (kept_in (head_of old) m e s) bearer period f) r new m' e' s' → Refusing r
      → SameRecord old (kept_in (head_of old) m e s) new m' e' s'
  pub hear_all_fact : (bearer period stamp : ℕ) (frames : List (List ℕ)) (ts : List Taken) (old m e s answers : List ℕ) (r : ℕ) (new m' e' s' answers' : List ℕ)
      → Keeps refusal_number old (unused m e s) (hear_sequence bearer period stamp (unused m e s) frames (length answers)) r new m' e' s'
      → AnswersOut old (hear_sequence bearer period stamp (unused m e s) frames (length answers)) ts answers answers' → Refusing r
      → SameRecord old (unused m e s) new m' e' s' × (answers' ≡ answers)
  -- `quimdoral_join`, `quimdoral_report`
  pub join : (a b : Kept) (old other : List ℕ) (r : ℕ) (new m' e' s' : List ℕ) → KeepsJoined old other a (join_records a b) r new m' e' s'
      → RefusingInOne r → SameRecord old a new m' e' s'
  pub report : (head : List ℕ) (k : Kept) (firsts counts octets figures : List ℕ) (r : ℕ) (f' c' o' figures' : List ℕ)
      → Figures head k firsts counts octets figures r f' c' o' figures' → Refusing r
      → (f' ≡ firsts) × (c' ≡ counts) × (o' ≡ octets) × (figures' ≡ figures)
