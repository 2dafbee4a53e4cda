-- The same of the exported functions, by what they promise: an outcome is the number that is answered and all lent memory after it.
-- Assumes nothing.
use Rattle.std.specs.Prelude.{ℕ, ◌≡◌, List, ℤ}
use Rattle.checks.specs.Check.{header_check, payload_check}
use Rattle.clock.specs.Clock.{stamp_of, due_at, late}
use Rattle.frame.specs.Answers.{Written}
use Rattle.frame.specs.Paper.{ReadPaper}
use Rattle.frame.specs.Payloads.{payload_kept}
use Rattle.sender.specs.Answers.{Dispatch, Turning}
use Rattle.reception.specs.Answers.{Taken}
use Rattle.reception.specs.Hearing.{Kept, Outcome}
use Rattle.reception.specs.Joining.{JoinOutcome}
use Rattle.numbers_frames.specs.Reading.{ReadOut, ListsInOne}
use Rattle.numbers_frames.specs.Writing.{Writes}
use Rattle.numbers_sender.specs.Senders.{MakesFresh, TurnsState, SendsState}
use Rattle.numbers_record.specs.Records.{Keeps, AnswersOut}
use Rattle.numbers_join.specs.Joins.{KeepsJoined}
use Rattle.numbers_report.specs.Reports.{Figures}
use Rattle.numbers_ticks.specs.Ticks.{moment_number, due_number}
use Rattle.demands.specs.OneOutcome.{Fixes, Lent}

pub record OneExported : Type 0 where
  -- `quimdoral_header_check`, `quimdoral_payload_check`
  pub header_check_fact : (s : List ℕ) → Fixes (λ (r : ℕ). r ≡ header_check s)
  pub payload_check_fact : (s : List ℕ) → Fixes (λ (r : ℕ). r ≡ payload_check s)
  -- `quimdoral_read_frame`, `quimdoral_read_lengths`
  pub read_frame_fact : (p : ReadPaper) (old : List ℕ) → Fixes (λ (o : ℕ × Lent). ReadOut p old o.0 o.1)
  pub read_lengths : (s old : List ℕ) → Fixes (λ (o : ℕ × Lent). ListsInOne s old o.0 o.1)
  -- `quimdoral_payload_kept`
  pub payload_kept_fact : (p : List ℕ) → Fixes (λ (r : ℕ). r ≡ payload_kept p)
  -- `quimdoral_write_data`, `quimdoral_write_closing`, `quimdoral_write_closing_with_lengths`
  pub write : (a : Written) (frame old : List ℕ) → Fixes (λ (o : ℕ × Lent). Writes a frame old o.0 o.1)
  -- `quimdoral_sender_fresh`; `_open` and `_new_period`; `_data`, `_close` and `_close_with_lengths`
  pub sender_fresh : (old : List ℕ) → Fixes (λ (o : ℕ × Lent). MakesFresh old o.0 o.1)
  pub sender_turn : (old : List ℕ) (t : Turning) → Fixes (λ (o : ℕ × Lent). TurnsState old t o.0 o.1)
  pub sender_frame : (old : List ℕ) (t : Dispatch) (frame out : List ℕ) → Fixes (λ (o : ℕ × Lent × Lent). SendsState old t frame out o.0 o.1 o.2)
  -- `quimdoral_fresh` and `quimdoral_hear`; `quimdoral_hear_all`
  pub record_call : (as_number : Taken → ℕ) (old : List ℕ) (k : Kept) (t : Outcome)
      → Fixes (λ (o : ℕ × Lent × Lent × Lent × Lent). Keeps as_number old k t o.0 o.1 o.2 o.3 o.4)
  pub hear_all_fact : (as_number : Taken → ℕ) (old : List ℕ) (k : Kept) (t : Outcome) (ts : List Taken) (answers : List ℕ)
      → Fixes (λ (o : ℕ × Lent × Lent × Lent × Lent × Lent). Keeps as_number old k t o.0 o.1 o.2 o.3 o.4 × AnswersOut old t ts answers o.5)
  -- `quimdoral_join`, `quimdoral_report`
  pub join : (old other : List ℕ) (k : Kept) (t : JoinOutcome)
      → Fixes (λ (o : ℕ × Lent × Lent × Lent × Lent). KeepsJoined old other k t o.0 o.1 o.2 o.3 o.4)
  pub report : (head : List ℕ) (k : Kept) (firsts counts octets figures : List ℕ)
      → Fixes (λ (o : ℕ × Lent × Lent × Lent × Lent). Figures head k firsts counts octets figures o.0 o.1 o.2 o.3 o.4)
  -- `quimdoral_stamp_of`, `quimdoral_due`, `quimdoral_lateness`
  pub stamp_of_fact : (start tick : ℕ) → Fixes (λ (r : ℕ). r ≡ moment_number (stamp_of start tick))
  pub due : (start stamp : ℕ) → Fixes (λ (r : ℕ). r ≡ due_number (due_at start stamp))
  pub lateness : (arrival at : ℕ) → Fixes (λ (r : ℤ). r ≡ late arrival at)
