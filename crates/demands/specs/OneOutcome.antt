-- "any two outcomes that satisfy it are proved equal" (document 01, "What the promises have to say"): of each public function, where an
-- outcome is the answer and all lent memory after it. Assumes nothing.
use Rattle.std.specs.Prelude.{ℕ, ◌≡◌, List, length, ℤ}
use Rattle.checks.specs.Check.{header_check, payload_check}
use Rattle.clock.specs.Answers.{Moment, DueTime}
use Rattle.clock.specs.Clock.{stamp_of, due_at, late}
use Rattle.clock.specs.Paper.{moment_paper, due_paper}
use Rattle.frame.specs.declared.ClosingPdu.{ClosingPdu}
use Rattle.frame.specs.declared.Read.{Read}
use Rattle.frame.specs.Answers.{Listed, Written}
use Rattle.frame.specs.Paper.{read_paper}
use Rattle.frame.specs.Payloads.{payload_kept}
use Rattle.frame.specs.Reading.{read_frame}
use Rattle.frame.specs.Writing.{write_data, write_closing, write_lengths, data_frame, closing_frame, lengths_frame}
use Rattle.reader.specs.Lists.{Lists}
use Rattle.writer.specs.Promise.{Wrote}
use Rattle.sender.specs.declared.Sender.{Sender}
use Rattle.sender.specs.Answers.{Dispatch}
use Rattle.sender.specs.State.{fresh_sender, closing_by}
use Rattle.sender.specs.Calls.{open_call, renew_call, data_call, close_call, close_with_call, Turns, Sends}
use Rattle.reception.specs.Answers.{Joining, Reported, Taken, Taking}
use Rattle.reception.specs.Hearing.{Kept, Outcome, fresh_record, hear_frame, Takes}
use Rattle.reception.specs.Joining.{join_records, Joins}
use Rattle.reception.specs.Reporting.{Reports}
use Rattle.several.specs.Rest.{HearsSequence}

-- at most one outcome meets the promise P
abbrev pub Fixes : {A : Type 0} → (A → Type 0) → Type 0
Fixes {A} P = (x y : A) → P x → P y → x ≡ y

-- a list of a record, after
abbrev pub Lent : Type 0
Lent = List ℕ

-- for each function: its promise leaves one outcome
pub record OneOutcome : Type 0 where
  pub header_check_fact : (s : List ℕ) → Fixes (λ (r : ℕ). r ≡ header_check s)
  pub payload_check_fact : (s : List ℕ) → Fixes (λ (r : ℕ). r ≡ payload_check s)
  pub payload_kept_fact : (p : List ℕ) → Fixes (λ (r : ℕ). r ≡ payload_kept p)
  pub read_frame_fact : (s : List ℕ) → Fixes (λ (r : Read). read_paper r ≡ read_paper (read_frame s))
  pub read_lengths : (s old : List ℕ) → Fixes (λ (o : Listed × Lent). Lists s old o.0 o.1)
  pub write_data_fact : (stamp n e : ℕ) (p old : List ℕ)
      → Fixes (λ (o : Written × Lent). Wrote (write_data stamp n e (length p) (length old)) (data_frame stamp n e p) old o.0 o.1)
  pub write_closing_fact : (c : ClosingPdu) (old : List ℕ)
      → Fixes (λ (o : Written × Lent). Wrote (write_closing c (length old)) (closing_frame c) old o.0 o.1)
  pub write_closing_with_lengths : (c : ClosingPdu) (ls old : List ℕ)
      → Fixes (λ (o : Written × Lent). Wrote (write_lengths c ls (length old)) (lengths_frame c ls) old o.0 o.1)
  pub stamp_of_fact : (start tick : ℕ) → Fixes (λ (r : Moment). moment_paper r ≡ moment_paper (stamp_of start tick))
  pub due : (start stamp : ℕ) → Fixes (λ (r : DueTime). due_paper r ≡ due_paper (due_at start stamp))
  pub lateness : (arrival at : ℕ) → Fixes (λ (r : ℤ). r ≡ late arrival at)
  -- the sender's calls, by value and where the sender stands: both have these promises
  pub fresh_sender_fact : Fixes (λ (r : Sender). r ≡ fresh_sender)
  pub opened : (s : Sender) (stamp : ℕ) → Fixes (Turns (open_call s stamp))
  pub renewed : (s : Sender) → Fixes (Turns (renew_call s))
  pub sent : (s : Sender) (p old : List ℕ)
      → Fixes (λ (o : Dispatch × Lent). Sends (data_call s (length p) (length old)) (data_frame s.stamp s.number.0 s.elapsed.0 p) old o.0 o.1)
  pub closed : (s : Sender) (old : List ℕ)
      → Fixes (λ (o : Dispatch × Lent). Sends (close_call s (length old)) (closing_frame (closing_by s)) old o.0 o.1)
  pub closed_with_lengths : (s : Sender) (ls old : List ℕ)
      → Fixes (λ (o : Dispatch × Lent). Sends (close_with_call s ls (length old)) (lengths_frame (closing_by s) ls) old o.0 o.1)
  -- a fresh record, and a frame heard
  pub fresh : (bearer period stamp : ℕ) (marks elapsed sizes : List ℕ)
      → Fixes (λ (o : Taking × Lent × Lent × Lent). Takes (fresh_record bearer period stamp marks elapsed sizes) o.0 o.1 o.2 o.3)
  pub hear : (k : Kept) (bearer period : ℕ) (f : List ℕ)
      → Fixes (λ (o : Taking × Lent × Lent × Lent). Takes (hear_frame k bearer period f) o.0 o.1 o.2 o.3)
  pub hear_sequence_fact : (t : Outcome) (ts : List Taken) (old : List ℕ)
      → Fixes (λ (o : Taking × Lent × Lent × Lent × Lent). HearsSequence t ts old o.0 o.1 o.2 o.3 o.4)
  pub join : (a b : Kept) → Fixes (λ (o : Joining × Lent × Lent × Lent). Joins (join_records a b) o.0 o.1 o.2 o.3)
  pub report : (k : Kept) (firsts counts octets : List ℕ)
      → Fixes (λ (o : Reported × Lent × Lent × Lent). Reports k firsts counts octets o.0 o.1 o.2 o.3)
