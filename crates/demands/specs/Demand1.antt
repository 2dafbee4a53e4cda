-- Demand 1: "Every call takes every input, hostile frames and damaged records too, and comes to an end. A refusal carries its number from
-- the table, and no lent memory differs after it." That a call takes every input and comes to an end is what the prover shows of every
-- function without a `requires`; here stands what any outcome is that meets its promise. Assumes nothing.
use Rattle.std.specs.Prelude.{ℕ, ◌≡◌, Bool, true, false, cond, ◌&&◌, ◌||◌, List, [], ◌∷◌, ◌++◌, eqb, length, Err}
use Rattle.units.specs.declared.refusals.Refusal.{Refusal}
use Rattle.units.specs.Refusals.{refusals, tells_checks}
use Rattle.clock.specs.Answers.{Moment, DueTime}
use Rattle.clock.specs.Clock.{stamp_of, due_at}
use Rattle.clock.specs.Paper.{moment_paper, due_paper}
use Rattle.frame.specs.declared.ClosingPdu.{ClosingPdu}
use Rattle.frame.specs.declared.Read.{Read}
use Rattle.frame.specs.declared.Read.TheVariants.{Refused as NotRead}
use Rattle.frame.specs.Answers.{Listed, Written}
use Rattle.frame.specs.Paper.{read_paper, listed_paper, written_paper, CountPaper}
use Rattle.frame.specs.Reading.{read_frame}
use Rattle.frame.specs.WrongChecks.{ChecksTold, TellsOf}
use Rattle.frame.specs.Writing.{write_data, write_closing, write_lengths, data_frame, closing_frame, lengths_frame}
use Rattle.reader.specs.Lists.{Lists}
use Rattle.writer.specs.Promise.{Wrote}
use Rattle.sender.specs.declared.Sender.{Sender}
use Rattle.sender.specs.Answers.{Dispatch, Turning}
use Rattle.sender.specs.State.{closing_by}
use Rattle.sender.specs.Calls.{turned_paper, open_call, renew_call, data_call, close_call, close_with_call, Turns, Sends}
use Rattle.reception.specs.Answers.{Joining, Reported, Taken, Taking}
use Rattle.reception.specs.Hearing.{Kept, kept_in, unused, empty_kept, unmatched, fresh_record, hear_frame, taken_paper, Takes}
use Rattle.reception.specs.Joining.{join_records, joined_paper, Joins}
use Rattle.reception.specs.Reporting.{reported_paper, Reports}
use Rattle.reception.specs.Several.{answer_of, answers_to, hear_sequence}
use Rattle.several.specs.Rest.{HearsSequence}

-- a number is one of these
unfoldable pub among : List ℕ → ℕ → Bool
among [] n = false
among (m ∷ ms) n = eqb m n || among ms n

-- "A refusal carries its number from the table": a call that took nothing has one of these numbers, which stands in the table, and one that
-- took something has 0; and checks stand with 4 and 7 alone (document 02, request 6)
abbrev pub carries : List ℕ → ℕ → ℕ → ℕ → ℕ → Bool
carries numbers number found worked taken =
    cond (eqb taken 0) (among numbers number && among refusals number) (eqb number 0)
    && (tells_checks number || (eqb found 0 && eqb worked 0))

-- the same by the paper of an answer
abbrev pub carries_as : List ℕ → CountPaper → Bool
carries_as numbers p = carries numbers p.number p.found p.worked p.accepted

-- the refusals of each call, in document 01's order ("Order when several apply")
abbrev pub of_reading : List ℕ  -- "Reading: empty 1; 2; 3; too short 1; 4; 5; 6; 7; 8"
of_reading = 1 ∷ 2 ∷ 3 ∷ 4 ∷ 5 ∷ 6 ∷ 7 ∷ 8 ∷ []

abbrev pub of_lengths : List ℕ  -- "Reading the lengths of a Type 3 frame into a lent list: reading's order, 12"
of_lengths = of_reading ++ (12 ∷ [])

-- "Writing a frame from given fields, without a sender: 5, 20, 8, 22, 12"; of Type 1
abbrev pub of_writing_data : List ℕ
of_writing_data = 5 ∷ 20 ∷ 8 ∷ 12 ∷ []

-- of Type 0
abbrev pub of_writing_closing : List ℕ
of_writing_closing = 5 ∷ 8 ∷ 12 ∷ []

-- of Type 3
abbrev pub of_writing_lengths : List ℕ
of_writing_lengths = 5 ∷ 8 ∷ 22 ∷ 12 ∷ []

abbrev pub of_opening : List ℕ  -- "Opening a sequence: 21, 15, 5, 16"
of_opening = 21 ∷ 15 ∷ 5 ∷ 16 ∷ []

abbrev pub of_new_period : List ℕ  -- "New period: 21, 15"
of_new_period = 21 ∷ 15 ∷ []

abbrev pub of_data : List ℕ  -- document 01's order of "Data", as document 02, request 9, mends it
of_data = 21 ∷ 15 ∷ 20 ∷ 17 ∷ 18 ∷ 12 ∷ []

-- "Closing: 21, 15, 22 for Type 3, 12"; of Type 0
abbrev pub of_closing : List ℕ
of_closing = 21 ∷ 15 ∷ 12 ∷ []

-- of Type 3
abbrev pub of_closing_lengths : List ℕ
of_closing_lengths = 21 ∷ 15 ∷ 22 ∷ 12 ∷ []

abbrev pub of_stamp : List ℕ  -- "Stamp of a moment: 23"
of_stamp = 23 ∷ []

abbrev pub of_due : List ℕ  -- "Due time: 5"
of_due = 5 ∷ []

abbrev pub of_fresh : List ℕ  -- "Fresh record: 14, 5"
of_fresh = 14 ∷ 5 ∷ []

abbrev pub of_hearing : List ℕ  -- "Hearing a frame: 14, reading's order, 13, 9, 10, 11"
of_hearing = 14 ∷ (of_reading ++ (13 ∷ 9 ∷ 10 ∷ 11 ∷ []))

abbrev pub of_hearing_many : List ℕ  -- many frames into a fresh record: as a fresh record, and then 12 (decision 31)
of_hearing_many = 14 ∷ 5 ∷ 12 ∷ []

abbrev pub of_joining : List ℕ  -- "Joining: 14, 13, 9, 11"
of_joining = 14 ∷ 13 ∷ 9 ∷ 11 ∷ []

abbrev pub of_report : List ℕ  -- "Report: 14, 13, 12"
of_report = 14 ∷ 13 ∷ 12 ∷ []

-- what a call that writes a frame answers and leaves: one of its numbers, and refused nothing differs
abbrev pub WritesOn : List ℕ → CountPaper → List ℕ → List ℕ → Type 0
WritesOn numbers p old new = (carries_as numbers p ≡ true) × (p.accepted ≡ 0 → new ≡ old)

-- what a call of the sender does, with the sender too
abbrev pub SendsOn : List ℕ → Sender → Dispatch → List ℕ → List ℕ → Type 0
SendsOn numbers s r old new =
    (carries_as numbers (written_paper r.answer) ≡ true)
    × ((written_paper r.answer).accepted ≡ 0 → (r.sender ≡ s) × (new ≡ old))

-- what a call of the sender does that writes nothing
abbrev pub TurnsOn : List ℕ → Sender → Turning → Type 0
TurnsOn numbers s r =
    (carries_as numbers (turned_paper r.answer) ≡ true)
    × ((turned_paper r.answer).accepted ≡ 0 → r.sender ≡ s)

-- what a call of a record does: refused, it is as before
abbrev pub Leaves : List ℕ → Kept → CountPaper → Kept → Type 0
Leaves numbers old p new = (carries_as numbers p ≡ true) × (p.accepted ≡ 0 → new ≡ old)

-- the answers to many frames, each in one number, in front of a list: each carries its number, tells of its own frame's checks, and is
-- reading's refusal where reading refused
pub data EachTold : List (List ℕ) → List ℕ → Type 0 where
  none : {rest : List ℕ} → EachTold [] rest
  told : {f : List ℕ} {fs : List (List ℕ)} {ns : List ℕ} (t : Taken) → carries_as of_hearing (taken_paper t) ≡ true → TellsOf f (taken_paper t)
      → ((q : Refusal) → read_frame f ≡ NotRead q → t ≡ Err q) → EachTold fs ns → EachTold (f ∷ fs) (answer_of t ∷ ns)

-- the demand, call by call: of any outcome that meets the promise
pub record Demand1 : Type 0 where
  pub reading : (s : List ℕ) (r : Read) → read_paper r ≡ read_paper (read_frame s)
      → carries of_reading (read_paper r).number (read_paper r).found (read_paper r).worked (read_paper r).kind ≡ true
  pub lengths : (s old : List ℕ) (r : Listed) (new : List ℕ) → Lists s old r new → WritesOn of_lengths (listed_paper r) old new
  pub writing_data : (stamp n e : ℕ) (p old : List ℕ) (r : Written) (new : List ℕ)
      → Wrote (write_data stamp n e (length p) (length old)) (data_frame stamp n e p) old r new → WritesOn of_writing_data (written_paper r) old new
  pub writing_closing : (c : ClosingPdu) (old : List ℕ) (r : Written) (new : List ℕ)
      → Wrote (write_closing c (length old)) (closing_frame c) old r new → WritesOn of_writing_closing (written_paper r) old new
  pub writing_lengths : (c : ClosingPdu) (ls old : List ℕ) (r : Written) (new : List ℕ)
      → Wrote (write_lengths c ls (length old)) (lengths_frame c ls) old r new → WritesOn of_writing_lengths (written_paper r) old new
  pub opening : (s : Sender) (stamp : ℕ) (r : Turning) → Turns (open_call s stamp) r → TurnsOn of_opening s r
  pub renewing : (s : Sender) (r : Turning) → Turns (renew_call s) r → TurnsOn of_new_period s r
  pub sending : (s : Sender) (p old : List ℕ) (r : Dispatch) (new : List ℕ)
      → Sends (data_call s (length p) (length old)) (data_frame s.stamp s.number.0 s.elapsed.0 p) old r new
      → SendsOn of_data s r old new
  pub closing : (s : Sender) (old : List ℕ) (r : Dispatch) (new : List ℕ) → Sends (close_call s (length old)) (closing_frame (closing_by s)) old r new
      → SendsOn of_closing s r old new
  pub closing_with_lengths : (s : Sender) (ls old : List ℕ) (r : Dispatch) (new : List ℕ)
      → Sends (close_with_call s ls (length old)) (lengths_frame (closing_by s) ls) old r new → SendsOn of_closing_lengths s r old new
  pub stamping : (start tick : ℕ) (r : Moment) → moment_paper r ≡ moment_paper (stamp_of start tick)
      → carries of_stamp (moment_paper r).number (moment_paper r).found (moment_paper r).worked (moment_paper r).accepted ≡ true
  pub due_time : (start stamp : ℕ) (r : DueTime) → due_paper r ≡ due_paper (due_at start stamp)
      → carries of_due (due_paper r).number (due_paper r).found (due_paper r).worked (due_paper r).accepted ≡ true
  pub fresh_record_fact : (bearer period stamp : ℕ) (marks elapsed sizes : List ℕ) (r : Taking) (m e s : List ℕ)
      → Takes (fresh_record bearer period stamp marks elapsed sizes) r m e s
      → Leaves of_fresh (unused marks elapsed sizes) (taken_paper r.answer) (kept_in r.head m e s)
  pub hearing : (k : Kept) (bearer period : ℕ) (f : List ℕ) (r : Taking) (m e s : List ℕ) → Takes (hear_frame k bearer period f) r m e s
      → Leaves of_hearing k (taken_paper r.answer) (kept_in r.head m e s)
  pub hearing_many : (bearer period stamp : ℕ) (old : Kept) (frames : List (List ℕ)) (ts : List Taken) (answers : List ℕ) (r : Taking) (m e s new : List ℕ)
      → HearsSequence (hear_sequence bearer period stamp old frames (length answers)) ts answers r m e s new
      → Leaves of_hearing_many old (taken_paper r.answer) (kept_in r.head m e s)
      × ((taken_paper r.answer).accepted ≡ 0 → new ≡ answers)
  -- document 02, request 6: "The check routine and everything above it shall give, with refusals 4 and 7, the check found and the check worked
  -- out", of each call that reads a frame; and what reading refuses, the calls above it refuse so
  pub reading_tells : (s : List ℕ) (r : Read) → read_paper r ≡ read_paper (read_frame s)
      → ChecksTold s (read_paper r).number (read_paper r).found (read_paper r).worked
  pub lengths_tell : (s old : List ℕ) (r : Listed) (new : List ℕ) → Lists s old r new → TellsOf s (listed_paper r)
  pub lengths_hand_on : (s old : List ℕ) (r : Listed) (new : List ℕ) → Lists s old r new → (q : Refusal) → read_frame s ≡ NotRead q → r ≡ Err q
  pub hearing_tells : (k : Kept) (bearer period : ℕ) (f : List ℕ) (r : Taking) (m e s : List ℕ) → Takes (hear_frame k bearer period f) r m e s
      → TellsOf f (taken_paper r.answer)
  pub hearing_hands_on : (k : Kept) (bearer period : ℕ) (f : List ℕ) (r : Taking) (m e s : List ℕ) → Takes (hear_frame k bearer period f) r m e s
      → unmatched k ≡ false → (q : Refusal) → read_frame f ≡ NotRead q → r.answer ≡ Err q
  pub each_told : (bearer period stamp : ℕ) (old : Kept) (frames : List (List ℕ)) (answers : List ℕ) (r : Taking) (m e s new : List ℕ)
      → HearsSequence (hear_sequence bearer period stamp old frames (length answers))
      (answers_to (empty_kept bearer period stamp (length old.marks)) bearer period frames) answers r m e s new
      → (taken_paper r.answer).accepted ≡ 1 → EachTold frames new
  pub joining : (a b : Kept) (r : Joining) (m e s : List ℕ) → Joins (join_records a b) r m e s
      → (carries of_joining (joined_paper r.answer).number (joined_paper r.answer).found (joined_paper r.answer).worked (joined_paper r.answer).accepted ≡ true)
      × ((joined_paper r.answer).accepted ≡ 0 → kept_in r.head m e s ≡ a)
  pub reporting : (k : Kept) (firsts counts octets : List ℕ) (r : Reported) (f c o : List ℕ) → Reports k firsts counts octets r f c o
      → (carries of_report (reported_paper r).number (reported_paper r).found (reported_paper r).worked (reported_paper r).accepted ≡ true)
      × ((reported_paper r).accepted ≡ 0 → (f ≡ firsts) × (c ≡ counts) × (o ≡ octets))
