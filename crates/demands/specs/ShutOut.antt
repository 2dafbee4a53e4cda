-- "Versions to be shut out" (document 01, "What the promises have to say"): no function that meets its promise is one of them. Assumes
-- nothing.
use Rattle.std.specs.Prelude.{ℕ, ◌+◌, ◌≡◌, true, List, length, get_or, Ok}
use Rattle.frame.specs.declared.Read.{Read}
use Rattle.frame.specs.Answers.{Written}
use Rattle.frame.specs.Paper.{read_paper, written_paper}
use Rattle.frame.specs.Reading.{read_frame}
use Rattle.frame.specs.Sizes.{data_head}
use Rattle.frame.specs.Writing.{write_data}
use Rattle.reception.specs.declared.Report.{Report}
use Rattle.reception.specs.Answers.{Reported}
use Rattle.reception.specs.Sendings.{Explains}
use Rattle.reception.specs.Hearing.{Kept, Outcome, held_by, hear_frame, Takes}
use Rattle.reception.specs.Joining.{JoinOutcome, join_records, Joins}
use Rattle.reception.specs.Missing.{Says}
use Rattle.reception.specs.Reporting.{report_record, reported_paper}

-- a way to read frames that keeps its promise
abbrev pub Reads : (List ℕ → Read) → Type 0
Reads f = (s : List ℕ) → read_paper (f s) ≡ read_paper (read_frame s)

-- a way to write data PDUs whose answers keep theirs, given stamp, number, elapsed octets, the payload's length and the room
abbrev pub Answers : (ℕ → ℕ → ℕ → ℕ → ℕ → Written) → Type 0
Answers f = (stamp n e l room : ℕ) → written_paper (f stamp n e l room) ≡ written_paper (write_data stamp n e l room)

-- a way to hear, by what it answers and leaves
abbrev pub Hears : (Kept → ℕ → ℕ → List ℕ → Outcome) → Type 0
Hears f =
    (k : Kept) (bearer period : ℕ) (frame : List ℕ)
    → Takes (hear_frame k bearer period frame) (record { answer = (f k bearer period frame).answer; head = (f k bearer period frame).kept.head })
    (f k bearer period frame).kept.marks (f k bearer period frame).kept.elapsed (f k bearer period frame).kept.sizes

-- a way to join
abbrev pub JoinsTwo : (Kept → Kept → JoinOutcome) → Type 0
JoinsTwo f =
    (a b : Kept) → Joins (join_records a b) (record { answer = (f a b).answer; head = (f a b).kept.head })
    (f a b).kept.marks (f a b).kept.elapsed (f a b).kept.sizes

-- a way to report, by its answer, where room gaps can be written
abbrev pub Tells : (Kept → ℕ → Reported) → Type 0
Tells f = (k : Kept) (room : ℕ) → reported_paper (f k room) ≡ reported_paper (report_record k room)

-- each of the versions, and that it keeps no promise
pub record ShutOut : Type 0 where
  -- "one refusing everything"
  pub refuses_all_frames : (f : List ℕ → Read) → Reads f → ((s : List ℕ) → (read_paper (f s)).kind ≡ 0) → ⊥
  pub refuses_all_writing : (f : ℕ → ℕ → ℕ → ℕ → ℕ → Written) → Answers f
      → ((stamp n e l room : ℕ) → (written_paper (f stamp n e l room)).accepted ≡ 0) → ⊥
  -- "one with a constant reply"
  pub replies_the_same : (f : List ℕ → Read) → Reads f → ((s t : List ℕ) → f s ≡ f t) → ⊥
  -- "We counted them as payload" (request 2): one that counts every octet behind the checks of a data PDU
  pub counts_extensions : (f : List ℕ → Read) → Reads f
      → ((s : List ℕ) → (read_paper (f s)).kind ≡ 2 → data_head + (read_paper (f s)).payload ≡ length s) → ⊥
  -- "a join that writes nothing"
  pub joins_nothing : (f : Kept → Kept → JoinOutcome) → JoinsTwo f → ((a b : Kept) → (f a b).kept ≡ a) → ⊥
  -- "a record that takes its first frame and ignores the rest"
  pub takes_first_only : (f : Kept → ℕ → ℕ → List ℕ → Outcome) → Hears f
      → ((k : Kept) (n bearer period : ℕ) (frame : List ℕ) → get_or k.marks n 0 ≡ 1 → (f k bearer period frame).kept ≡ k) → ⊥
  -- "a report with invented counts": others than those of a sending that explains the closed record
  pub invents_counts : (f : Kept → ℕ → Reported) → Tells f → (k : Kept) (room : ℕ) (t : Report) (s : List ℕ) → f k room ≡ Ok t → k.head.closed ≡ true
      → Explains (held_by k) s → (Says t (held_by k) s → ⊥) → ⊥
