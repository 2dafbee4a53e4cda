-- Each promise fixes its outcome: one law, cited for each function. Assumes nothing.
use Prim.Native.Nat.{ℕ}
use mathlib.Core.Path.{◌≡◌, sym, ◌∙◌}
use mathlib.Core.List.{List}
use lib.ListN.{length}
use Rattle.clock.proofs.OnePaper.{moment_known, due_known}
use Rattle.clock.specs.Clock.{stamp_of, due_at}
use Rattle.frame.specs.Answers.{Listed, Written}
use Rattle.frame.specs.Listing.{list_lengths, listed}
use Rattle.frame.specs.Reading.{read_frame}
use Rattle.frame.specs.Writing.{after}
use Rattle.frame.proofs.OnePaper.{read_known, written_known, listed_known}
use Rattle.reader.specs.Lists.{Lists}
use Rattle.writer.specs.Promise.{Wrote}
use Rattle.sender.specs.Answers.{Dispatch, Turning}
use Rattle.sender.specs.Calls.{Turns, Sends}
use Rattle.sender.proofs.OnePaper.{turned_known}
use Rattle.reception.specs.Answers.{Joining, Reported, Taken, Taking}
use Rattle.reception.specs.Hearing.{Kept, Outcome, Takes}
use Rattle.reception.specs.Joining.{JoinOutcome, Joins}
use Rattle.reception.specs.Reporting.{Reports}
use Rattle.reception.proofs.OnePaper.{taken_known, joined_known, report_once}
use Rattle.several.specs.Rest.{HearsSequence}
use Rattle.demands.specs.OneOutcome.{Fixes, OneOutcome}

-- the law: a promise of which every outcome is the same one fixes it
pub fixed_by : {A : Type 0} (P : A → Type 0) (v : A) → ((x : A) → P x → x ≡ v) → Fixes P
fixed_by P v known x y p q = known x p ∙ sym (known y q)

-- an equation does
same : {A : Type 0} (v : A) → Fixes (λ (r : A). r ≡ v)
same {A} v = fixed_by (λ (r : A). r ≡ v) v (λ x p. p)

-- an answer with the memory that it leaves
wrote : (a : Written) (frame old : List ℕ) → Fixes (λ (o : Written × List ℕ). Wrote a frame old o.0 o.1)
wrote a frame old =
    fixed_by (λ (o : Written × List ℕ). Wrote a frame old o.0 o.1) (a, after a frame old)
    (λ o p. λ i. (written_known o.0 a p.says i, p.leaves i))

sends : (t : Dispatch) (frame old : List ℕ) → Fixes (λ (o : Dispatch × List ℕ). Sends t frame old o.0 o.1)
sends t frame old =
    fixed_by (λ (o : Dispatch × List ℕ). Sends t frame old o.0 o.1) (t, after t.answer frame old)
    (λ o p. λ i. (record { answer = written_known o.0.answer t.answer p.says i; sender = p.next i }, p.leaves i))

takes_one : (t : Outcome) → Fixes (λ (o : Taking × List ℕ × List ℕ × List ℕ). Takes t o.0 o.1 o.2 o.3)
takes_one t =
    fixed_by (λ (o : Taking × List ℕ × List ℕ × List ℕ). Takes t o.0 o.1 o.2 o.3)
    (record { answer = t.answer; head = t.kept.head }, t.kept.marks, t.kept.elapsed, t.kept.sizes)
    (λ o p. λ i. (record { answer = taken_known o.0.answer t.answer p.says i; head = (p.leaves i).head }, (p.leaves i).marks, (p.leaves i).elapsed, (p.leaves i).sizes))

joins_one : (t : JoinOutcome) → Fixes (λ (o : Joining × List ℕ × List ℕ × List ℕ). Joins t o.0 o.1 o.2 o.3)
joins_one t =
    fixed_by (λ (o : Joining × List ℕ × List ℕ × List ℕ). Joins t o.0 o.1 o.2 o.3)
    (record { answer = t.answer; head = t.kept.head }, t.kept.marks, t.kept.elapsed, t.kept.sizes)
    (λ o p. λ i. (record { answer = joined_known o.0.answer t.answer p.says i; head = (p.leaves i).head }, (p.leaves i).marks, (p.leaves i).elapsed, (p.leaves i).sizes))

lists : (s old : List ℕ) → Fixes (λ (o : Listed × List ℕ). Lists s old o.0 o.1)
lists s old =
    let a = list_lengths (read_frame s) (length old) in
    fixed_by (λ (o : Listed × List ℕ). Lists s old o.0 o.1) (a, listed a s old)
    (λ o p. λ i. (listed_known o.0 a p.says i, p.leaves i))

turns : (t : Turning) → Fixes (Turns t)
turns t =
    fixed_by (Turns t) t (λ r p. λ i. record { answer = turned_known r.answer t.answer p.says i; sender = p.next i })

sequences : (t : Outcome) (ts : List Taken) (old : List ℕ)
    → Fixes (λ (o : Taking × List ℕ × List ℕ × List ℕ × List ℕ). HearsSequence t ts old o.0 o.1 o.2 o.3 o.4)
sequences t ts old x y p q =
    let e = takes_one t (x.0, x.1, x.2, x.3) (y.0, y.1, y.2, y.3) p.taken q.taken in
    let n = p.answers ∙ sym q.answers in
    λ i. ((e i).0, (e i).1, (e i).2, (e i).3, n i)

reports : (k : Kept) (firsts counts octets : List ℕ)
    → Fixes (λ (o : Reported × List ℕ × List ℕ × List ℕ). Reports k firsts counts octets o.0 o.1 o.2 o.3)
reports k firsts counts octets x y p q =
    let e = report_once k firsts counts octets x.0 y.0 x.1 x.2 x.3 y.1 y.2 y.3 p q in
    λ i. (e.0 i, e.1 i, e.2 i, e.3 i)

pub one_outcome : OneOutcome
one_outcome =
    record {
      header_check_fact = λ s. same _;
      payload_check_fact = λ s. same _;
      payload_kept_fact = λ s. same _;
      read_frame_fact = λ s. fixed_by _ (read_frame s) (λ r p. read_known r (read_frame s) p);
      read_lengths = lists;
      write_data_fact = λ stamp n e p old. wrote _ _ old;
      write_closing_fact = λ c old. wrote _ _ old;
      write_closing_with_lengths = λ c ls old. wrote _ _ old;
      stamp_of_fact = λ start tick. fixed_by _ (stamp_of start tick) (λ r p. moment_known r (stamp_of start tick) p);
      due = λ start stamp. fixed_by _ (due_at start stamp) (λ r p. due_known r (due_at start stamp) p);
      lateness = λ arrival at. same _;
      fresh_sender_fact = same _;
      opened = λ s stamp. turns _;
      renewed = λ s. turns _;
      sent = λ s p old. sends _ _ old;
      closed = λ s old. sends _ _ old;
      closed_with_lengths = λ s ls old. sends _ _ old;
      fresh = λ bearer period stamp marks elapsed sizes. takes_one _;
      hear = λ k bearer period f. takes_one _;
      hear_sequence_fact = sequences;
      join = λ a b. joins_one _;
      report = reports;
    }
