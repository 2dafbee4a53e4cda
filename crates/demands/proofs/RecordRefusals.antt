-- Demand 1 of records: a refused call carries one of its numbers, and leaves the record, or the lent lists, as they were. Assumes nothing.
use Prim.Native.Nat.{ℕ}
use mathlib.Core.Path.{◌≡◌, refl, sym, ap, ◌∙◌}
use mathlib.Core.Bool.{true, ◌&&◌, ◌||◌}
use mathlib.Core.List.{List, [], ◌∷◌}
use lib.Dec.{ltb, eqb}
use lib.ListN.{length}
use Rattle.units.specs.Limits.{last_stamp}
use Rattle.units.specs.Refusals.{number_of, found_of, worked_of, refusals}
use Rattle.fields.proofs.Choosing.{whichever}
use Rattle.fields.proofs.Tests.{both, and_yes, or_true}
use Rattle.frame.specs.Paper.{read_paper}
use Rattle.frame.specs.Reading.{read_frame}
use Rattle.reception.specs.Answers.{Joining, Reported, Taken, Taking}
use Rattle.reception.specs.Hearing.{Kept, Outcome, kept_in, held_by, unused, unmatched, damaged_kept, lists_differ, fresh_record, hear_frame, taken_paper, Takes}
use Rattle.reception.specs.Joining.{JoinPaper, JoinOutcome, capacities_off, other_record, lowest, own_closing_off, join_records, joined_paper, Joins}
use Rattle.reception.specs.Reporting.{Gap, ReportPaper, gaps_of, gaps_after, report_record, reported_paper, room_of, Reports}
use Rattle.reception.specs.Several.{hear_sequence, answers_after}
use Rattle.reception.proofs.HeardTold.{Answered, unmatched_lists, unread, withheld, taken, damaged, other, beyond, contradicting, heard_told}
use Rattle.several.specs.Rest.{HearsSequence}
use Rattle.demands.specs.Demand1.{among, carries, of_fresh, of_hearing_many, of_joining, of_report, of_reading, of_hearing, Leaves}
use Rattle.demands.proofs.Refusals.{accepted_of, no_zero, among_more, read_carries}
use Rattle.std.specs.Prelude.{Ok, Err}

-- fresh records, and hearing
abbrev pub OutcomeLeaves : List ℕ → Kept → Outcome → Type 0
OutcomeLeaves numbers old t = Leaves numbers old (taken_paper t.answer) t.kept

pub takes_leaves : (numbers : List ℕ) (old : Kept) (t : Outcome) (r : Taking) (m e s : List ℕ) → OutcomeLeaves numbers old t → Takes t r m e s
    → Leaves numbers old (taken_paper r.answer) (kept_in r.head m e s)
takes_leaves numbers old t r m e s c w = (rw w.says c.0, λ z. w.leaves ∙ c.1 (sym (ap accepted_of w.says) ∙ z))

pub fresh_leaves : (bearer period stamp : ℕ) (marks elapsed sizes : List ℕ)
    → OutcomeLeaves of_fresh (unused marks elapsed sizes) (fresh_record bearer period stamp marks elapsed sizes)
unfolding fresh_record taken_paper among
fresh_leaves bearer period stamp marks elapsed sizes =
    whichever (OutcomeLeaves of_fresh (unused marks elapsed sizes)) _ _ (lists_differ (length marks) (length elapsed) (length sizes)) (refl, λ _. refl)
    (λ _. whichever (OutcomeLeaves of_fresh (unused marks elapsed sizes)) _ _ (ltb last_stamp stamp) (refl, λ _. refl) (λ _. (refl, no_zero)))

-- a frame heard, by what hearing comes to
answered_leaves : (k : Kept) (f : List ℕ) (o : Outcome) → Answered k (read_frame f) o → OutcomeLeaves of_hearing k o
unfolding taken_paper read_paper among
answered_leaves k f _ (unmatched_lists u) = (refl, λ _. refl)
answered_leaves k f _ (unread r e) =
    let c : carries of_reading (number_of r) (found_of r) (worked_of r) 0 ≡ true = rw e at (read_carries f) in
    let q = both (among of_reading (number_of r) && among refusals (number_of r)) _ c in
    let p = both (among of_reading (number_of r)) _ q.0 in
    let more = among_more of_reading (13 ∷ 9 ∷ 10 ∷ 11 ∷ []) (number_of r) p.0 in
    (and_yes (and_yes {a = among of_hearing (number_of r)} (rw more (or_true (eqb 14 (number_of r)))) p.1) q.1, λ _. refl)
answered_leaves k f _ (withheld _ damaged w) = (refl, λ _. refl)
answered_leaves k f _ (withheld _ other w) = (refl, λ _. refl)
answered_leaves k f _ (withheld _ beyond w) = (refl, λ _. refl)
answered_leaves k f _ (withheld _ contradicting w) = (refl, λ _. refl)
answered_leaves k f _ (taken next w) = (refl, no_zero)

pub hear_leaves : (k : Kept) (bearer period : ℕ) (f : List ℕ) → OutcomeLeaves of_hearing k (hear_frame k bearer period f)
hear_leaves k bearer period f = answered_leaves k f (hear_frame k bearer period f) (heard_told k bearer period f)

-- many frames at once
pub many_leaves : (bearer period stamp : ℕ) (old : Kept) (frames : List (List ℕ)) (room : ℕ)
    → OutcomeLeaves of_hearing_many old (hear_sequence bearer period stamp old frames room)
unfolding hear_sequence taken_paper among
many_leaves bearer period stamp old frames room =
    whichever (OutcomeLeaves of_hearing_many old) _ _ (unmatched old) (refl, λ _. refl)
    (λ _.
    whichever (OutcomeLeaves of_hearing_many old) _ _ (ltb last_stamp stamp) (refl, λ _. refl)
    (λ _. whichever (OutcomeLeaves of_hearing_many old) _ _ (ltb room (length frames)) (refl, λ _. refl) (λ _. (refl, no_zero))))

pub none_answered : (a : Taken) (ts : List Taken) (old : List ℕ) → (taken_paper a).accepted ≡ 0 → answers_after a ts old ≡ old
unfolding taken_paper
none_answered (Ok u) ts old e = no_zero e
none_answered (Err r) ts old e = refl

pub many_carry : (bearer period stamp : ℕ) (old : Kept) (frames : List (List ℕ)) (ts : List Taken) (answers : List ℕ) (r : Taking) (m e s new : List ℕ)
    → HearsSequence (hear_sequence bearer period stamp old frames (length answers)) ts answers r m e s new
    → Leaves of_hearing_many old (taken_paper r.answer) (kept_in r.head m e s)
    × ((taken_paper r.answer).accepted ≡ 0 → new ≡ answers)
many_carry bearer period stamp old frames ts answers r m e s new w =
    let t = hear_sequence bearer period stamp old frames (length answers) in (
      takes_leaves of_hearing_many old t r m e s (many_leaves bearer period stamp old frames (length answers)) w.taken,
      λ z. w.answers ∙ none_answered t.answer ts answers (sym (ap accepted_of w.taken.says) ∙ z),
    )

-- joining
abbrev pub JoinLeaves : Kept → JoinOutcome → Type 0
JoinLeaves a t =
    (carries of_joining (joined_paper t.answer).number (joined_paper t.answer).found (joined_paper t.answer).worked (joined_paper t.answer).accepted ≡ true)
    × ((joined_paper t.answer).accepted ≡ 0 → t.kept ≡ a)

pub joins_leaves : (a : Kept) (t : JoinOutcome) (r : Joining) (m e s : List ℕ) → JoinLeaves a t → Joins t r m e s
    → JoinLeaves a (record { answer = r.answer; kept = kept_in r.head m e s })
joins_leaves a t r m e s c w = (rw w.says c.0, λ z. w.leaves ∙ c.1 (sym (ap (λ (p : JoinPaper). p.accepted) w.says) ∙ z))

pub join_leaves : (a b : Kept) → JoinLeaves a (join_records a b)
unfolding join_records joined_paper among
join_leaves a b =
    whichever (JoinLeaves a) _ _ (capacities_off a b) (refl, λ _. refl)
    (λ _.
    whichever (JoinLeaves a) _ _ (damaged_kept a || damaged_kept b) (refl, λ _. refl)
    (λ _.
    whichever (JoinLeaves a) _ _ (other_record a b) (refl, λ _. refl)
    (λ _.
    whichever (JoinLeaves a) _ _ (ltb (lowest (held_by a) (held_by b)) (length a.marks)) (refl, λ _. refl)
    (λ _. whichever (JoinLeaves a) _ _ (own_closing_off (held_by a) (held_by b)) (refl, λ _. refl) (λ _. (refl, no_zero))))))

-- reporting
abbrev ReportCarries : Reported → Type 0
ReportCarries x = carries of_report (reported_paper x).number (reported_paper x).found (reported_paper x).worked (reported_paper x).accepted ≡ true

report_carries : (k : Kept) (room : ℕ) → ReportCarries (report_record k room)
unfolding report_record reported_paper among
report_carries k room =
    whichever ReportCarries _ _ (unmatched k) refl
    (λ _.
    whichever ReportCarries _ _ (damaged_kept k) refl (λ _. whichever ReportCarries _ _ (ltb room (length (gaps_of (held_by k)))) refl (λ _. refl)))

none_listed : (x : Reported) (number : Gap → ℕ) (gaps : List Gap) (old : List ℕ) → (reported_paper x).accepted ≡ 0 → gaps_after x number gaps old ≡ old
unfolding reported_paper gaps_after
none_listed (Ok r) number gaps old e = no_zero e
none_listed (Err r) number gaps old e = refl

pub reports_carry : (k : Kept) (firsts counts octets : List ℕ) (r : Reported) (f c o : List ℕ) → Reports k firsts counts octets r f c o
    → (carries of_report (reported_paper r).number (reported_paper r).found (reported_paper r).worked (reported_paper r).accepted ≡ true)
    × ((reported_paper r).accepted ≡ 0 → (f ≡ firsts) × (c ≡ counts) × (o ≡ octets))
reports_carry k firsts counts octets r f c o w =
    let x = report_record k (room_of firsts counts octets) in (
      rw w.says (report_carries k (room_of firsts counts octets)),
      λ z.
          let a = sym (ap (λ (p : ReportPaper). p.accepted) w.says) ∙ z in (
            w.leaves_firsts ∙ none_listed x _ _ firsts a,
            w.leaves_counts ∙ none_listed x _ _ counts a,
            w.leaves_octets ∙ none_listed x _ _ octets a,
          ),
    )
