-- An exported function that answers a refusal leaves every lent list as it was. Assumes nothing.
use Prim.Native.Nat.{ℕ}
use mathlib.Core.Path.{◌≡◌, refl, ap, subst, ◌∙◌}
use mathlib.Core.Bool.{Bool, true, false}
use mathlib.Core.List.{List, map}
use native.Mathlib.Omega.{arith}
use lib.Dec.{eqb, ltb}
use lib.ListN.{length}
use Rattle.units.specs.Refusals.{no_room, capacities_differ}
use Rattle.fields.specs.Choice.{◌when◌otherwise◌}
use Rattle.fields.specs.Runs.{front}
use Rattle.frame.specs.Answers.{Listed, Written}
use Rattle.frame.specs.Listing.{list_lengths, listed}
use Rattle.frame.specs.Paper.{ReadPaper, read_paper, listed_paper, written_paper}
use Rattle.frame.specs.Reading.{read_frame}
use Rattle.frame.specs.Writing.{after}
use Rattle.sender.specs.declared.Sender.{Sender}
use Rattle.sender.specs.Answers.{Turned}
use Rattle.sender.specs.Calls.{turned_paper}
use Rattle.reception.specs.declared.Head.{Head}
use Rattle.reception.specs.Answers.{Joined, Reported, Taken}
use Rattle.reception.specs.Hearing.{Kept, Outcome, taken_paper}
use Rattle.reception.specs.Joining.{JoinOutcome, joined_paper}
use Rattle.reception.specs.Reporting.{Gap, gaps_after, report_record, room_of}
use Rattle.reception.specs.Several.{refusal_number, answer_of}
use Rattle.reception.proofs.AnswersTold.{no_number, no_answer}
use Rattle.numbers.specs.Answers.{in_one}
use Rattle.numbers_frames.specs.Reading.{ReadOut}
use Rattle.numbers_sender.specs.Senders.{state_after}
use Rattle.numbers_head.specs.Heads.{head_after}
use Rattle.numbers_record.specs.Records.{Keeps}
use Rattle.numbers_join.specs.Joins.{join_number, KeepsJoined}
use Rattle.numbers_report.specs.Reports.{figures_of, report_number, figures_after, gaps_out}
use Rattle.demands.specs.ExportedRefusals.{Refusing, RefusingInOne, SameRecord, RefusedExported}
use Rattle.demands.proofs.Refusals.{no_zero}
use Rattle.demands.proofs.RecordRefusals.{fresh_leaves, hear_leaves, many_leaves, none_answered, join_leaves}
use Rattle.std.specs.Prelude.{Ok, Err}
use Rattle.reception.specs.declared.NotJoined.TheVariants.{Contradicts, Refused}

-- an answer and a list that follow one test: as it was on the one side, so only the other is left
beyond : (t : Bool) (n m r : ℕ) (old x new : List ℕ) → r ≡ (n when t otherwise m) → new ≡ (old when t otherwise x) → (r ≡ m → x ≡ old) → new ≡ old
beyond true n m r old x new e l h = l
beyond false n m r old x new e l h = l ∙ h e

-- what each kind of answer leaves, where its number is a refusal's
list_stays : (a : Listed) (s old : List ℕ) → RefusingInOne (in_one (listed_paper a)) → listed a s old ≡ old
unfolding in_one listed_paper listed
list_stays (Ok n) s old h = absurd (omega arith)
list_stays (Err r) s old h = refl

frame_stays : (a : Written) (frame old : List ℕ) → RefusingInOne (in_one (written_paper a)) → after a frame old ≡ old
unfolding in_one written_paper after
frame_stays (Ok n) frame old h = absurd (omega arith)
frame_stays (Err r) frame old h = refl

turn_stays : (a : Turned) (old : List ℕ) (s : Sender) → Refusing (turned_paper a).number → state_after a old s ≡ old
unfolding turned_paper
turn_stays (Ok u) old s h = absurd (h refl)
turn_stays (Err r) old s h = refl

state_stays : (a : Written) (old : List ℕ) (s : Sender) → RefusingInOne (in_one (written_paper a)) → state_after a old s ≡ old
unfolding in_one written_paper
state_stays (Ok n) old s h = absurd (omega arith)
state_stays (Err r) old s h = refl

not_taken : (as_number : Taken → ℕ) → as_number (Ok tt) ≡ 0 → (a : Taken) → Refusing (as_number a) → (taken_paper a).accepted ≡ 0
unfolding taken_paper
not_taken as_number z (Ok u) h = absurd (h z)
not_taken as_number z (Err r) h = refl

head_stays : (a : Taken) (old : List ℕ) (h : Head) → (taken_paper a).accepted ≡ 0 → head_after a old h ≡ old
unfolding taken_paper
head_stays (Ok u) old h e = no_zero e
head_stays (Err r) old h e = refl

not_joined : (a : Joined) → RefusingInOne (join_number a) → (joined_paper a).accepted ≡ 0
unfolding joined_paper
not_joined (Ok u) h = absurd (omega arith)
not_joined (Err (Contradicts n)) h = refl
not_joined (Err (Refused r)) h = refl

joined_head_stays : (a : Joined) (old : List ℕ) (h : Head) → (joined_paper a).accepted ≡ 0 → head_after a old h ≡ old
unfolding joined_paper
joined_head_stays (Ok u) old h e = no_zero e
joined_head_stays (Err (Contradicts n)) old h e = refl
joined_head_stays (Err (Refused r)) old h e = refl

-- a list that is left alone where there is no room for figures, and there must be none
without_room : (t : Bool) (old x : List ℕ) → Refusing (no_room when t otherwise 0) → (old when t otherwise x) ≡ old
without_room true old x h = refl
without_room false old x h = absurd (h refl)

either_way : (t : Bool) (old : List ℕ) → (old when t otherwise old) ≡ old
either_way true old = refl
either_way false old = refl

figures_stay : (a : Reported) (old : List ℕ) → Refusing (report_number (length old) a) → figures_after a old ≡ old
figures_stay (Err x) old h = refl
figures_stay (Ok r) old h = without_room (ltb (length old) 7) old (front old (figures_of r)) h

gaps_stay : (a : Reported) (number : Gap → ℕ) (gaps : List Gap) (figures old : List ℕ) → Refusing (report_number (length figures) a) → gaps_out figures a number gaps old ≡ old
unfolding gaps_after
gaps_stay (Err x) number gaps figures old h = either_way (ltb (length figures) 7) old
gaps_stay (Ok r) number gaps figures old h = without_room (ltb (length figures) 7) old (front old (map number gaps)) h

-- a record, where what is refused keeps it
keeps_stay : (as_number : Taken → ℕ) → as_number (Ok tt) ≡ 0 → (old : List ℕ) (k : Kept) (t : Outcome) (r : ℕ) (new m e s : List ℕ)
    → ((taken_paper t.answer).accepted ≡ 0 → t.kept ≡ k) → Keeps as_number old k t r new m e s → Refusing r → SameRecord old k new m e s
keeps_stay as_number z old k t r new m e s same w h =
    let left : r ≡ as_number t.answer → (taken_paper t.answer).accepted ≡ 0 = λ q. not_taken as_number z t.answer (subst Refusing q h) in (
      beyond (ltb (length old) 6) _ _ r old _ new w.says w.leaves_head (λ q. head_stays t.answer old t.kept.head (left q)),
      beyond (ltb (length old) 6) _ _ r k.marks _ m w.says w.leaves_marks (λ q. ap (λ (x : Kept). x.marks) (same (left q))),
      beyond (ltb (length old) 6) _ _ r k.elapsed _ e w.says w.leaves_elapsed (λ q. ap (λ (x : Kept). x.elapsed) (same (left q))),
      beyond (ltb (length old) 6) _ _ r k.sizes _ s w.says w.leaves_sizes (λ q. ap (λ (x : Kept). x.sizes) (same (left q))),
    )

joined_stay : (old other : List ℕ) (k : Kept) (t : JoinOutcome) (r : ℕ) (new m e s : List ℕ) → ((joined_paper t.answer).accepted ≡ 0 → t.kept ≡ k)
    → KeepsJoined old other k t r new m e s → RefusingInOne r → SameRecord old k new m e s
joined_stay old other k t r new m e s same w h =
    let left : r ≡ join_number t.answer → (joined_paper t.answer).accepted ≡ 0 = λ q. not_joined t.answer (subst RefusingInOne q h) in (
      twice old _ new w.says w.leaves_head (λ q. joined_head_stays t.answer old t.kept.head (left q)),
      twice k.marks _ m w.says w.leaves_marks (λ q. ap (λ (x : Kept). x.marks) (same (left q))),
      twice k.elapsed _ e w.says w.leaves_elapsed (λ q. ap (λ (x : Kept). x.elapsed) (same (left q))),
      twice k.sizes _ s w.says w.leaves_sizes (λ q. ap (λ (x : Kept). x.sizes) (same (left q))),
    )
  where
    -- two tests, one of each head
    twice : (was x after : List ℕ) → r ≡ (capacities_differ when ltb (length old) 6 otherwise capacities_differ when ltb (length other) 6 otherwise join_number t.answer)
        → after ≡ (was when ltb (length old) 6 otherwise was when ltb (length other) 6 otherwise x) → (r ≡ join_number t.answer → x ≡ was) → after ≡ was
    twice was x after e l f =
        beyond (ltb (length old) 6) _ _ r was _ after e l (λ q. beyond (ltb (length other) 6) _ _ r was x _ q refl f)

read_stays : (p : ReadPaper) (old : List ℕ) (r : ℕ) (new : List ℕ) → ReadOut p old r new → Refusing r → new ≡ old
read_stays p old r new w h =
    beyond (eqb p.kind 0) _ _ r old _ new w.says w.leaves
    (λ q. beyond (ltb (length old) 7) _ _ r old _ _ q refl (λ z. absurd (h z)))

pub refused_exported : RefusedExported
refused_exported =
    record {
      read_frame_fact = λ s old r new w h. read_stays (read_paper (read_frame s)) old r new w h;
      read_lengths = λ s old r new w h. w.leaves ∙ list_stays (list_lengths (read_frame s) (length old)) s old (subst RefusingInOne w.says h);
      write = λ a frame old r new w h. w.leaves ∙ frame_stays a frame old (subst RefusingInOne w.says h);
      sender_fresh = λ old r new w h. beyond (ltb (length old) 6) _ _ r old _ new w.says w.leaves (λ z. absurd (h z));
      sender_turn = λ old t r new w h.
          beyond (ltb (length old) 6) _ _ r old _ new w.says w.leaves_state (λ q. turn_stays t.answer old t.sender (subst Refusing q h));
      sender_frame = λ old t frame out r new out' w h. (
        beyond (ltb (length old) 6) _ _ r old _ new w.says w.leaves_state (λ q. state_stays t.answer old t.sender (subst RefusingInOne q h)),
        beyond (ltb (length old) 6) _ _ r out _ out' w.says w.leaves_out (λ q. frame_stays t.answer frame out (subst RefusingInOne q h)),
      );
      fresh = λ bearer period stamp old m e s r new m' e' s' w h. keeps_stay refusal_number no_number old _ _ r new m' e' s' (fresh_leaves bearer period stamp m e s).1 w h;
      hear = λ bearer period f old m e s r new m' e' s' w h. keeps_stay answer_of no_answer old _ _ r new m' e' s' (hear_leaves _ bearer period f).1 w h;
      hear_all_fact = λ bearer period stamp frames ts old m e s answers r new m' e' s' answers' w v h. (
        keeps_stay refusal_number no_number old _ _ r new m' e' s' (many_leaves bearer period stamp _ frames (length answers)).1 w h,
        beyond (ltb (length old) 6) _ _ r answers _ answers' w.says v.leaves_answers
            (λ q. none_answered _ ts answers (not_taken refusal_number no_number _ (subst Refusing q h))),
      );
      join = λ a b old other r new m' e' s' w h. joined_stay old other a _ r new m' e' s' (join_leaves a b).1 w h;
      report = λ head k firsts counts octets figures r f' c' o' figures' w h.
          let x = report_record k (room_of firsts counts octets) in (
            beyond (ltb (length head) 6) _ _ r firsts _ f' w.says w.leaves_firsts (λ q. gaps_stay x _ _ figures firsts (subst Refusing q h)),
            beyond (ltb (length head) 6) _ _ r counts _ c' w.says w.leaves_counts (λ q. gaps_stay x _ _ figures counts (subst Refusing q h)),
            beyond (ltb (length head) 6) _ _ r octets _ o' w.says w.leaves_octets (λ q. gaps_stay x _ _ figures octets (subst Refusing q h)),
            beyond (ltb (length head) 6) _ _ r figures _ figures' w.says w.leaves_figures (λ q. figures_stay x figures (subst Refusing q h)),
          );
    }
