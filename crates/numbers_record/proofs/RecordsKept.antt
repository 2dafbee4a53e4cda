-- How answers about records meet the promises. Assumes nothing.
use Prim.Native.Nat.{ℕ, ◌≤◌}
use mathlib.Core.Path.{◌≡◌, refl, ap, ◌∙◌}
use mathlib.Core.List.{List}
use lib.ListN.{length}
use borrow.Author.Tests.{le-ltb}
use Rattle.reception.specs.Answers.{Taken, Taking}
use Rattle.reception.specs.Hearing.{Kept, Outcome, Takes, taken_paper}
use Rattle.reception.specs.Several.{answers_after, refusal_number}
use Rattle.reception.proofs.OnePaper.{taken_known}
use Rattle.numbers.specs.Answers.{number_told}
use Rattle.numbers_head.specs.Heads.{head_after}
use Rattle.numbers_record.specs.Records.{Keeps, AnswersOut}
use Rattle.std.specs.Prelude.{Ok, Err}

module _ (as_number : Taken → ℕ) (old : List ℕ) (k : Kept) (t : Outcome) (r : Taking) (marks elapsed sizes : List ℕ) (h : 6 ≤ length old) (p : Takes t r marks elapsed sizes) where
  same : r.answer ≡ t.answer
  same = taken_known r.answer t.answer p.says

  -- the head kept after a call, and the call's answer a as a number
  pub kept : (a : Taken) (x : ℕ) (new : List ℕ) → x ≡ as_number a → a ≡ r.answer → new ≡ head_after r.answer old r.head → Keeps as_number old k t x new marks elapsed sizes
  kept a x new e f l =
      let w = le-ltb (length old) 6 h in
      record {
        says = e ∙ rw (w, f, same) refl;
        leaves_head = l ∙ rw (w, same) (ap (λ (y : Kept). head_after t.answer old y.head) p.leaves);
        leaves_marks = ap (λ (y : Kept). y.marks) p.leaves ∙ rw w refl;
        leaves_elapsed = ap (λ (y : Kept). y.elapsed) p.leaves ∙ rw w refl;
        leaves_sizes = ap (λ (y : Kept). y.sizes) p.leaves ∙ rw w refl;
      }

-- the number of an answer
pub told : (a : Taken) → number_told a ≡ refusal_number a
unfolding taken_paper
told (Ok u) = refl
told (Err r) = refl

-- many answers
pub answers_left_lem : (old : List ℕ) (t : Outcome) (ts : List Taken) (answers new : List ℕ) → 6 ≤ length old → new ≡ answers_after t.answer ts answers
    → AnswersOut old t ts answers new
answers_left_lem old t ts answers new h e = record { leaves_answers = e ∙ rw (le-ltb (length old) 6 h) refl }
