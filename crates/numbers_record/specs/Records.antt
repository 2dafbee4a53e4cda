-- A reception record as C and Rust keep it: the head in a list of numbers, beside the three lists; and what the functions promise of
-- all four. Assumes nothing.
use Rattle.std.specs.Prelude.{ℕ, ◌≡◌, List, length, ltb}
use Rattle.units.specs.Refusals.{capacities_differ}
use Rattle.fields.specs.Choice.{◌when◌otherwise◌}
use Rattle.reception.specs.Answers.{Taken}
use Rattle.reception.specs.Hearing.{Kept, Outcome}
use Rattle.reception.specs.Several.{answers_after}
use Rattle.numbers_head.specs.Heads.{head_after}

-- the promise about a record k whose head stands in the list old, where `as_number` is how an answer is given as a number: 14 where the list has
-- fewer than six numbers, otherwise what t says
pub record Keeps (as_number : Taken → ℕ) (old : List ℕ) (k : Kept) (t : Outcome) (r : ℕ) (new marks elapsed sizes : List ℕ) : Type 0 where
  pub says : r ≡ (capacities_differ when ltb (length old) 6 otherwise as_number t.answer)
  pub leaves_head : new ≡ (old when ltb (length old) 6 otherwise head_after t.answer old t.kept.head)
  pub leaves_marks : marks ≡ (k.marks when ltb (length old) 6 otherwise t.kept.marks)
  pub leaves_elapsed : elapsed ≡ (k.elapsed when ltb (length old) 6 otherwise t.kept.elapsed)
  pub leaves_sizes : sizes ≡ (k.sizes when ltb (length old) 6 otherwise t.kept.sizes)

-- and about many answers ts, in a lent list
pub record AnswersOut (old : List ℕ) (t : Outcome) (ts : List Taken) (answers new : List ℕ) : Type 0 where
  pub leaves_answers : new ≡ (answers when ltb (length old) 6 otherwise answers_after t.answer ts answers)
