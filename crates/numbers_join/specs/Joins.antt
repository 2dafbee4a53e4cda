-- A join as C and Rust get it: the answer in one number. Assumes nothing.
use Rattle.std.specs.Prelude.{ℕ, ◌≡◌, List, ltb, length}
use Rattle.units.specs.OneNumber.{with_value}
use Rattle.units.specs.Refusals.{capacities_differ}
use Rattle.fields.specs.Choice.{◌when◌otherwise◌}
use Rattle.reception.specs.Answers.{Joined}
use Rattle.reception.specs.Hearing.{Kept}
use Rattle.reception.specs.Joining.{JoinOutcome, joined_paper}
use Rattle.numbers_head.specs.Heads.{head_after}

-- 0, or the refusal's number; with 11, the number that it names is added 256 times
abbrev pub join_number : Joined → ℕ
join_number t = with_value (joined_paper t).number (joined_paper t).named

-- the promise about the left record k, whose head stands in the list old, and a right one, whose head stands in the list other: 14 where
-- one of the two has fewer than six numbers, otherwise what t says
pub record KeepsJoined (old other : List ℕ) (k : Kept) (t : JoinOutcome) (r : ℕ) (new marks elapsed sizes : List ℕ) : Type 0 where
  pub says : r ≡ (capacities_differ when ltb (length old) 6 otherwise capacities_differ when ltb (length other) 6 otherwise join_number t.answer)
  pub leaves_head : new ≡ (old when ltb (length old) 6 otherwise old when ltb (length other) 6 otherwise head_after t.answer old t.kept.head)
  pub leaves_marks : marks ≡ (k.marks when ltb (length old) 6 otherwise k.marks when ltb (length other) 6 otherwise t.kept.marks)
  pub leaves_elapsed : elapsed ≡ (k.elapsed when ltb (length old) 6 otherwise k.elapsed when ltb (length other) 6 otherwise t.kept.elapsed)
  pub leaves_sizes : sizes ≡ (k.sizes when ltb (length old) 6 otherwise k.sizes when ltb (length other) 6 otherwise t.kept.sizes)
