-- What of the left record lies beside a packet number of the right, as the search keeps it, and what the search finds. Assumes nothing.
use Rattle.std.specs.Prelude.{ℕ, ◌≤◌, ◌<◌, ◌≡◌, List, Bool, not, ◌&&◌, ltb, eqb, length, get_or}
use Rattle.reception.specs.declared.Head.{Head}
use Rattle.reception.specs.Sendings.{held_in}
use Rattle.reception.specs.Neighbours.{EndBelow}
use Rattle.reception.specs.Joining.{lowest}

-- "for each packet number below capacity it holds: heard or not": place j is one of them, and not heard
unfoldable pub unheard_at : List ℕ → ℕ → Bool
unheard_at marks j = ltb j (length marks) && not (eqb (get_or marks j 0) 1)

-- the first place from a place on in which a packet was heard, or the place behind them all
pub record FirstFrom (marks : List ℕ) (from next : ℕ) : Type 0 where
  pub after : from ≤ next
  pub inside : next ≤ length marks
  pub none : (j : ℕ) → from ≤ j → j < next → get_or marks j 0 ≡ 1 → ⊥
  pub found : next < length marks → get_or marks next 0 ≡ 1

-- where the last packet heard below k ends, and the first one heard from k on
pub record BesideIs (marks elapsed sizes : List ℕ) (k i a next : ℕ) : Type 0 where
  pub below : EndBelow marks elapsed sizes k i a
  pub above : FirstFrom marks k next

-- the lowest packet number of the right that alone contradicts the left, whatever head the right has
pub record LowestFound (h : Head) (marks elapsed sizes otherMarks otherElapsed otherSizes : List ℕ) (k : ℕ) : Type 0 where
  pub number_is : (g : Head) → k ≡ lowest (held_in h marks elapsed sizes) (held_in g otherMarks otherElapsed otherSizes)
