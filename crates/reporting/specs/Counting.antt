-- What one pass over the places of a record counts: packets heard, their octets, where the last one ends, and the gaps before them.
-- Assumes nothing.
use Rattle.std.specs.Prelude.{ℕ, ◌*◌, ◌≤◌, ◌≡◌, List, length}
use Rattle.units.specs.Limits.{most_capacity}
use Rattle.reception.specs.declared.Head.{Head}
use Rattle.reception.specs.Sendings.{held_in}
use Rattle.reception.specs.Reporting.{heard_to, heard_octets_to}
use Rattle.damage.specs.Judging.{Ended}

-- what was counted over the first k places, in a record of these lists and whatever head
pub record Tallied (marks elapsed sizes : List ℕ) (k heard octets end before gaps : ℕ) : Type 0 where
  pub ended : Ended marks elapsed sizes k end before gaps
  pub heard_is : (h : Head) → heard ≡ heard_to (held_in h marks elapsed sizes) k
  pub octets_are : (h : Head) → octets ≡ heard_octets_to (held_in h marks elapsed sizes) k
  pub here : k ≤ length marks
  pub room : length marks ≤ most_capacity
  pub heard_few : heard ≤ k
  pub octets_few : octets ≤ 65535 * k
