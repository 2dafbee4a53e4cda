-- What judging a record in one pass over its places promises: whether it is damaged, and where its packets end and how many gaps lie before
-- them. Assumes nothing.
use Rattle.std.specs.Prelude.{ℕ, zero, suc, ◌+◌, ◌≤◌, ◌≡◌, Bool, cond, List, eqb, length, Option, is_none, IfSome}
use Rattle.fields.specs.Choice.{◌when◌otherwise◌}
use Rattle.reception.specs.declared.Head.{Head}
use Rattle.reception.specs.Sendings.{Held, held_in}
use Rattle.reception.specs.Walk.{is_heard}
use Rattle.reception.specs.Neighbours.{end_to, octets_to}
use Rattle.damage.specs.declared.judging.Judged.{Judged}

-- how many gaps are between packets that end before number i and packet k
abbrev pub gap_between : ℕ → ℕ → ℕ
gap_between i k = 0 when eqb i k otherwise 1

-- the gaps before the packets heard below n
unfoldable pub gaps_to : Held → ℕ → ℕ
gaps_to r zero = 0
gaps_to r (suc n) = gaps_to r n + cond (is_heard r n) (gap_between (end_to r n) n) 0

-- where the packets heard among the first k places end, and the gaps before them, in a record of these lists and whatever head
pub record Ended (marks elapsed sizes : List ℕ) (k end before gaps : ℕ) : Type 0 where
  pub end_is : (h : Head) → end ≡ end_to (held_in h marks elapsed sizes) k
  pub before_is : (h : Head) → before ≡ octets_to (held_in h marks elapsed sizes) k
  pub gaps_are : (h : Head) → gaps ≡ gaps_to (held_in h marks elapsed sizes) k
  pub gaps_few : gaps ≤ k

-- the promise: nothing is said exactly if b; what is said is where the packets heard end
pub record Judges (b : Bool) (marks elapsed sizes : List ℕ) (r : Option Judged) : Type 0 where
  pub says : is_none r ≡ b
  pub counts : IfSome r (λ (j : Judged). Ended marks elapsed sizes (length marks) j.end.0 j.before.0 j.gaps)
