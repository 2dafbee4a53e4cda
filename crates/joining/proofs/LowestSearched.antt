-- The search for the lowest packet number of the right that alone contradicts the left, as a loop goes along it. Assumes nothing.
use Prim.Native.Nat.{ℕ, suc, ◌+◌, ◌-◌, ◌≤◌, ◌<◌}
use mathlib.Core.Path.{◌≡◌, sym, ap, ◌∙◌}
use mathlib.Core.Bool.{Bool, true, false, ◌&&◌}
use mathlib.Core.List.{List}
use native.Mathlib.Nat.{sub-zero}
use native.Mathlib.Numerals.{add-one}
use native.Mathlib.Omega.{arith}
use lib.Dec.{eqb}
use lib.ListN.{length, get_or}
use Rattle.fields.proofs.Counting.{one_less}
use Rattle.reception.specs.declared.Head.{Head}
use Rattle.reception.specs.Sendings.{held_in}
use Rattle.reception.specs.Adding.{packet_contradicts}
use Rattle.reception.specs.Joining.{packet_off, lowest_off, lowest}
use Rattle.joining.specs.Beside.{LowestFound}
use Rattle.joining.proofs.BesideFound.{Walked, walk_starts}

-- the loop is at number k: it knows how far the left was walked over, and the lowest number of all is the lowest of the rest
pub record Searching (h : Head) (marks elapsed sizes om oe os : List ℕ) (i a next k : ℕ) : Type 0 where
  pub here : k ≤ length marks
  pub walked : Walked marks elapsed sizes k i a next
  pub same : (g : Head) → lowest (held_in h marks elapsed sizes) (held_in g om oe os)
      ≡ lowest_off (held_in h marks elapsed sizes) (held_in g om oe os) (length marks - k) k

pub search_start : (h : Head) (marks elapsed sizes om oe os : List ℕ) → Searching h marks elapsed sizes om oe os 0 0 0 0
search_start h marks elapsed sizes om oe os =
    record {
      here = omega arith;
      walked = walk_starts marks elapsed sizes;
      same = λ g. ap (λ (n : ℕ). lowest_off (held_in h marks elapsed sizes) (held_in g om oe os) n 0) (sym (sub-zero (length marks)));
    }

module _ (h : Head) (marks elapsed sizes om oe os : List ℕ) (i a next k : ℕ) (s : Searching h marks elapsed sizes om oe os i a next k) where
  -- what is asked of packet k of the right
  module _ (lt : k < length marks) (e l : ℕ) (el : e ≡ get_or oe k 0) (ll : l ≡ get_or os k 0) (b : Bool)
      (asked : b ≡ (eqb (get_or om k 0) 1 && packet_contradicts (held_in h marks elapsed sizes) k e l)) where
    off_is : (g : Head) → packet_off (held_in h marks elapsed sizes) (held_in g om oe os) k ≡ b
    off_is g = sym (rw (el, ll) at asked)

    left : length marks - k ≡ suc (length marks - (k + 1))
    left = one_less (length marks) k lt

    -- it contradicts: k is the lowest
    pub search_off : b ≡ true → LowestFound h marks elapsed sizes om oe os k
    unfolding lowest_off
    search_off t = record { number_is = λ g. sym (s.same g ∙ rw (left, off_is g, t)) }

    -- it does not: the search goes on
    pub search_on : b ≡ false → (i' a' next' : ℕ) → Walked marks elapsed sizes (k + 1) i' a' next'
        → Searching h marks elapsed sizes om oe os i' a' next' (k + 1)
    unfolding lowest_off
    search_on t i' a' next' d =
        record { here = omega arith; walked = d; same = λ g. s.same g ∙ rw (left, off_is g, t, add-one k) }

  -- none does
  pub search_none : length marks ≤ k → LowestFound h marks elapsed sizes om oe os k
  unfolding lowest_off
  search_none le =
      let z : length marks - k ≡ 0 = omega arith in
      record { number_is = λ g. sym (s.same g ∙ rw z) }
