-- What of a record lies next to a packet number: the last packet heard before it, and the first after it (`proofs/NeighboursDecide`
-- says that no other place has to be looked at). Assumes nothing.
use Rattle.std.specs.Prelude.{ℕ, zero, suc, ◌+◌, ◌≤◌, ◌<◌, Bool, cond, ◌≡◌, List, length, get_or}
use Rattle.reception.specs.declared.Head.{Head}
use Rattle.reception.specs.Sendings.{Held, held_in}
use Rattle.reception.specs.Walk.{fits, ends, is_heard}

-- the number after the last packet heard below n, 0 where none was
unfoldable pub end_to : Held → ℕ → ℕ
end_to r zero = 0
end_to r (suc n) = cond (is_heard r n) (suc n) (end_to r n)

-- and the octets before that number
unfoldable pub octets_to : Held → ℕ → ℕ
octets_to r zero = 0
octets_to r (suc n) = cond (is_heard r n) (r.elapsed n + r.size n) (octets_to r n)

-- the first packet heard among n places from k on, or else the closing, can come after packets that end before number i, at a octets
unfoldable pub next_fits : Held → ℕ → ℕ → ℕ → ℕ → Bool
next_fits r zero k i a = ends r i a
next_fits r (suc n) k i a = cond (is_heard r k) (fits i a k (r.elapsed k) (r.size k)) (next_fits r n (suc k) i a)

-- i and a say where the last packet heard below k ends, in a record of these lists and whatever head
pub record EndBelow (marks elapsed sizes : List ℕ) (k i a : ℕ) : Type 0 where
  pub number_is : (h : Head) → i ≡ end_to (held_in h marks elapsed sizes) k
  pub octets_are : (h : Head) → a ≡ octets_to (held_in h marks elapsed sizes) k

-- nothing was heard before the place first
pub record NoneBefore (marks : List ℕ) (first : ℕ) : Type 0 where
  pub none : (j : ℕ) → j < first → get_or marks j 0 ≡ 1 → ⊥

-- nothing was heard from the place end on
pub record NoneFrom (marks : List ℕ) (end : ℕ) : Type 0 where
  pub inside : end ≤ length marks
  pub none : (j : ℕ) → end ≤ j → get_or marks j 0 ≡ 1 → ⊥
