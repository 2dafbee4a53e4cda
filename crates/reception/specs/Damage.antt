-- When a record is damaged (document 01, "The reception record"): plainly, and as a test (`proofs/DamagedExactly` ties them).
-- Assumes nothing.
use Rattle.std.specs.Prelude.{ℕ, zero, suc, ◌≤◌, ◌<◌, ◌≡◌, ◌⊎◌, Bool, false, not, ◌||◌, ◌&&◌, List, length, ltb, eqb}
use Rattle.units.specs.Limits.{last_stamp, most_capacity}
use Rattle.frame.specs.Counts.{some_of}
use Rattle.reception.specs.Sendings.{Held, Explained}
use Rattle.reception.specs.Walk.{is_explained}

-- "A record is damaged exactly if its stamp is above 59,999, a zero named above isn't zero, a mark is neither heard nor unheard, N
-- is above capacity, or no sending explains it"; the zeros are "Unheard numbers hold zeros" and, without a closing, its N and T
pub record Undamaged (stamp : ℕ) (r : Held) : Type 0 where
  pub in_range : stamp ≤ last_stamp
  pub marks : (k : ℕ) → k < r.capacity → (r.mark k ≡ 1) ⊎ (r.mark k ≡ 0)
  pub unheard : (k : ℕ) → k < r.capacity → r.mark k ≡ 0 → (r.elapsed k ≡ 0) × (r.size k ≡ 0)
  pub unclosed : r.closed ≡ false → (r.count ≡ 0) × (r.total ≡ 0)
  pub within : r.count ≤ r.capacity
  pub explained : Explained r

-- three lists of one length, of document 01's capacity; refusal 14 says that they are not
pub record Matched (marks elapsed sizes : List ℕ) : Type 0 where
  pub room : length marks ≤ most_capacity
  pub elapseds : length elapsed ≡ length marks
  pub lengths : length sizes ≡ length marks

-- a place with another mark, or unheard and not zero
unfoldable pub place_wrong : ℕ → ℕ → ℕ → Bool
place_wrong m e l = not (eqb m 1) && (not (eqb m 0) || some_of e l)

-- one of the first n places is wrong
unfoldable pub places_wrong : Held → ℕ → Bool
places_wrong r zero = false
places_wrong r (suc n) = places_wrong r n || place_wrong (r.mark n) (r.elapsed n) (r.size n)

-- a closing's N above capacity, or a closing that was not heard and is not zero
unfoldable pub closing_off : Bool → ℕ → ℕ → ℕ → Bool
closing_off closed n t capacity = ltb capacity n || (not closed && some_of n t)

-- a place is wrong, or no sending explains the record: both are seen in one walk
unfoldable pub walk_fails : Held → Bool
walk_fails r = places_wrong r r.capacity || not (is_explained r)

-- refusal 13: "A record is damaged exactly if", as a test
unfoldable pub damaged_record : ℕ → Held → Bool
damaged_record stamp r = ltb last_stamp stamp || (closing_off r.closed r.count r.total r.capacity || walk_fails r)
