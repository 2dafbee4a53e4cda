-- The walk that decides whether some sending explains a record: once over its places, from the end of one heard packet to the next
-- (`proofs/Decided`). Assumes nothing.
use Rattle.std.specs.Prelude.{ℕ, zero, suc, ◌+◌, ◌*◌, Bool, cond, not, ◌&&◌, ◌||◌, leb, eqb}
use Rattle.units.specs.Limits.{most_payload}
use Rattle.reception.specs.Sendings.{Held}

-- where packet i has a octets before it, packet k can have e: not fewer, and at most 4,095 more for each packet between
unfoldable pub reach : ℕ → ℕ → ℕ → ℕ → Bool
reach i a k e = leb a e && leb (e + most_payload * i) (a + most_payload * k)

-- a packet k of length l at e octets can come after packets that end before number i, at a octets
unfoldable pub fits : ℕ → ℕ → ℕ → ℕ → ℕ → Bool
fits i a k e l = leb l most_payload && reach i a k e

-- so can a closing of n packets and t octets, where there is one
unfoldable pub may_end : Bool → ℕ → ℕ → ℕ → ℕ → Bool
may_end closed n t i a = not closed || (leb i n && reach i a n t)

-- the closing of a record
abbrev pub ends : Held → ℕ → ℕ → Bool
ends r i a = may_end r.closed r.count r.total i a

-- "heard or not": a mark of 1 is heard
abbrev pub is_heard : Held → ℕ → Bool
is_heard r k = eqb (r.mark k) 1

-- n places from place k on, where the last heard packet ends before number i, at a octets
unfoldable pub walk : Held → ℕ → ℕ → ℕ → ℕ → Bool
walk r zero k i a = ends r i a
walk r (suc n) k i a =
    (not (is_heard r k) || fits i a k (r.elapsed k) (r.size k))
    && walk r n (suc k) (cond (is_heard r k) (suc k) i) (cond (is_heard r k) (r.elapsed k + r.size k) a)

-- "no sending explains it" is this test failing: the walk over the whole record, from no octets before packet 0
unfoldable pub is_explained : Held → Bool
is_explained r = walk r r.capacity 0 0 0
