-- What a reception record holds, and which sendings explain it (document 01, "The reception record"). Assumes nothing.
use Rattle.std.specs.Prelude.{ℕ, ◌≤◌, ◌<◌, ◌≡◌, Bool, true, List, length, get_or, take}
use Rattle.units.specs.Limits.{most_payload, most_in_sequence}
use Rattle.frame.specs.Counts.{sum_of}
use Rattle.reception.specs.declared.Head.{Head}

-- "For each packet number below capacity it holds: heard or not, elapsed octets, payload length"; "a closing, if heard, holds its N
-- and octets T". A mark of 1 is heard, of 0 unheard
pub record Held : Type 0 where
  pub capacity : ℕ
  pub mark : ℕ → ℕ
  pub elapsed : ℕ → ℕ
  pub size : ℕ → ℕ
  pub closed : Bool
  pub count : ℕ
  pub total : ℕ

-- what a head and its three lists hold
abbrev pub held_in : Head → List ℕ → List ℕ → List ℕ → Held
held_in h marks elapsed sizes =
    record {
      capacity = length marks;
      mark = λ k. get_or marks k 0;
      elapsed = λ k. get_or elapsed k 0;
      size = λ k. get_or sizes k 0;
      closed = h.closed;
      count = h.count.0;
      total = h.total.0;
    }

-- packet k was heard
pub record Heard (r : Held) (k : ℕ) : Type 0 where
  pub below : k < r.capacity
  pub marked : r.mark k ≡ 1

-- "A sending is a list of at most 65,535 lengths of 0 to 4,095"
pub record Sending (s : List ℕ) : Type 0 where
  pub few : length s ≤ most_in_sequence
  pub short : (k : ℕ) → k < length s → get_or s k 0 ≤ most_payload

-- a packet "has its length at that place and its elapsed octets as the sum before it"
pub record Sent (s : List ℕ) (k e l : ℕ) : Type 0 where
  pub within : k < length s
  pub length_is : get_or s k 0 ≡ l
  pub before_is : sum_of (take k s) ≡ e

-- "N is the list's length and T its sum"
pub record Whole (s : List ℕ) (n t : ℕ) : Type 0 where
  pub count_is : length s ≡ n
  pub total_is : sum_of s ≡ t

-- "It explains a record if each heard packet has its length at that place and its elapsed octets as the sum before it, and, where
-- closed, N is the list's length and T its sum"
pub record Explains (r : Held) (s : List ℕ) : Type 0 where
  pub sending : Sending s
  pub packets : (k : ℕ) → Heard r k → Sent s k (r.elapsed k) (r.size k)
  pub closing : r.closed ≡ true → Whole s r.count r.total

-- some sending explains it
abbrev pub Explained : Held → Type 0
Explained r = (s : List ℕ) × Explains r s
