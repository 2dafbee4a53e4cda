-- Two records of one sequence joined: what comes out, and what contradicts (document 01, "Joining: 14, 13, 9, 11" and "The reception
-- record"). Assumes nothing.
use Rattle.std.specs.Prelude.{ℕ, zero, suc, ◌≡◌, Bool, true, cond, not, ◌||◌, ◌&&◌, ◌⊎◌, ◌↔◌, List, [], ◌∷◌, ltb, eqb, length, Ok, Err}
use Rattle.units.specs.Refusals.{number_of, found_of, worked_of, contradiction}
use Rattle.units.specs.declared.refusals.Refusal.{Refusal}
use Rattle.fields.specs.Choice.{◌when◌otherwise◌}
use Rattle.reception.specs.declared.Head.{Head}
use Rattle.reception.specs.Answers.{Joined, Joining}
use Rattle.reception.specs.Sendings.{Held, Heard}
use Rattle.reception.specs.Walk.{is_heard}
use Rattle.reception.specs.Adding.{packet_contradicts, closing_contradicts}
use Rattle.reception.specs.Hearing.{Kept, kept_in, held_by, unmatched, damaged_kept, other_key}
use Rattle.reception.specs.declared.NotJoined.TheVariants.{Contradicts, Refused}
use Rattle.units.specs.declared.refusals.Refusal.TheVariants.{CapacitiesDiffer, OtherSequence, RecordDamaged}

-- what either heard: at a place that the left heard, what the left holds, elsewhere what the right does
abbrev pub union : Held → Held → Held
union a b =
    record {
      capacity = a.capacity;
      mark = λ k. cond (is_heard a k) (a.mark k) (b.mark k);
      elapsed = λ k. cond (is_heard a k) (a.elapsed k) (b.elapsed k);
      size = λ k. cond (is_heard a k) (a.size k) (b.size k);
      closed = a.closed || b.closed;
      count = cond a.closed a.count b.count;
      total = cond a.closed a.total b.total;
    }

-- r holds what a or b heard, each packet and closing with its numbers, and nothing else
pub record HoldsBoth (a b r : Held) : Type 0 where
  pub heard : (k : ℕ) → Heard r k ↔ (Heard a k ⊎ Heard b k)
  pub left : (k : ℕ) → Heard a k → (r.elapsed k ≡ a.elapsed k) × (r.size k ≡ a.size k)
  pub right : (k : ℕ) → Heard b k → (r.elapsed k ≡ b.elapsed k) × (r.size k ≡ b.size k)
  pub closed : (r.closed ≡ true) ↔ ((a.closed ≡ true) ⊎ (b.closed ≡ true))
  pub closing_left : a.closed ≡ true → (r.count ≡ a.count) × (r.total ≡ a.total)
  pub closing_right : b.closed ≡ true → (r.count ≡ b.count) × (r.total ≡ b.total)
  pub capacities : r.capacity ≡ a.capacity

-- the union of lists: the left's number where its mark is heard, elsewhere the right's
unfoldable pub chosen : List ℕ → List ℕ → List ℕ → List ℕ
chosen [] left right = left
chosen (m ∷ marks) [] right = []
chosen (m ∷ marks) (a ∷ left) [] = a ∷ left
chosen (m ∷ marks) (a ∷ left) (b ∷ right) = cond (eqb m 1) a b ∷ chosen marks left right

-- and of heads: the left's key, and the closing that either heard
abbrev pub joined_head : Head → Head → Head
joined_head a b =
    record {
      bearer = a.bearer;
      period = a.period;
      stamp = a.stamp;
      closed = a.closed || b.closed;
      count = cond a.closed a.count b.count;
      total = cond a.closed a.total b.total;
    }

-- and of all that a record is made of
abbrev pub joined_kept : Kept → Kept → Kept
joined_kept a b =
    kept_in (joined_head a.head b.head) (chosen a.marks a.marks b.marks) (chosen a.marks a.elapsed b.elapsed)
    (chosen a.marks a.sizes b.sizes)

-- packet k of the right record "alone contradicts the left"
abbrev pub packet_off : Held → Held → ℕ → Bool
packet_off a b k = is_heard b k && packet_contradicts a k (b.elapsed k) (b.size k)

-- so does its closing
abbrev pub own_closing_off : Held → Held → Bool
own_closing_off a b = b.closed && closing_contradicts a b.count b.total

-- "the lowest packet number in the right record that alone contradicts", among n places from k on; the place behind them where none does
unfoldable pub lowest_off : Held → Held → ℕ → ℕ → ℕ
lowest_off a b zero k = k
lowest_off a b (suc n) k = cond (packet_off a b k) k (lowest_off a b n (suc k))

-- among all places; the capacity where none does
abbrev pub lowest : Held → Held → ℕ
lowest a b = lowest_off a b a.capacity 0

-- an answer, and the left record after it
pub record JoinOutcome : Type 0 where
  pub answer : Joined
  pub kept : Kept

-- a refusal, and the left record as it was
abbrev pub refuses_join : Kept → Refusal → JoinOutcome
refuses_join k r = record { answer = Err (Refused r); kept = k }

-- refusal 11 and the number that it names
abbrev pub contradicts : Kept → ℕ → JoinOutcome
contradicts k n = record { answer = Err (Contradicts n); kept = k }

-- an accepted join, with the record that it leaves
abbrev pub joins : Kept → JoinOutcome
joins k = record { answer = Ok tt; kept = k }

-- refusal 14, of two records: "capacities (or one record's lists) differ"
abbrev pub capacities_off : Kept → Kept → Bool
capacities_off a b = unmatched a || (unmatched b || not (eqb (length a.marks) (length b.marks)))

-- refusal 9, of two records
abbrev pub other_record : Kept → Kept → Bool
other_record a b = other_key a.head b.head.bearer b.head.period b.head.stamp

-- "or 65,536 where only its closing does"
abbrev pub closing_named : ℕ
closing_named = 65536

-- "Joining writes to the left record and only reads the right"; "Joining: 14, 13, 9, 11"
unfoldable pub join_records : Kept → Kept → JoinOutcome
join_records a b =
    refuses_join a CapacitiesDiffer when capacities_off a b otherwise
    refuses_join a RecordDamaged when damaged_kept a || damaged_kept b otherwise
    refuses_join a OtherSequence when other_record a b otherwise
    contradicts a (lowest (held_by a) (held_by b)) when ltb (lowest (held_by a) (held_by b)) (length a.marks) otherwise
    contradicts a closing_named when own_closing_off (held_by a) (held_by b) otherwise
    joins (joined_kept a b)

-- the refusal's number and both checks, or zeros, whether it was accepted, whether it names a packet number or the closing, and which
pub record JoinPaper : Type 0 where
  pub number : ℕ
  pub found : ℕ
  pub worked : ℕ
  pub accepted : ℕ
  pub names : ℕ
  pub named : ℕ

unfoldable pub joined_paper : Joined → JoinPaper
joined_paper (Ok u) = record { number = 0; found = 0; worked = 0; accepted = 1; names = 0; named = 0 }
joined_paper (Err (Contradicts n)) = record { number = contradiction; found = 0; worked = 0; accepted = 0; names = 1; named = n }
joined_paper (Err (Refused r)) = record { number = number_of r; found = found_of r; worked = worked_of r; accepted = 0; names = 0; named = 0 }

-- the promise: answer, head and every place of the left's lists are as t says
pub record Joins (t : JoinOutcome) (r : Joining) (marks elapsed sizes : List ℕ) : Type 0 where
  pub says : joined_paper r.answer ≡ joined_paper t.answer
  pub leaves : kept_in r.head marks elapsed sizes ≡ t.kept
