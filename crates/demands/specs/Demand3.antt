-- Demand 3: "Hearing an accepted frame adds exactly that frame to a record; joining obeys the laws of a union and is refused exactly when
-- no sending explains both; for an undamaged closed record the report's heard and missing packets and octets are those of every sending
-- that explains it." Of any outcomes that meet the promises. Assumes nothing.
use Rattle.std.specs.Prelude.{ℕ, ◌≤◌, ◌<◌, ◌≡◌, true, ◌⊎◌, ◌↔◌, List, map, length, Ok}
use Rattle.units.specs.Refusals.{contradiction}
use Rattle.fields.specs.Runs.{front}
use Rattle.frame.specs.declared.ClosingPdu.{ClosingPdu}
use Rattle.frame.specs.declared.DataPdu.{DataPdu}
use Rattle.frame.specs.declared.Read.TheVariants.{Closing, Data, ClosingWithLengths}
use Rattle.frame.specs.Reading.{read_frame}
use Rattle.reception.specs.declared.Report.{Report}
use Rattle.reception.specs.Answers.{Reported}
use Rattle.reception.specs.Sendings.{Sent, Whole, Explains}
use Rattle.reception.specs.Adding.{closed_head, with_packet, with_closing}
use Rattle.reception.specs.Damage.{Undamaged, Matched}
use Rattle.reception.specs.Hearing.{Kept, Outcome, held_by, empty_kept, hear_frame, taken_paper, Takes}
use Rattle.reception.specs.Joining.{HoldsBoth, JoinOutcome, join_records, joined_paper, Joins}
use Rattle.reception.specs.Missing.{Says, GapsRight}
use Rattle.reception.specs.Reporting.{Gap, gaps_of, Reports, room_of}

-- lists of one length, within the most capacity, and not damaged
pub record Proper (k : Kept) : Type 0 where
  pub lists : Matched k.marks k.elapsed k.sizes
  pub undamaged : Undamaged k.head.stamp (held_by k)

-- two records of one sequence and of one capacity
pub record OneSequence (a b : Kept) : Type 0 where
  pub left : Proper a
  pub right : Proper b
  pub bearers : a.head.bearer ≡ b.head.bearer
  pub periods : a.head.period ≡ b.head.period
  pub stamps : a.head.stamp ≡ b.head.stamp
  pub capacities : length a.marks ≡ length b.marks

-- o is what hearing the frame answers and leaves
abbrev pub HeardAs : Kept → ℕ → ℕ → List ℕ → Outcome → Type 0
HeardAs k bearer period f o =
    Takes (hear_frame k bearer period f) (record { answer = o.answer; head = o.kept.head }) o.kept.marks o.kept.elapsed o.kept.sizes

-- the frame was accepted
abbrev pub WasTaken : Outcome → Type 0
WasTaken o = (taken_paper o.answer).accepted ≡ 1

-- the frame was refused as a contradiction, with 11
abbrev pub Contradicted : Outcome → Type 0
Contradicted o = (taken_paper o.answer).number ≡ contradiction

-- the record's own key came with the frame
pub record OwnKey (k : Kept) (bearer period stamp : ℕ) : Type 0 where
  pub bearers : k.head.bearer ≡ bearer
  pub periods : k.head.period ≡ period
  pub stamps : k.head.stamp ≡ stamp

-- o is what joining b to a answers and leaves
abbrev pub JoinedAs : Kept → Kept → JoinOutcome → Type 0
JoinedAs a b o =
    Joins (join_records a b) (record { answer = o.answer; head = o.kept.head }) o.kept.marks o.kept.elapsed o.kept.sizes

-- the join was
abbrev pub Accepted : JoinOutcome → Type 0
Accepted o = (joined_paper o.answer).accepted ≡ 1

-- an empty record of the same key and capacity
abbrev pub empty_like : Kept → Kept
empty_like a = empty_kept a.head.bearer a.head.period a.head.stamp (length a.marks)

-- the demand
pub record Demand3 : Type 0 where
  -- "Hearing an accepted frame adds exactly that frame to a record"
  pub packet_added : (k : Kept) (bearer period : ℕ) (f : List ℕ) (d : DataPdu) (o : Outcome) → read_frame f ≡ Data d → HeardAs k bearer period f o → WasTaken o
      → (held_by o.kept ≡ with_packet (held_by k) d.number.0 d.elapsed.0 d.length.0) × (o.kept.head ≡ k.head)
  pub closing_added : (k : Kept) (bearer period : ℕ) (f : List ℕ) (c : ClosingPdu) (o : Outcome)
      → (read_frame f ≡ Closing c) ⊎ (read_frame f ≡ ClosingWithLengths c) → HeardAs k bearer period f o → WasTaken o
      → (held_by o.kept ≡ with_closing (held_by k) c.number.0 c.elapsed.0) × (o.kept.head ≡ closed_head k.head c.number.0 c.elapsed.0)
  -- "Hearing contradicts exactly if no sending explains the record with the frame added", where no refusal comes before 11
  pub packet_contradicts_fact : (k : Kept) (bearer period : ℕ) (f : List ℕ) (d : DataPdu) (o : Outcome) → read_frame f ≡ Data d → HeardAs k bearer period f o
      → Proper k → OwnKey k bearer period d.stamp → d.number.0 < length k.marks
      → Contradicted o ↔ ((s : List ℕ) × Explains (held_by k) s × Sent s d.number.0 d.elapsed.0 d.length.0 → ⊥)
  pub closing_contradicts_fact : (k : Kept) (bearer period : ℕ) (f : List ℕ) (c : ClosingPdu) (o : Outcome)
      → (read_frame f ≡ Closing c) ⊎ (read_frame f ≡ ClosingWithLengths c) → HeardAs k bearer period f o
      → Proper k → OwnKey k bearer period c.stamp → c.number.0 ≤ length k.marks
      → Contradicted o ↔ ((s : List ℕ) × Explains (held_by k) s × Whole s c.number.0 c.elapsed.0 → ⊥)
  -- "joining obeys the laws of a union"
  pub holds_both : (a b : Kept) (o : JoinOutcome) → JoinedAs a b o → Accepted o → HoldsBoth (held_by a) (held_by b) (held_by o.kept)
  pub either_order : (a b : Kept) (o p : JoinOutcome) → JoinedAs a b o → JoinedAs b a p → Accepted o → Accepted p × (o.kept ≡ p.kept)
  pub grouped : (a b c : Kept) (ab abc bc a-bc : JoinOutcome) → JoinedAs a b ab → JoinedAs ab.kept c abc → JoinedAs b c bc → JoinedAs a bc.kept a-bc
      → Accepted ab → Accepted abc → Accepted bc × Accepted a-bc × (abc.kept ≡ a-bc.kept)
  pub with_itself : (a : Kept) (o : JoinOutcome) → Proper a → JoinedAs a a o → Accepted o × (o.kept ≡ a)
  pub with_empty : (a : Kept) (o : JoinOutcome) → Proper a → JoinedAs a (empty_like a) o → Accepted o × (o.kept ≡ a)
  pub empty_with : (a : Kept) (o : JoinOutcome) → Proper a → JoinedAs (empty_like a) a o → Accepted o × (o.kept ≡ a)
  -- "and is refused exactly when no sending explains both"
  pub refused_exactly : (a b : Kept) (o : JoinOutcome) → OneSequence a b → JoinedAs a b o
      → Accepted o ↔ ((s : List ℕ) × Explains (held_by a) s × Explains (held_by b) s)
  -- "for an undamaged closed record the report's heard and missing packets and octets are those of every sending that explains it"
  pub reported : (k : Kept) (firsts counts octets : List ℕ) (r : Reported) (f c o : List ℕ) → Proper k → k.head.closed ≡ true
      → length (gaps_of (held_by k)) ≤ room_of firsts counts octets → Reports k firsts counts octets r f c o
      → (t : Report) × (r ≡ Ok t) × ((s : List ℕ) → Explains (held_by k) s → Says t (held_by k) s)
  -- and its gaps are the unheard numbers, in rising order, in front of the lent lists
  pub gaps_listed : (k : Kept) (firsts counts octets : List ℕ) (t : Report) (f c o : List ℕ) → Reports k firsts counts octets (Ok t) f c o
      → GapsRight (held_by k) × (f ≡ front firsts (map (λ (g : Gap). g.first) (gaps_of (held_by k))))
      × (c ≡ front counts (map (λ (g : Gap). g.count) (gaps_of (held_by k)))) × (o ≡ front octets (map (λ (g : Gap). g.octets) (gaps_of (held_by k))))
