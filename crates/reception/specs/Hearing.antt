-- What a fresh record is, and what hearing a frame answers and leaves (document 01, "Order when several apply" and "The reception
-- record"). A refusal leaves the record as it was. Assumes nothing.
use Rattle.std.specs.Prelude.{ℕ, ◌≡◌, Bool, false, not, ◌||◌, List, ltb, leb, eqb, length, set, replicate, Ok, Err}
use Rattle.units.specs.Limits.{most_capacity, last_stamp}
use Rattle.units.specs.Refusals.{number_of, found_of, worked_of}
use Rattle.units.specs.declared.refusals.Refusal.{Refusal}
use Rattle.fields.specs.Choice.{◌when◌otherwise◌}
use Rattle.frame.specs.declared.ClosingPdu.{ClosingPdu}
use Rattle.frame.specs.declared.DataPdu.{DataPdu}
use Rattle.frame.specs.declared.Read.{Read}
use Rattle.frame.specs.declared.Read.TheVariants.{Closing, Data, ClosingWithLengths, Refused as NotRead}
use Rattle.frame.specs.Paper.{CountPaper}
use Rattle.frame.specs.Reading.{read_frame}
use Rattle.reception.specs.declared.Head.{Head}
use Rattle.reception.specs.Answers.{Taken, Taking}
use Rattle.reception.specs.Sendings.{Held, held_in}
use Rattle.reception.specs.Damage.{damaged_record}
use Rattle.reception.specs.Adding.{closed_head, packet_contradicts, closing_contradicts}
use Rattle.units.specs.declared.refusals.Refusal.TheVariants.{BeyondCapacity, CapacitiesDiffer, Contradiction, OtherSequence, RecordDamaged, StampTooHigh}

-- all that a record is made of
pub record Kept : Type 0 where
  pub head : Head
  pub marks : List ℕ
  pub elapsed : List ℕ
  pub sizes : List ℕ

-- a head and its three lists
abbrev pub kept_in : Head → List ℕ → List ℕ → List ℕ → Kept
kept_in h marks elapsed sizes = record { head = h; marks = marks; elapsed = elapsed; sizes = sizes }

-- what they hold, place by place
abbrev pub held_by : Kept → Held
held_by k = held_in k.head k.marks k.elapsed k.sizes

-- an answer, and the record after it
pub record Outcome : Type 0 where
  pub answer : Taken
  pub kept : Kept

-- "All memory and state stay as before the call"
abbrev pub refuses : Kept → Refusal → Outcome
refuses k r = record { answer = Err r; kept = k }

-- an accepted call, with the record that it leaves
abbrev pub takes : Kept → Outcome
takes k = record { answer = Ok tt; kept = k }

-- refusal 14: "capacities (or one record's lists) differ, or one is above 65,535", by the lengths of the lists
unfoldable pub lists_differ : ℕ → ℕ → ℕ → Bool
lists_differ marks elapsed sizes = ltb most_capacity marks || (not (eqb elapsed marks) || not (eqb sizes marks))

-- the same of a record
abbrev pub unmatched : Kept → Bool
unmatched k = lists_differ (length k.marks) (length k.elapsed) (length k.sizes)

-- refusal 13
abbrev pub damaged_kept : Kept → Bool
damaged_kept k = damaged_record k.head.stamp (held_by k)

-- refusal 9: "bearer, period or stamp is another sequence's"
unfoldable pub other_key : Head → ℕ → ℕ → ℕ → Bool
other_key h bearer period stamp = not (eqb h.bearer bearer) || (not (eqb h.period period) || not (eqb h.stamp stamp))

-- a head of a key, and without a closing
abbrev pub open_head : ℕ → ℕ → ℕ → Head
open_head bearer period stamp =
    record { bearer = bearer; period = period; stamp = stamp; closed = false; count = record { 0 = 0 }; total = record { 0 = 0 } }

-- a record of a key in which nothing was heard yet
abbrev pub empty_kept : ℕ → ℕ → ℕ → ℕ → Kept
empty_kept bearer period stamp capacity =
    kept_in (open_head bearer period stamp) (replicate capacity 0) (replicate capacity 0) (replicate capacity 0)

-- lists that are not a record's yet
abbrev pub unused : List ℕ → List ℕ → List ℕ → Kept
unused marks elapsed sizes = kept_in (open_head 0 0 0) marks elapsed sizes

-- "Fresh record: 14, 5"; refused, its head is zeros
unfoldable pub fresh_record : ℕ → ℕ → ℕ → List ℕ → List ℕ → List ℕ → Outcome
fresh_record bearer period stamp marks elapsed sizes =
    refuses (unused marks elapsed sizes) CapacitiesDiffer when lists_differ (length marks) (length elapsed) (length sizes) otherwise
    refuses (unused marks elapsed sizes) StampTooHigh when ltb last_stamp stamp otherwise
    takes (empty_kept bearer period stamp (length marks))

-- a data PDU of these fields
abbrev pub data_pdu : ℕ → ℕ → ℕ → ℕ → DataPdu
data_pdu stamp n e l = record { stamp = stamp; number = record { 0 = n }; elapsed = record { 0 = e }; length = record { 0 = l } }

-- the record with packet n of l octets, before which were e
abbrev pub keep_packet : Kept → ℕ → ℕ → ℕ → Kept
keep_packet k n e l =
    kept_in k.head (set k.marks n 1) (set k.elapsed n e) (set k.sizes n l)

-- the record with a closing of n packets and t octets
abbrev pub keep_closing : Kept → ℕ → ℕ → Kept
keep_closing k n t = kept_in (closed_head k.head n t) k.marks k.elapsed k.sizes

-- "9, 10, 11", of a data PDU: "packet number at or above capacity"
unfoldable pub hear_packet : Kept → ℕ → ℕ → DataPdu → Outcome
hear_packet k bearer period d =
    refuses k OtherSequence when other_key k.head bearer period d.stamp otherwise
    refuses k BeyondCapacity when leb (length k.marks) d.number.0 otherwise
    refuses k Contradiction when packet_contradicts (held_by k) d.number.0 d.elapsed.0 d.length.0 otherwise
    takes (keep_packet k d.number.0 d.elapsed.0 d.length.0)

-- of a closing PDU: "or closing count above it". "Type 3 is held as its closing only"; "period totals are not kept"
unfoldable pub hear_closing : Kept → ℕ → ℕ → ClosingPdu → Outcome
hear_closing k bearer period c =
    refuses k OtherSequence when other_key k.head bearer period c.stamp otherwise
    refuses k BeyondCapacity when ltb (length k.marks) c.number.0 otherwise
    refuses k Contradiction when closing_contradicts (held_by k) c.number.0 c.elapsed.0 otherwise
    takes (keep_closing k c.number.0 c.elapsed.0)

-- what a frame was read as: reading's refusals, then 13
unfoldable pub hear_read : Kept → ℕ → ℕ → Read → Outcome
hear_read k bearer period (NotRead r) = record { answer = Err r; kept = k }
hear_read k bearer period (Data d) = refuses k RecordDamaged when damaged_kept k otherwise hear_packet k bearer period d
hear_read k bearer period (Closing c) = refuses k RecordDamaged when damaged_kept k otherwise hear_closing k bearer period c
hear_read k bearer period (ClosingWithLengths c) = refuses k RecordDamaged when damaged_kept k otherwise hear_closing k bearer period c

-- "Hearing a frame: 14, reading's order, 13, 9, 10, 11"; the caller gives bearer and period
unfoldable pub hear_frame : Kept → ℕ → ℕ → List ℕ → Outcome
hear_frame k bearer period frame =
    refuses k CapacitiesDiffer when unmatched k otherwise
    hear_read k bearer period (read_frame frame)

-- a refusal, and the head as it was
abbrev pub keeps : Head → Refusal → Taking
keeps h r = record { answer = Err r; head = h }

-- the refusal's number and both checks, or zeros, and whether the frame was accepted
unfoldable pub taken_paper : Taken → CountPaper
taken_paper (Ok u) = record { number = 0; found = 0; worked = 0; accepted = 1; count = 0 }
taken_paper (Err r) = record { number = number_of r; found = found_of r; worked = worked_of r; accepted = 0; count = 0 }

-- the promise: answer, head and every place of the three lists are as t says
pub record Takes (t : Outcome) (r : Taking) (marks elapsed sizes : List ℕ) : Type 0 where
  pub says : taken_paper r.answer ≡ taken_paper t.answer
  pub leaves : kept_in r.head marks elapsed sizes ≡ t.kept
