-- The refusal numbers by name: the rows of document 01, "Refusal numbers", but for one that document 02, request 9, took out (decision 22).
-- Assumes nothing.
use Rattle.std.specs.Prelude.{ℕ, Bool, ◌||◌, List, [], ◌∷◌, Option, None, Some, eqb}
use Rattle.units.specs.declared.refusals.Checks.{Checks}
use Rattle.units.specs.declared.refusals.Refusal.{Refusal}
use Rattle.units.specs.declared.refusals.Refusal.TheVariants.{TooShort, TypeTwo, TypeUnknown, HeaderCheckWrong, StampTooHigh, SizeWrong, PayloadCheckWrong, CountsImpossible, OtherSequence, BeyondCapacity, Contradiction, NoRoom, RecordDamaged, CapacitiesDiffer, OutOfTurn, StampNotLater, SequenceFull, PeriodFull, PayloadTooLong, SenderDamaged, LengthsWrong, PeriodOver}

-- no octet at all, or fewer than the type's least size
abbrev pub too_short : ℕ
too_short = 1

-- a frame of Type 2
abbrev pub type_two : ℕ
type_two = 2

-- a frame of Types 4 to 15
abbrev pub type_unknown : ℕ
type_unknown = 3

-- the header check does not agree
abbrev pub header_check_wrong : ℕ
header_check_wrong = 4

-- a stamp above 59,999
abbrev pub stamp_too_high : ℕ
stamp_too_high = 5

-- a size that the type does not have
abbrev pub size_wrong : ℕ
size_wrong = 6

-- the payload check does not agree
abbrev pub payload_check_wrong : ℕ
payload_check_wrong = 7

-- counts that no sending has ("Impossible counts"), or that are too wide for their field
abbrev pub counts_impossible : ℕ
counts_impossible = 8

-- bearer, period or stamp of another sequence
abbrev pub other_sequence : ℕ
other_sequence = 9

-- "packet number at or above capacity, or closing count above it"
abbrev pub beyond_capacity : ℕ
beyond_capacity = 10

-- what is held and what is brought have no sending in common
abbrev pub contradiction : ℕ
contradiction = 11

-- lent output too short for what is to be written
abbrev pub no_room : ℕ
no_room = 12

-- a damaged record
abbrev pub record_damaged : ℕ
record_damaged = 13

-- "capacities (or one record's lists) differ, or one is above 65,535"
abbrev pub capacities_differ : ℕ
capacities_differ = 14

-- a sender call out of turn
abbrev pub out_of_turn : ℕ
out_of_turn = 15

-- a stamp that is not later than the period's last
abbrev pub stamp_not_later : ℕ
stamp_not_later = 16

-- 65,535 data PDUs in the sequence already
abbrev pub sequence_full : ℕ
sequence_full = 17

-- 16,777,215 packets in the period already
abbrev pub period_full : ℕ
period_full = 18

-- a payload above 4,095 octets to be written
abbrev pub payload_too_long : ℕ
payload_too_long = 20

-- a damaged sender
abbrev pub sender_damaged : ℕ
sender_damaged = 21

-- given lengths that are not N values of at most 4,095 with the elapsed octets as their sum
abbrev pub lengths_wrong : ℕ
lengths_wrong = 22

-- a moment 60,000 ticks or more past the period's start
abbrev pub period_over : ℕ
period_over = 23

-- all of them, in the order of the table
abbrev pub refusals : List ℕ
refusals =
    too_short ∷ type_two ∷ type_unknown ∷ header_check_wrong ∷ stamp_too_high ∷ size_wrong ∷ payload_check_wrong ∷ counts_impossible ∷ other_sequence ∷ beyond_capacity ∷ contradiction ∷ no_room ∷ record_damaged ∷ capacities_differ ∷ out_of_turn ∷ stamp_not_later ∷ sequence_full ∷ period_full ∷ payload_too_long ∷ sender_damaged ∷ lengths_wrong ∷ period_over ∷ []

-- which row of the table a refusal is
abbrev pub number_of : Refusal → ℕ
number_of TooShort = too_short
number_of TypeTwo = type_two
number_of TypeUnknown = type_unknown
number_of (HeaderCheckWrong c) = header_check_wrong
number_of StampTooHigh = stamp_too_high
number_of SizeWrong = size_wrong
number_of (PayloadCheckWrong c) = payload_check_wrong
number_of CountsImpossible = counts_impossible
number_of OtherSequence = other_sequence
number_of BeyondCapacity = beyond_capacity
number_of Contradiction = contradiction
number_of NoRoom = no_room
number_of RecordDamaged = record_damaged
number_of CapacitiesDiffer = capacities_differ
number_of OutOfTurn = out_of_turn
number_of StampNotLater = stamp_not_later
number_of SequenceFull = sequence_full
number_of PeriodFull = period_full
number_of PayloadTooLong = payload_too_long
number_of SenderDamaged = sender_damaged
number_of LengthsWrong = lengths_wrong
number_of PeriodOver = period_over

-- document 02, request 6: which refusals tell of a check, "4 and 7"
abbrev pub tells_checks : ℕ → Bool
tells_checks n = eqb n header_check_wrong || eqb n payload_check_wrong

-- document 02, request 6: "shall give, with refusals 4 and 7, the check found and the check worked out"
abbrev pub told_checks : Refusal → Option Checks
told_checks TooShort = None
told_checks TypeTwo = None
told_checks TypeUnknown = None
told_checks (HeaderCheckWrong c) = Some c
told_checks StampTooHigh = None
told_checks SizeWrong = None
told_checks (PayloadCheckWrong c) = Some c
told_checks CountsImpossible = None
told_checks OtherSequence = None
told_checks BeyondCapacity = None
told_checks Contradiction = None
told_checks NoRoom = None
told_checks RecordDamaged = None
told_checks CapacitiesDiffer = None
told_checks OutOfTurn = None
told_checks StampNotLater = None
told_checks SequenceFull = None
told_checks PeriodFull = None
told_checks PayloadTooLong = None
told_checks SenderDamaged = None
told_checks LengthsWrong = None
told_checks PeriodOver = None

-- the check found: "a refusal returns its number and zeros elsewhere"
abbrev pub found_in : Option Checks → ℕ
found_in (Some c) = c.found
found_in None = 0

-- and the check worked out
abbrev pub worked_in : Option Checks → ℕ
worked_in (Some c) = c.worked_out
worked_in None = 0

-- of a refusal
abbrev pub found_of : Refusal → ℕ
found_of r = found_in (told_checks r)

abbrev pub worked_of : Refusal → ℕ
worked_of r = worked_in (told_checks r)

-- the refusal of a wrong header check, with the check found and the check worked out
abbrev pub header_refusal : ℕ → ℕ → Refusal
header_refusal found worked = HeaderCheckWrong (record { found = found; worked_out = worked })

-- and of a wrong payload check
abbrev pub payload_refusal : ℕ → ℕ → Refusal
payload_refusal found worked = PayloadCheckWrong (record { found = found; worked_out = worked })
