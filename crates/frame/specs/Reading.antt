-- What reading a frame gives: the refusals in document 01's order ("Reading: empty 1; 2; 3; too short 1; 4; 5; 6; 7; 8"), and
-- otherwise what the frame says. Assumes nothing.
use Rattle.std.specs.Prelude.{ℕ, zero, suc, ◌+◌, List, Bool, false, not, ◌||◌, length, take, ltb, eqb}
use Rattle.units.specs.Limits.{most_payload, last_stamp}
use Rattle.units.specs.Refusals.{header_refusal, payload_refusal}
use Rattle.units.specs.declared.refusals.Refusal.{Refusal}
use Rattle.fields.specs.Choice.{◌when◌otherwise◌}
use Rattle.checks.specs.Check.{header_check, payload_check}
use Rattle.frame.specs.declared.Read.{Read}
use Rattle.frame.specs.declared.Read.TheVariants.{Closing, Data, ClosingWithLengths, Refused}
use Rattle.frame.specs.Sizes.{short_control, long_control, closing_size, lengths_head}
use Rattle.frame.specs.Layout.{type_of, stamp_of, number_of, elapsed_of, control, least, header_check_in, payload_check_in, payload_part, payload_length, filled, data_of, closing_of}
use Rattle.frame.specs.Counts.{data_wrong, closing_wrong, lengths_wrong}
use Rattle.units.specs.declared.refusals.Refusal.TheVariants.{CountsImpossible, SizeWrong, StampTooHigh, TooShort, TypeTwo, TypeUnknown}

-- a refusal
abbrev pub refuse : Refusal → Read
refuse r = Refused r

-- "The header check covers the control part", of n octets
abbrev pub header_wrong : ℕ → List ℕ → Bool
header_wrong n s = not (eqb (header_check (take n s)) (header_check_in n s))

-- "the payload check the whole payload part with padding and extension"; in Type 1 too "The check still covers everything" (request 2)
abbrev pub payload_wrong : ℕ → List ℕ → Bool
payload_wrong n s = not (eqb (payload_check (payload_part n s)) (payload_check_in n s))

-- refusal 4: found is the header check that stands in the frame, worked out is that of its control part
abbrev pub refuse_header : ℕ → List ℕ → Read
refuse_header n s = refuse (header_refusal (header_check_in n s) (header_check (take n s)))

-- refusal 7: found is the payload check that stands in the frame, worked out is that of its payload part
abbrev pub refuse_payload : ℕ → List ℕ → Read
refuse_payload n s = refuse (payload_refusal (payload_check_in n s) (payload_check (payload_part n s)))

-- refusal 6: "Type 0 not 18 octets; Type 1 payload above 4,095; Type 3 not 19+W to 19+W+4"; in Type 1 it "judges the payload after
-- dropping" (request 2)
abbrev pub length_wrong : ℕ → List ℕ → Bool
length_wrong zero s = not (eqb (length s) closing_size)
length_wrong (suc zero) s = ltb most_payload (payload_length s)
length_wrong (suc (suc t)) s = ltb (length s) (lengths_head + filled (number_of s)) || ltb (lengths_head + filled (number_of s) + 4) (length s)

-- refusal 7: Type 0 has no payload check
abbrev pub check_wrong : ℕ → List ℕ → Bool
check_wrong zero s = false
check_wrong (suc zero) s = payload_wrong short_control s
check_wrong (suc (suc t)) s = payload_wrong long_control s

-- refusal 8: the counts of each type
abbrev pub counts_wrong : ℕ → List ℕ → Bool
counts_wrong zero s = closing_wrong (closing_of s)
counts_wrong (suc zero) s = data_wrong (number_of s) (elapsed_of s)
counts_wrong (suc (suc t)) s = lengths_wrong s (closing_of s)

-- what a frame of each type says: "closing, data, closing with lengths"
abbrev pub said : ℕ → List ℕ → Read
said zero s = Closing (closing_of s)
said (suc zero) s = Data (data_of s)
said (suc (suc t)) s = ClosingWithLengths (closing_of s)

-- "6; 7; 8": a frame of type t whose header check and stamp are right
unfoldable pub read_body : ℕ → List ℕ → Read
read_body t s =
    refuse SizeWrong when length_wrong t s otherwise
    refuse_payload (control t) s when check_wrong t s otherwise
    refuse CountsImpossible when counts_wrong t s otherwise
    said t s

-- "4; 5": a frame of type t that has its least size
unfoldable pub read_headed : ℕ → List ℕ → Read
read_headed t s =
    refuse_header (control t) s when header_wrong (control t) s otherwise
    refuse StampTooHigh when ltb last_stamp (stamp_of s) otherwise
    read_body t s

-- "empty 1; 2; 3; too short 1": any octets
unfoldable pub read_frame : List ℕ → Read
read_frame s =
    refuse TooShort when eqb (length s) 0 otherwise
    refuse TypeTwo when eqb (type_of s) 2 otherwise
    refuse TypeUnknown when ltb 3 (type_of s) otherwise
    refuse TooShort when ltb (length s) (least (type_of s)) otherwise
    read_headed (type_of s) s
