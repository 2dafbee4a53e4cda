-- The starred bench examples A to E of document 01, written and read. D is as the rule has it; as printed it is refused with 7.
-- Assumes nothing.
use Prim.Native.Nat.{ℕ}
use mathlib.Core.Path.{◌≡◌, refl}
use mathlib.Core.List.{List, [], ◌∷◌}
use Rattle.fields.specs.Numbers.{be, octets}
use Rattle.checks.specs.Check.{divide, low_digits, bits_of, check}
use Rattle.frame.specs.declared.DataPdu.{DataPdu}
use Rattle.frame.specs.declared.ClosingPdu.{ClosingPdu}
use Rattle.frame.specs.declared.Read.TheVariants.{Closing, Data, ClosingWithLengths}
use Rattle.frame.specs.Layout.{data_pdu, length_at, sum_lengths}
use Rattle.frame.specs.Payloads.{starts_v4, starts_v6, payload_kept}
use Rattle.frame.specs.Counts.{data_wrong, closing_wrong, lengths_wrong}
use Rattle.frame.specs.Reading.{refuse, read_frame, read_headed, read_body}
use Rattle.frame.specs.Writing.{data_frame, closing_frame, lengths_frame, packed}
use Rattle.units.specs.Refusals.{payload_refusal}

-- a first packet with a payload of so many octets
abbrev pub first : ℕ → DataPdu
first length = data_pdu 0 0 0 length

-- a closing after so many packets of one octet, which are the period's only ones
abbrev pub after : ℕ → ClosingPdu
after n =
    record { stamp = 0; number = record { 0 = n }; elapsed = record { 0 = n }; packets = record { 0 = n }; octets = record { 0 = n } }

abbrev pub A : List ℕ
A = 0x10 ∷ 0 ∷ 0 ∷ 0 ∷ 0 ∷ 0 ∷ 0 ∷ 0 ∷ 0 ∷ 0x38 ∷ 0 ∷ []

A_written : data_frame 0 0 0 [] ≡ A
unfolding octets divide low_digits bits_of check data_frame
A_written = refl

A_read : read_frame A ≡ Data (first 0)
unfolding be divide low_digits bits_of check read_frame read_headed read_body data_wrong payload_kept starts_v4 starts_v6
A_read = refl

abbrev pub B : List ℕ
B = 0x10 ∷ 0 ∷ 0 ∷ 0 ∷ 0 ∷ 0 ∷ 0 ∷ 0 ∷ 0 ∷ 0x3A ∷ 0x33 ∷ 0x01 ∷ []

B_written : data_frame 0 0 0 (1 ∷ []) ≡ B
unfolding octets divide low_digits bits_of check data_frame
B_written = refl

pub B_read : read_frame B ≡ Data (first 1)
unfolding be divide low_digits bits_of check read_frame read_headed read_body data_wrong payload_kept starts_v4 starts_v6
B_read = refl

abbrev pub C : List ℕ
C = 0 ∷ 0 ∷ 0 ∷ 0 ∷ 1 ∷ 0 ∷ 0 ∷ 0 ∷ 1 ∷ 0 ∷ 0 ∷ 1 ∷ 0 ∷ 0 ∷ 0 ∷ 0 ∷ 1 ∷ 0x9C ∷ []

C_written : closing_frame (after 1) ≡ C
unfolding octets divide low_digits bits_of check closing_frame
C_written = refl

pub C_read : read_frame C ≡ Closing (after 1)
unfolding be divide low_digits bits_of check read_frame read_headed read_body closing_wrong
C_read = refl

abbrev pub D : List ℕ
D = 0x30 ∷ 0 ∷ 0 ∷ 0 ∷ 1 ∷ 0 ∷ 0 ∷ 0 ∷ 1 ∷ 0 ∷ 0 ∷ 1 ∷ 0 ∷ 0 ∷ 0 ∷ 0 ∷ 1 ∷ 0x00 ∷ 0x31 ∷ 0x00 ∷ 0x10 ∷ []

D_written : lengths_frame (after 1) (1 ∷ []) ≡ D
unfolding octets divide low_digits bits_of check lengths_frame packed
D_written = refl

D_read : read_frame D ≡ ClosingWithLengths (after 1)
unfolding be divide low_digits bits_of check read_frame read_headed read_body closing_wrong lengths_wrong length_at sum_lengths
D_read = refl

-- the check octets 02 02 of the printed frame are those of another payload part
abbrev pub D_printed : List ℕ
D_printed = 0x30 ∷ 0 ∷ 0 ∷ 0 ∷ 1 ∷ 0 ∷ 0 ∷ 0 ∷ 1 ∷ 0 ∷ 0 ∷ 1 ∷ 0 ∷ 0 ∷ 0 ∷ 0 ∷ 1 ∷ 0x02 ∷ 0x02 ∷ 0x00 ∷ 0x10 ∷ []

D_printed_read : read_frame D_printed ≡ refuse (payload_refusal 514 49)
unfolding be divide low_digits bits_of check read_frame read_headed read_body closing_wrong lengths_wrong length_at sum_lengths
D_printed_read = refl

-- eighteen zero octets are a good frame
abbrev pub E : List ℕ
E = 0 ∷ 0 ∷ 0 ∷ 0 ∷ 0 ∷ 0 ∷ 0 ∷ 0 ∷ 0 ∷ 0 ∷ 0 ∷ 0 ∷ 0 ∷ 0 ∷ 0 ∷ 0 ∷ 0 ∷ 0 ∷ []

E_read : read_frame E ≡ Closing (after 0)
unfolding be divide low_digits bits_of check read_frame read_headed read_body closing_wrong
E_read = refl
