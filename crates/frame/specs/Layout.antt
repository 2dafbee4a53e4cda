-- Where each field of a frame stands (document 01, "Frame layouts"; TS 25.446, 5.5.2 and 5.5.3). A frame is a list of octets.
-- Assumes nothing.
use Rattle.std.specs.Prelude.{ℕ, zero, suc, ◌+◌, ◌*◌, ◌/◌, ◌%◌, List, [], ◌∷◌, get_or, take, drop}
use Rattle.fields.specs.Numbers.{be}
use Rattle.frame.specs.declared.DataPdu.{DataPdu}
use Rattle.frame.specs.declared.ClosingPdu.{ClosingPdu}
use Rattle.frame.specs.Payloads.{payload_kept}
use Rattle.frame.specs.Sizes.{short_control, long_control, data_head, closing_size, lengths_head}

-- "The first octet holds the type in bits 7 to 4", PDU Type (5.5.3.1)
abbrev pub type_of : List ℕ → ℕ
type_of s = get_or s 0 0 / 16

-- "Time Stamp (2)" (5.5.3.2)
abbrev pub stamp_of : List ℕ → ℕ
stamp_of s = be 2 s 1

-- "Packet Number (2)" (5.5.3.3)
abbrev pub number_of : List ℕ → ℕ
number_of s = be 2 s 3

-- "Elapsed Octet Counter (4)" (5.5.3.4)
abbrev pub elapsed_of : List ℕ → ℕ
elapsed_of s = be 4 s 5

-- "Total Number Of Packet (3)" (5.5.3.5)
abbrev pub packets_of : List ℕ → ℕ
packets_of s = be 3 s 9

-- "Total Number Of Octet (5)" (5.5.3.6)
abbrev pub octets_of : List ℕ → ℕ
octets_of s = be 5 s 12

-- "The control part is 9 octets in Type 1 and 17 in Types 0 and 3"
abbrev pub control : ℕ → ℕ
control zero = long_control
control (suc zero) = short_control
control (suc (suc t)) = long_control

-- "Always 18 octets"; "Least sizes are 11 and 19"
abbrev pub least : ℕ → ℕ
least zero = closing_size
least (suc zero) = data_head
least (suc (suc t)) = lengths_head

-- behind a control part of n octets: "six bits of header check" (5.5.3.10)
abbrev pub header_check_in : ℕ → List ℕ → ℕ
header_check_in n s = get_or s n 0 / 4

-- "and then ten of payload check" (5.5.3.11)
abbrev pub payload_check_in : ℕ → List ℕ → ℕ
payload_check_in n s = be 2 s n % 1024

-- "Then the payload part"
abbrev pub payload_part : ℕ → List ℕ → List ℕ
payload_part n s = drop (n + 2) s

-- the length of a Type 1 payload, by the rule of request 2: "the 0 to 4 octets after it are dropped", or "all of it is payload"
abbrev pub payload_length : List ℕ → ℕ
payload_length s = payload_kept (payload_part short_control s)

-- the payload, which is handed on: that many octets "from the frame's twelfth octet"
abbrev pub payload_of : List ℕ → List ℕ
payload_of s = take (payload_length s) (payload_part short_control s)

-- the upper 12 bits of two octets, or the lower
abbrev pub upper_or_lower : ℕ → ℕ → ℕ
upper_or_lower zero x = x / 16
upper_or_lower (suc r) x = x % 4096

-- Type 3: "N lengths of 12 bits follow, packed without gaps". The i-th is in the two octets that its first bit and its last
-- stand in: their upper bits where i is even, their lower where it is odd.
unfoldable pub length_at : List ℕ → ℕ → ℕ
length_at s i = upper_or_lower (i % 2) (be 2 s (lengths_head + 3 * i / 2))

-- "They fill W octets: 1.5 N for even N, 1.5 (N-1) + 2 for odd N"
abbrev pub filled : ℕ → ℕ
filled n = (3 * n + 1) / 2

-- the sum of the first n lengths
unfoldable pub sum_lengths : List ℕ → ℕ → ℕ
sum_lengths s zero = 0
sum_lengths s (suc i) = sum_lengths s i + length_at s i

-- n lengths from the i-th on
unfoldable pub lengths_of : List ℕ → ℕ → ℕ → List ℕ
lengths_of s i zero = []
lengths_of s i (suc n) = length_at s i ∷ lengths_of s (suc i) n

-- a data PDU: the fields "All types" have, and the payload's length
abbrev pub data_pdu : ℕ → ℕ → ℕ → ℕ → DataPdu
data_pdu stamp n e l = record { stamp = stamp; number = record { 0 = n }; elapsed = record { 0 = e }; length = record { 0 = l } }

-- what a Type 1 frame says
abbrev pub data_of : List ℕ → DataPdu
data_of s = data_pdu (stamp_of s) (number_of s) (elapsed_of s) (payload_length s)

-- what a closing PDU (Type 0 or 3) says: "Types 0 and 3 go on" with the totals; an extension is "dropped when read"
abbrev pub closing_of : List ℕ → ClosingPdu
closing_of s =
    record {
      stamp = stamp_of s;
      number = record { 0 = number_of s };
      elapsed = record { 0 = elapsed_of s };
      packets = record { 0 = packets_of s };
      octets = record { 0 = octets_of s };
    }
