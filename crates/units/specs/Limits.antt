-- The house limits (document 01, "The part of SYNC we carry", "Frame layouts"), each the largest value that is still accepted.
-- Assumes nothing.
use Rattle.std.specs.Prelude.{ℕ, List, [], ◌∷◌}

-- "a payload has 0 to 4,095 octets"
abbrev pub most_payload : ℕ
most_payload = 4095

-- "a sequence has at most 65,535 data PDUs"
abbrev pub most_in_sequence : ℕ
most_in_sequence = 65535

-- "a record's capacity is 0 to 65,535 packet numbers"
abbrev pub most_capacity : ℕ
most_capacity = 65535

-- "a Time Stamp is 0 to 59,999 units of 10 ms"
abbrev pub last_stamp : ℕ
last_stamp = 59999

-- "Total Number Of Packet (3)": three octets
abbrev pub most_period_packets : ℕ
most_period_packets = 16777215

-- all of them, in this order
abbrev pub limits : List ℕ
limits = most_payload ∷ most_in_sequence ∷ most_capacity ∷ last_stamp ∷ most_period_packets ∷ []
