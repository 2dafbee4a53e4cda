-- Impossible counts (document 01, "Impossible counts"), one definition for reading and writing. Assumes nothing.
use Rattle.std.specs.Prelude.{ℕ, ◌+◌, ◌-◌, ◌*◌, ◌^◌, List, [], ◌∷◌, Bool, false, not, ◌||◌, length, ltb, leb, eqb}
use Rattle.units.specs.Limits.{most_payload, most_in_sequence}
use Rattle.frame.specs.declared.ClosingPdu.{ClosingPdu}
use Rattle.frame.specs.Layout.{sum_lengths}

-- two counts of which one is not zero, for the zeros that an undamaged sender or record holds
unfoldable pub some_of : ℕ → ℕ → Bool
some_of a b = not (eqb a 0) || not (eqb b 0)

-- "Type 1 with number 65,535; elapsed octets above 4,095 x Packet Number"; a given number or count too wide for its field is among them
unfoldable pub data_wrong : ℕ → ℕ → Bool
data_wrong n e = leb most_in_sequence n || ltb (most_payload * n) e

-- "elapsed octets above 4,095 x Packet Number; in Types 0 and 3, total packets below N, total octets below elapsed, or
-- (total octets - elapsed) above 4,095 x (total packets - N)"
unfoldable pub closing_wrong : ClosingPdu → Bool
closing_wrong c =
    ltb (most_payload * c.number.0) c.elapsed.0
    || (ltb c.packets.0 c.number.0
    || (ltb c.octets.0 c.elapsed.0
    || ltb (most_payload * (c.packets.0 - c.number.0)) (c.octets.0 - c.elapsed.0)))

-- "in Type 3, lengths whose sum is not the elapsed octets"
unfoldable pub lengths_wrong : List ℕ → ClosingPdu → Bool
lengths_wrong s c = closing_wrong c || not (eqb (sum_lengths s c.number.0) c.elapsed.0)

-- "a given count too wide for its field": Packet Number, Elapsed Octet Counter (implied where the number fits: 4,095 x 65,535 is
-- below 2^32), Total Number Of Packet, Total Number Of Octet
unfoldable pub too_wide : ClosingPdu → Bool
too_wide c = leb (2 ^ 16) c.number.0 || (leb (2 ^ 32) c.elapsed.0 || (leb (2 ^ 24) c.packets.0 || leb (2 ^ 40) c.octets.0))

-- refusal 8 when writing: given counts that are too wide, or impossible; "a wrong sum of lengths is 22 here"
unfoldable pub given_wrong : ClosingPdu → Bool
given_wrong c = too_wide c || closing_wrong c

-- "at most 4,095": some length is above
unfoldable pub any_above : List ℕ → Bool
any_above [] = false
any_above (a ∷ ls) = ltb most_payload a || any_above ls

-- the sum of some lengths
unfoldable pub sum_of : List ℕ → ℕ
sum_of [] = 0
sum_of (a ∷ ls) = a + sum_of ls

-- refusal 22: "lengths given for Type 3 are not N values of at most 4,095 with the elapsed octets as sum"
unfoldable pub list_wrong : List ℕ → ℕ → ℕ → Bool
list_wrong ls n e = not (eqb (length ls) n) || (any_above ls || not (eqb (sum_of ls) e))
