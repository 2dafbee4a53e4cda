-- The sizes of frames and of their parts, in octets (document 01, "Frame layouts"). Assumes nothing.
use Rattle.std.specs.Prelude.{ℕ, List, [], ◌∷◌}

-- "The control part is 9 octets in Type 1"
abbrev pub short_control : ℕ
short_control = 9

-- "and 17 in Types 0 and 3"
abbrev pub long_control : ℕ
long_control = 17

-- "Least sizes are 11": the control part and two octets of checks, and the payload begins
abbrev pub data_head : ℕ
data_head = 11

-- Type 0: "Always 18 octets"
abbrev pub closing_size : ℕ
closing_size = 18

-- "and 19": the control part and two octets of checks, and the lengths begin
abbrev pub lengths_head : ℕ
lengths_head = 19

-- all of them, in this order
abbrev pub sizes : List ℕ
sizes = short_control ∷ long_control ∷ data_head ∷ closing_size ∷ lengths_head ∷ []
