-- Lines of text (document 01, "The printed account": "Numbers are decimal, one space between fields, one line each"), and what is
-- promised of text put into lent memory. Assumes nothing.
use Rattle.std.specs.Prelude.{ℕ, zero, suc, ◌+◌, ◌-◌, ◌*◌, ◌/◌, ◌%◌, ◌≡◌, List, [], ◌∷◌, ◌++◌, ltb, length}
use Rattle.fields.specs.Choice.{◌when◌otherwise◌}
use Rattle.fields.specs.Runs.{laid}

-- the decimal digits of n as octets, the most significant first, where k of them are enough: one below ten is one digit, and one
-- above has the digits of its tens and then that of its units ('0' is 48)
unfoldable pub digits_within : ℕ → ℕ → List ℕ
digits_within zero n = []
digits_within (suc k) n =
    let tens = digits_within k (n / 10) in
    ((48 + n) ∷ []) when ltb n 10 otherwise (tens ++ ((48 + n % 10) ∷ []))

-- "Numbers are decimal": twenty digits are enough for 64 bits
unfoldable pub decimal : ℕ → List ℕ
decimal n = digits_within 20 n

-- the number that digits say, behind a number v that stands in front of them
unfoldable pub value_behind : ℕ → List ℕ → ℕ
value_behind v [] = v
value_behind v (d ∷ ds) = value_behind (v * 10 + (d - 48)) ds

-- the number that digits say
abbrev pub value : List ℕ → ℕ
value ds = value_behind 0 ds

-- "one space between fields": a number as a field behind another one
unfoldable pub field : ℕ → List ℕ
field n = 32 ∷ decimal n

-- and several, one behind the other
unfoldable pub fields_of : List ℕ → List ℕ
fields_of [] = []
fields_of (n ∷ ns) = field n ++ fields_of ns

-- "one line each": a word, numbers behind it, and the line's end
unfoldable pub line : List ℕ → List ℕ → List ℕ
line word numbers = word ++ fields_of numbers ++ (10 ∷ [])

-- the promise of a function that puts text into memory that held old, from at on: r is the place behind it, and nothing else differs
pub record Puts (text old : List ℕ) (at r : ℕ) (new : List ℕ) : Type 0 where
  pub leaves : new ≡ laid old at text
  pub ends : r ≡ at + length text
