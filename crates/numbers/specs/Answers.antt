-- Answers as C and Rust get them: in one number. Assumes nothing.
use Rattle.std.specs.Prelude.{ℕ, ◌+◌, Result, Ok, Err}
use Rattle.units.specs.declared.refusals.Refusal.{Refusal}
use Rattle.units.specs.OneNumber.{with_value, checks_value}
use Rattle.units.specs.Refusals.{number_of}
use Rattle.frame.specs.Paper.{CountPaper}

-- the number of an answer without a value: 0, or the refusal's
abbrev pub number_told : Result Unit Refusal → ℕ
number_told (Ok u) = 0
number_told (Err r) = number_of r

-- the refusal's number, and above it how many were written, or both checks of 4 and 7
unfoldable pub in_one : CountPaper → ℕ
in_one p = with_value p.number (p.count + checks_value p.found p.worked)

-- the largest value that is answered so: it has 56 bits above the number's eight
abbrev pub most_told : ℕ
most_told = 72057594037927935

-- the largest count that is answered so: no frame has as many octets, or lengths
abbrev pub most_counted : ℕ
most_counted = 16777215
