-- A refusal, or a value, in one number: as C and Rust get it, and as a list of many answers holds it. Assumes nothing.
use Rattle.std.specs.Prelude.{ℕ, ◌+◌, ◌*◌}

-- the lowest eight bits are the refusal's number, or 0; the bits above are the value, or 0
abbrev pub with_value : ℕ → ℕ → ℕ
with_value number value = number + 256 * value

-- document 02, request 6: of refusals 4 and 7 the value is "the check found and the check worked out", sixteen bits for the first
abbrev pub checks_value : ℕ → ℕ → ℕ
checks_value found worked = found + 65536 * worked

-- a refusal by its number and both checks
abbrev pub refusal_in_one : ℕ → ℕ → ℕ → ℕ
refusal_in_one number found worked = with_value number (checks_value found worked)
