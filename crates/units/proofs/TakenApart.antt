-- A refusal in one number is taken apart again: its number, the check found and the check worked out. Assumes nothing.
use Prim.Native.Nat.{ℕ, ◌/◌, ◌%◌, ◌<◌}
use mathlib.Core.Path.{◌≡◌}
use native.Mathlib.Omega.{arith}
use Rattle.units.specs.OneNumber.{with_value, checks_value}

-- an answer is a refusal, or none, by its lowest eight bits; what stands above is the value
pub number_back : (number value : ℕ) → number < 256 → with_value number value % 256 ≡ number
number_back number value h = omega (arith, h)

pub value_back : (number value : ℕ) → number < 256 → with_value number value / 256 ≡ value
value_back number value h = omega (arith, h)

-- of the value, the lower sixteen bits are the check found, and what stands above is the check worked out
pub found_back : (found worked : ℕ) → found < 65536 → checks_value found worked % 65536 ≡ found
found_back found worked h = omega (arith, h)

pub worked_back : (found worked : ℕ) → found < 65536 → checks_value found worked / 65536 ≡ worked
worked_back found worked h = omega (arith, h)
