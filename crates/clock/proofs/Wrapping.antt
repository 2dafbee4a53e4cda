-- Distances around the clock: the one that leads back to a tick is the only one. Assumes nothing.
use Rattle.std.proofs.Common.{◌≡◌, ℕ, ◌+◌, ◌%◌, ◌^◌, ◌<◌, arith}
use Rattle.clock.specs.Clock.{past}

pub past_below : (tick start : ℕ) → past tick start < 2 ^ 32
unfolding past
past_below tick start = omega arith

-- going on from the start by how far the tick is past it leads to the tick
pub past_back : (tick start : ℕ) → tick < 2 ^ 32 → start < 2 ^ 32 → (start + past tick start) % 2 ^ 32 ≡ tick
unfolding past
past_back tick start h k = omega arith

-- and it is the only such distance
pub past_only : (r tick start : ℕ) → r < 2 ^ 32 → start < 2 ^ 32 → (r + start) % 2 ^ 32 ≡ tick → r ≡ past tick start
unfolding past
past_only r tick start h k e = omega arith
