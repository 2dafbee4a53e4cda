-- A distance of 2^31 or more is early: 2^32 less, it is negative. Assumes nothing.
use Rattle.std.proofs.Common.{◌≡◌, ℕ, suc, ◌-◌, ◌^◌, ◌<◌, ◌≤◌, pos, negsuc, ◌-ℤ◌, le-ltb, lt-ltb}
use Rattle.clock.specs.Clock.{nearest}

pub nearest_late : (d : ℕ) → d < 2 ^ 31 → nearest d ≡ pos d
unfolding nearest
nearest_late d h = rw (lt-ltb d (2 ^ 31) h)

less : (d : ℕ) → d < 2 ^ 32 → pos d -ℤ pos (2 ^ 32) ≡ negsuc (2 ^ 32 - suc d)
less d h = rw (lt-ltb d (2 ^ 32) h)

pub nearest_early : (d : ℕ) → 2 ^ 31 ≤ d → d < 2 ^ 32 → nearest d ≡ negsuc (2 ^ 32 - suc d)
unfolding nearest
nearest_early d h k = rw (le-ltb d (2 ^ 31) h, less d k)
