-- `checks::blocks::to_word` meets its contract: the block leaves what the octets so far leave. Assumes nothing.
use mathlib.Core.Path.{◌≡◌}
use Prim.Native.Nat.{◌+◌, ◌*◌, ◌%◌}
use Rattle.checks.specs.Inside.{value, passed}
use Rattle.checks.proofs.blocks.to_word.Given as goal

abbrev pub invariant-loop-k : goal.invariant-loop-k
invariant-loop-k l = value l.a ≡ passed 0x633 10 l.s (l.n % 64 + 64 * l.k)
