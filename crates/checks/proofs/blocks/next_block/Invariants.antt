-- `checks::blocks::next_block` meets its contract: the block leaves what the octets so far leave. Assumes nothing.
use mathlib.Core.Path.{◌≡◌}
use Prim.Native.Nat.{◌+◌, ◌*◌}
use Rattle.checks.specs.Inside.{value, passed}
use Rattle.checks.proofs.blocks.next_block.Given as goal

abbrev pub invariant-loop-k : goal.invariant-loop-k
invariant-loop-k l = value l.b ≡ passed 0x633 10 l.s (l.i + 8 * l.k)
