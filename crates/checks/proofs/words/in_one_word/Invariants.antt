-- `checks::words::in_one_word` meets its contract: x stands for the octets so far. Assumes nothing.
use Prim.Native.Nat.{◌+◌, ◌*◌, ◌%◌}
use Rattle.checks.specs.Inside.{Stands}
use Rattle.checks.proofs.words.in_one_word.Given as goal

abbrev pub invariant-loop-k : goal.invariant-loop-k
invariant-loop-k l = Stands l.by l.short l.s (l.m % 8 + 8 * l.k) l.x
