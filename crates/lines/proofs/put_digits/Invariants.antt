-- `lines::put_digits` meets its contract: the digits from i on stand, and those of rest are left. Assumes nothing.
use Rattle.lines.proofs.Writing.{DigitsLeft}
use Rattle.lines.proofs.put_digits.Given as goal

abbrev pub invariant-loop-i : goal.invariant-loop-i
invariant-loop-i l = DigitsLeft l.n l.out l.i l.rest
