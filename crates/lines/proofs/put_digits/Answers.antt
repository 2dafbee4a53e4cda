-- `lines::put_digits` meets its contract: the digits from i on stand, and those of rest are left. Assumes nothing.
use native.Mathlib.Omega.{arith}
use Rattle.lines.proofs.Writing.{one_left, one_written, units, all_written}
use Rattle.lines.proofs.put_digits.Goals as goal

pub loop-i-preserved : goal.loop-i-preserved
loop-i-preserved c = one_written c.loop-i.invariant c.loop-i-test.true

pub overflow_add-out-2 : goal.overflow_add-out-2
overflow_add-out-2 c = let u = units c.loop-i.invariant c.loop-i-test.false in omega arith

pub overflow_cast-out-2 : goal.overflow_cast-out-2
overflow_cast-out-2 c = let u = units c.loop-i.invariant c.loop-i-test.false in omega arith

pub bounds-out-0 : goal.bounds-out-0
bounds-out-0 c = (one_left c.loop-i.invariant).1

pub returns : goal.returns
returns c = all_written c.loop-i.invariant c.loop-i-test.false
