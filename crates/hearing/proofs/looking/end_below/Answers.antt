-- `hearing::looking::end_below` meets its contract. Assumes nothing.
use Rattle.hearing.proofs.NeighboursFound.{down_none, down_found, down_on}
use Rattle.hearing.proofs.looking.end_below.Goals as goal

pub returns-then-r-j-eq1 : goal.returns-then-r-j-eq1
returns-then-r-j-eq1 c =
    down_found _ _ _ _ _ _ c.loop-j.invariant c.loop-j-test.true c.if-r-j-eq1.true _ _ c.from.ensures c.from-then-r-j-eq1.ensures

pub loop-j-preserved : goal.loop-j-preserved
loop-j-preserved c = down_on _ _ _ _ _ _ c.loop-j.invariant c.loop-j-test.true c.if-r-j-eq1.false

pub returns : goal.returns
returns c = down_none _ _ _ _ _ _ c.loop-j.invariant c.loop-j-test.false
