-- `hearing::looking::next_fits` meets its contract. Assumes nothing.
use Rattle.hearing.proofs.NeighboursFound.{up_found, up_on, up_none}
use Rattle.hearing.proofs.looking.next_fits.Goals as goal

pub returns-then-r-j-eq1 : goal.returns-then-r-j-eq1
returns-then-r-j-eq1 c =
    up_found _ _ _ _ _ _ c.loop-j.invariant c.loop-j-test.true c.if-r-j-eq1.true _ _ c.from.ensures c.from-then-r-j-eq1.ensures _ c.is_fit.ensures

pub loop-j-preserved : goal.loop-j-preserved
loop-j-preserved c = up_on _ _ _ _ _ _ c.loop-j.invariant c.loop-j-test.true c.if-r-j-eq1.false

pub returns : goal.returns
returns c = up_none _ _ _ _ _ _ c.loop-j.invariant c.loop-j-test.false _ c.may_end.ensures
