-- `telling::gaps::put_gap` meets its contract. Assumes nothing.
use Rattle.telling.proofs.AccountParts.{adds_no_gap, adds_gap}
use Rattle.telling.proofs.gaps.put_gap.Goals as goal

pub returns-then-i-k : goal.returns-then-i-k
returns-then-i-k c = adds_gap _ _ _ _ c.if-i-k.true c.from.ensures c.from-then-i-k.ensures c.put_line.ensures

pub returns-else-i-k : goal.returns-else-i-k
returns-else-i-k c = adds_no_gap _ _ _ _ _ c.if-i-k.false
