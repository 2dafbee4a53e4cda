-- `lines::digits_of` meets its contract. Assumes nothing.
use native.Mathlib.Omega.{arith}
use Rattle.lines.proofs.Decimal.{length_least}
use Rattle.lines.proofs.digits_of.Goals as goal

pub returns : goal.returns
returns c =
    let i = c.ilog10.ensures in
    (length_least _ _ _ (omega arith) c.max.ensures i.power_le i.next_power_gt, omega arith)
