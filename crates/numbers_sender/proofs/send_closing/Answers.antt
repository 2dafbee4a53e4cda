-- `numbers_sender::send_closing` meets its contract. Assumes nothing.
use mathlib.Core.Path.{ap, ◌∙◌}
use Rattle.frame.specs.Paper.{written_paper}
use Rattle.std.proofs.Common.{rules}
use Rattle.numbers.proofs.InOne.{as_few}
use native.Mathlib.Omega.{arith}
use Rattle.numbers_sender.proofs.SendersKept.{few_closed, short_close, sent}
use Rattle.numbers_sender.proofs.send_closing.Goals as goal

pub in_one-requires : goal.in_one-requires
in_one-requires c = omega (arith, as_few _ _ (ap written_paper c.keep.ensures.value ∙ c.closed-t.ensures.says) (few_closed _ _))

pub returns : goal.returns
returns c =
    sent _ _ _ _ _ _ _ _ _ (λ q. short_close _ q _) (rw c.sender_of.ensures at c.closed-t.ensures) c.in_one.ensures c.keep.ensures.value (search rules)
