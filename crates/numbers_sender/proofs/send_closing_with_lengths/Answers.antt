-- `numbers_sender::send_closing_with_lengths` meets its contract. Assumes nothing.
use mathlib.Core.Path.{ap, ◌∙◌}
use Rattle.frame.specs.Paper.{written_paper}
use Rattle.std.proofs.Common.{rules}
use Rattle.numbers.proofs.InOne.{as_few}
use native.Mathlib.Omega.{arith}
use Rattle.numbers_sender.proofs.SendersKept.{few_closed_with, short_close_with, sent}
use Rattle.numbers_sender.proofs.send_closing_with_lengths.Goals as goal

pub in_one-requires : goal.in_one-requires
in_one-requires c = omega (arith, as_few _ _ (ap written_paper c.keep.ensures.value ∙ c.closed_with_lengths-t.ensures.says) (few_closed_with _ _ _))

pub returns : goal.returns
returns c =
    sent _ _ _ _ _ _ _ _ _ (λ q. short_close_with _ q _ _) (rw c.sender_of.ensures at c.closed_with_lengths-t.ensures) c.in_one.ensures c.keep.ensures.value (search rules)
