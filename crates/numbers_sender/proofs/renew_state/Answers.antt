-- `numbers_sender::renew_state` meets its contract. Assumes nothing.
use Rattle.numbers_sender.proofs.SendersKept.{short_renew, turned}
use Rattle.std.proofs.Common.{rules}
use Rattle.numbers_sender.proofs.renew_state.Goals as goal

pub returns : goal.returns
returns c =
    turned _ _ _ _ _ _ (λ q. short_renew _ q) (rw c.sender_of.ensures at c.renewed-t.ensures) c.number_of.ensures c.keep.ensures.value (search rules)
