-- `numbers_sender::open_state` meets its contract. Assumes nothing.
use Rattle.numbers_sender.proofs.SendersKept.{short_open, turned}
use Rattle.std.proofs.Common.{rules}
use Rattle.numbers_sender.proofs.open_state.Goals as goal

pub returns : goal.returns
returns c =
    turned _ _ _ _ _ _ (λ q. short_open _ q _) (rw c.sender_of.ensures at c.opened-t.ensures) c.number_of.ensures c.keep.ensures.value (search rules)
