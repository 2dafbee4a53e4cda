-- `account::text_buffer` meets its contract. Assumes nothing.
use Rattle.std.proofs.Common.{ℕ}
use Rattle.std.proofs.Math.ListN.{length-replicate}
use Rattle.account.proofs.text_buffer.Goals as goal

pub returns : goal.returns
returns c = length-replicate {A = ℕ} 524288 0
