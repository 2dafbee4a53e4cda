-- `telling::figures::put_sequence` meets its contract. Assumes nothing.
use Rattle.telling.proofs.AccountParts.{adds_sequence}
use Rattle.telling.proofs.figures.put_sequence.Goals as goal

pub returns : goal.returns
returns c = adds_sequence c.args.h c.from.ensures c.from-2.ensures c.from-3.ensures c.put_fields.ensures c.put_state.ensures c.put_end.ensures
