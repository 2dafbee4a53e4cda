-- `telling::figures::put_figures` meets its contract. Assumes nothing.
use Rattle.telling.proofs.AccountParts.{adds_figures}
use Rattle.telling.proofs.figures.put_figures.Goals as goal

pub returns : goal.returns
returns c = adds_figures c.args.r c.from.ensures c.from-2.ensures c.from-3.ensures c.put_line.ensures c.put_line-2.ensures c.put_line-3.ensures
