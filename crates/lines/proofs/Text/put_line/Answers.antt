-- `lines::Text::put_line` meets its contract. Assumes nothing.
use Rattle.lines.proofs.Added.{adds_line}
use Rattle.lines.proofs.Text.put_line.Goals as goal

pub returns : goal.returns
returns c = adds_line _ _ c.put_fields.ensures c.put_end.ensures
