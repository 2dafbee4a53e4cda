-- `lines::Text::put_fields` meets its contract: the word, and the numbers so far. Assumes nothing.
use Rattle.lines.proofs.Added.{adds_word, adds_field}
use Rattle.lines.proofs.Text.put_fields.Goals as goal

pub loop-n-init : goal.loop-n-init
loop-n-init c = adds_word c.put.ensures

pub loop-n-preserved : goal.loop-n-preserved
loop-n-preserved c = adds_field _ _ _ c.loop-n-test.true c.loop-n.invariant c.put_number.ensures
