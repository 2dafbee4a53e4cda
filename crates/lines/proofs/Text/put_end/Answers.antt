-- `lines::Text::put_end` meets its contract. Assumes nothing.
use mathlib.Core.Path.{refl}
use native.Mathlib.Omega.{arith}
use Rattle.lines.proofs.Added.{adds}
use Rattle.lines.proofs.Putting.{puts_one}
use Rattle.lines.proofs.Text.put_end.Goals as goal

pub returns : goal.returns
returns c = adds refl (puts_one _ _ 10 (omega arith)) (omega arith) (omega arith)
