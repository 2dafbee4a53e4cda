-- `lines::Text::put` meets its contract. Assumes nothing.
use mathlib.Core.Path.{refl}
use native.Mathlib.Omega.{arith}
use Rattle.lines.proofs.Added.{adds}
use Rattle.lines.proofs.Putting.{puts_part}
use Rattle.lines.proofs.Text.put.Goals as goal

pub returns : goal.returns
returns c = adds refl (puts_part _ _ _ _ _ _ c.copy_from_slice.ensures.after refl (omega arith)) (omega arith) c.requires
