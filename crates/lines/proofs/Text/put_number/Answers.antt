-- `lines::Text::put_number` meets its contract: a space, and the digits behind it. Assumes nothing.
use mathlib.Core.Path.{refl}
use native.Mathlib.Omega.{arith}
use Rattle.lines.specs.Text.{field}
use Rattle.lines.proofs.Added.{adds}
use Rattle.lines.proofs.Putting.{puts_one, puts_part, puts_then, field_length}
use Rattle.lines.proofs.Text.put_number.Goals as goal

pub returns : goal.returns
unfolding field
returns c =
    let d = c.digits_of.ensures.0 in
    let l = field_length c.args.n in
    adds refl (puts_then (omega arith) (puts_one _ _ 32 (omega arith)) (puts_part _ _ _ _ _ _ c.put_digits.ensures (omega arith) (omega arith))) l (omega arith)
