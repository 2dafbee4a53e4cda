-- `writer::parts::put_control` meets its contract: each field is laid behind those that stand in front. Assumes nothing.
use mathlib.Core.Path.{◌≡◌, refl, ◌∙◌}
use Prim.Native.Nat.{◌*◌, ◌%◌}
use native.Mathlib.Omega.{arith}
use Rattle.fields.specs.Numbers.{octets}
use Rattle.fields.proofs.Laying.{laid_first, laid_on}
use Rattle.frame.proofs.TypeNamed.{number_lt}
use Rattle.frame.specs.Types.{number_of_type}
use Rattle.writer.proofs.parts.put_control.Goals as goal

pub returns : goal.returns
unfolding octets
returns c =
    let t = number_of_type c.args.kind in
    let v : t * 16 % 18446744073709551616 ≡ t * 16 = omega (arith, number_lt c.args.kind) in
    let one = (rw (c.from.ensures, c.number.ensures, v) at c.put.ensures) ∙ laid_first _ _ in
    let two = laid_on _ _ _ 1 refl one (rw c.from-2.ensures at c.put-2.ensures) in
    let three = laid_on _ _ _ 3 refl two (rw c.from-3.ensures at c.put-3.ensures) in
    laid_on _ _ _ 5 refl three c.put-4.ensures
