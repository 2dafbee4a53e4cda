-- `writer::parts::put_closing_control` meets its contract. Assumes nothing.
use mathlib.Core.Path.{refl}
use Rattle.fields.specs.Numbers.{octets}
use Rattle.fields.proofs.Laying.{laid_on}
use Rattle.writer.proofs.parts.put_closing_control.Goals as goal

pub returns : goal.returns
unfolding octets
returns c =
    let packets = laid_on _ _ _ 9 refl c.put_control.ensures (rw c.from.ensures at c.put.ensures) in
    laid_on _ _ _ 12 refl packets c.put-2.ensures
