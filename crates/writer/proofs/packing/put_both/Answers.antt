-- `writer::packing::put_both` meets its contract. Assumes nothing.
use mathlib.Core.Path.{sym, ap, ◌∙◌}
use Rattle.fields.specs.Runs.{laid}
use Rattle.fields.proofs.Laying.{stored_two}
use Rattle.writer.proofs.Packed.{checks_packed}
use Rattle.writer.proofs.packing.put_both.Goals as goal

pub returns : goal.returns
returns c =
    let a = c.args in
    stored_two a.out.now a.at _ _ c.requires.1
    ∙ ap (laid a.out.now a.at) (sym (checks_packed a.header a.check c.requires.0))
