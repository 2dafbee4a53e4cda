-- `writer::packing::put_one` meets its contract. Assumes nothing.
use mathlib.Core.Path.{sym, ap, ◌∙◌}
use Rattle.fields.specs.Runs.{laid}
use Rattle.fields.proofs.Laying.{stored_two}
use Rattle.writer.proofs.Packed.{last_packed}
use Rattle.writer.proofs.packing.put_one.Goals as goal

pub returns : goal.returns
returns c =
    let a = c.args in
    stored_two a.out.now a.at _ _ c.requires.1
    ∙ ap (laid a.out.now a.at) (sym (last_packed a.a c.requires.0))
