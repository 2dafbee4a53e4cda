-- `writer::packing::put_two` meets its contract. Assumes nothing.
use mathlib.Core.Path.{sym, ap, ◌∙◌}
use Rattle.fields.specs.Runs.{laid}
use Rattle.fields.proofs.Laying.{stored_three}
use Rattle.writer.proofs.Packed.{two_packed}
use Rattle.writer.proofs.packing.put_two.Goals as goal

pub returns : goal.returns
returns c =
    let a = c.args in
    stored_three a.out.now a.at _ _ _ c.requires.2
    ∙ ap (laid a.out.now a.at) (sym (two_packed a.a a.b c.requires.0 c.requires.1))
