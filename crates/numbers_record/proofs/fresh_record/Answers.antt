-- `numbers_record::fresh_record` meets its contract. Assumes nothing.
use mathlib.Core.Path.{◌∙◌}
use Rattle.numbers_record.proofs.RecordsKept.{kept, told}
use Rattle.numbers_record.proofs.fresh_record.Goals as goal

pub returns : goal.returns
returns c =
    kept _ _ _ _ _ _ _ _ c.if-head-lt6.false c.fresh-t.ensures _ _ _ (c.number_of.ensures ∙ told _) c.keep.ensures.value c.keep.ensures.head_after
