-- `numbers_record::hear_frame` meets its contract. Assumes nothing.
use Rattle.numbers_record.proofs.RecordsKept.{kept}
use Rattle.numbers_record.proofs.hear_frame.Goals as goal

pub returns : goal.returns
returns c =
    kept _ _ _ _ _ _ _ _ c.if-head-lt6.false (rw c.head_of.ensures at c.hear-t.ensures) _ _ _ c.answer_of.ensures c.keep.ensures.value c.keep.ensures.head_after
