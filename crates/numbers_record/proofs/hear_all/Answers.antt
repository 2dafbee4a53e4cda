-- `numbers_record::hear_all` meets its contract. Assumes nothing.
use mathlib.Core.Path.{◌∙◌}
use Rattle.numbers_record.proofs.RecordsKept.{kept, told, answers_left_lem}
use Rattle.numbers_record.proofs.hear_all.Goals as goal

pub returns : goal.returns
returns c =
    let p = c.hear_sequence-t.ensures in
    record {
      keeps = kept _ _ _ _ _ _ _ _ c.if-head-lt6.false p.taken _ _ _ (c.number_of.ensures ∙ told _) c.keep.ensures.value c.keep.ensures.head_after;
      answers_out = answers_left_lem _ _ _ _ _ c.if-head-lt6.false p.answers;
    }
