-- `joining::join_matched` meets its contract. Assumes nothing.
use mathlib.Core.Path.{sym, ◌∙◌}
use Rattle.reception.specs.Hearing.{kept_in}
use Rattle.reception.specs.Lent.{kept}
use Rattle.joining.proofs.Answered.{refused_as}
use Rattle.joining.proofs.Judged.{left_matched, left_damaged, right_damaged, join_other}
use Rattle.joining.proofs.join_matched.Goals as goal
use Rattle.joining.proofs.join_matched.Goals.{then-is_damaged-via-then-is_damaged, then-is_damaged-via-else-is_damaged+then-is_damaged-2}

pub invariant_of-left : goal.invariant_of-left
invariant_of-left c =
    let a = c.args in
    record { matched = left_matched (kept_in a.h a.marks.now a.elapsed.now a.sizes.now) (kept a.right.now) c.requires }

pub returns-then-is_damaged : goal.returns-then-is_damaged
returns-then-is_damaged c =
    elim c.then-is_damaged.branch [
      | then-is_damaged-via-then-is_damaged w ↦ refused_as _ _ (left_damaged _ _ c.requires (sym c.is_damaged.ensures ∙ w.if-is_damaged.true)) c.refused.ensures
      | then-is_damaged-via-else-is_damaged+then-is_damaged-2 w ↦
          refused_as _ _
          (right_damaged _ _ c.requires (sym c.is_damaged.ensures ∙ w.if-is_damaged.false) (sym w.is_damaged-else-is_damaged.ensures ∙ w.if-is_damaged-2.true))
          c.refused.ensures
    ]

pub returns-then-other_key : goal.returns-then-other_key
returns-then-other_key c =
    refused_as _ _
    (join_other _ _ c.requires (sym c.is_damaged.ensures ∙ c.if-is_damaged.false) (sym c.is_damaged-else-is_damaged.ensures ∙ c.if-is_damaged-2.false) (sym c.other_key.ensures ∙ c.if-other_key.true))
    c.refused-then-other_key.ensures
