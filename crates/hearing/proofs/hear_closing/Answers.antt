-- `hearing::hear_closing` meets its contract. Assumes nothing.
use mathlib.Core.Path.{sym, ◌∙◌}
use Rattle.hearing.proofs.Answered.{refused_as}
use Rattle.hearing.proofs.Judged.{explained, all_before, all_from, same_outcome, closing_damaged, closing_judged}
use Rattle.hearing.proofs.hear_closing.Goals as goal

pub returns-then-is_damaged : goal.returns-then-is_damaged
returns-then-is_damaged c =
    refused_as _ _ (closing_damaged _ _ _ _ (sym c.is_damaged.ensures ∙ c.if-is_damaged.true)) c.refused.ensures

pub invariant_of-take_closing : goal.invariant_of-take_closing
invariant_of-take_closing c =
    record { none_before = rw c.whole-span.ensures (all_before _); none_from = rw c.whole-span.ensures (all_from _); explained = explained _ _ (sym c.is_damaged.ensures ∙ c.if-is_damaged.false) }

pub returns : goal.returns
returns c =
    same_outcome (closing_judged _ _ _ _ (sym c.is_damaged.ensures ∙ c.if-is_damaged.false)) c.take_closing.ensures
