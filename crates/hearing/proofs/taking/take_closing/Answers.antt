-- `hearing::taking::take_closing` meets its contract. Assumes nothing.
use mathlib.Core.Path.{refl, sym, ◌∙◌}
use Rattle.hearing.proofs.Answered.{refused_as, taken_as, closing_other, closing_beyond, closing_off_fact, closing_taken}
use Rattle.hearing.proofs.taking.take_closing.Goals as goal

pub returns-then-other_key : goal.returns-then-other_key
returns-then-other_key c =
    refused_as _ _ (closing_other _ _ _ _ (sym c.other_key.ensures ∙ c.if-other_key.true)) c.refused.ensures

pub returns-then-r-c : goal.returns-then-r-c
returns-then-r-c c =
    refused_as _ _ (closing_beyond _ _ _ _ (sym c.other_key.ensures ∙ c.if-other_key.false) c.if-r-c.true) c.refused-then-r-c.ensures

pub returns-then-closing_contradicts : goal.returns-then-closing_contradicts
returns-then-closing_contradicts c =
    refused_as _ _
    (closing_off_fact _ _ _ _ (sym c.other_key.ensures ∙ c.if-other_key.false) c.if-r-c.false (sym c.closing_contradicts.ensures ∙ c.if-closing_contradicts.true))
    c.refused-then-closing_contradicts.ensures

pub returns : goal.returns
returns c =
    taken_as _
    (closing_taken _ _ _ _ (sym c.other_key.ensures ∙ c.if-other_key.false) c.if-r-c.false (sym c.closing_contradicts.ensures ∙ c.if-closing_contradicts.false))
    (rw c.with_closing.ensures refl)
