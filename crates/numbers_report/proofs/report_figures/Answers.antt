-- `numbers_report::report_figures` meets its contract. Assumes nothing.
use mathlib.Core.Path.{◌∙◌}
use Rattle.numbers_report.proofs.ReportsTold.{short_figures, told_refused, told_report}
use Rattle.numbers_report.proofs.report_figures.Goals as goal

pub returns-then-figures-lt7 : goal.returns-then-figures-lt7
returns-then-figures-lt7 c =
    short_figures _ _ _ _ _ _ _ c.if-head-lt6.false c.if-figures-lt7.true (c.number-then-figures-lt7.ensures ∙ (rw c.head_of-h.ensures at c.refusal_of.ensures))

pub returns-in-Err : goal.returns-in-Err
returns-in-Err c =
    rw c.number-in-Err.ensures (told_refused _ _ _ _ _ _ _ _ _ _ c.if-head-lt6.false c.if-figures-lt7.false (rw c.head_of-h.ensures at c.report.ensures) _ c.in-Err.is)

pub returns-in-Ok : goal.returns-in-Ok
returns-in-Ok c =
    let p = c.put_in_front.ensures in
    told_report _ _ _ _ _ _ _ _ _ _ c.if-head-lt6.false c.if-figures-lt7.false (rw c.head_of-h.ensures at c.report.ensures) _ _ _ _ _ c.in-Ok.is c.figures_of.ensures p.says c.number_of.ensures p.leaves
