-- `several::answer_of` meets its contract. Assumes nothing.
use mathlib.Core.Path.{sym, ap, ◌∙◌}
use Rattle.reception.specs.Hearing.{taken_paper}
use Rattle.reception.specs.Several.{answer_of}
use Rattle.several.proofs.answer_of.Goals as goal

pub returns-in-Ok : goal.returns-in-Ok
unfolding taken_paper
returns-in-Ok c = ap answer_of (sym c.in-Ok.is)

pub returns-in-Err : goal.returns-in-Err
unfolding taken_paper
returns-in-Err c = c.in_one.ensures ∙ ap answer_of (sym c.in-Err.is)
