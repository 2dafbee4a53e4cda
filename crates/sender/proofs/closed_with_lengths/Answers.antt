-- `sender::closed_with_lengths` meets its contract. Assumes nothing.
use mathlib.Core.Path.{refl, sym, ap, ◌∙◌}
use Rattle.frame.specs.Paper.{written_paper}
use Rattle.sender.specs.Answers.{Dispatch}
use Rattle.sender.proofs.Answering.{written}
use Rattle.sender.proofs.Written.{closed_as_written}
use Rattle.sender.proofs.closed_with_lengths.Goals as goal

pub returns-in-Ok : goal.returns-in-Ok
returns-in-Ok c =
    let q = closed_as_written c.args.s _ _ _ _ _ (sym c.is_damaged.ensures ∙ c.if-is_damaged.false) (sym c.is_open.ensures ∙ c.if-not-is_open.false) (rw c.closing.ensures at c.write_closing_with_lengths-written.ensures) c.in-Ok.is in
    written q.0 refl c.at_rest.ensures q.1

pub returns-in-Err : goal.returns-in-Err
returns-in-Err c =
    let q = closed_as_written c.args.s _ _ _ _ _ (sym c.is_damaged.ensures ∙ c.if-is_damaged.false) (sym c.is_open.ensures ∙ c.if-not-is_open.false) (rw c.closing.ensures at c.write_closing_with_lengths-written.ensures) c.in-Err.is in
    let r = c.refused-in-Err.ensures in
    written q.0 (ap (λ (x : Dispatch). written_paper x.answer) r) (ap (λ (x : Dispatch). x.sender) r) q.1
