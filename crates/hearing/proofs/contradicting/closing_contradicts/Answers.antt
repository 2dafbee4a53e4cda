-- `hearing::contradicting::closing_contradicts` meets its contract. Assumes nothing.
use Rattle.hearing.proofs.NeighboursFound.{last_end}
use Rattle.hearing.proofs.AskedOfNeighbours.{held_closing, new_closing}
use Rattle.hearing.proofs.contradicting.closing_contradicts.Goals as goal

pub returns-then-h : goal.returns-then-h
returns-then-h c = held_closing _ _ _ c.if-h.true _ (rw (c.from.ensures, c.from-then-h.ensures) at c.differs.ensures)

pub returns : goal.returns
returns c =
    let r = c.args.r.now in
    let d = last_end _ _ _ _ _ _ r.none_from c.end_below-b.ensures in
    new_closing _ _ _ _ _ r.explained c.if-h.false (d.number_is r.inner.head) (d.octets_are r.inner.head) _
    (rw c.with_closing.ensures at c.may_end.ensures)
