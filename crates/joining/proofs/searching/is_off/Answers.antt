-- `joining::searching::is_off` meets its contract. Assumes nothing.
use native.Mathlib.Omega.{arith}
use mathlib.Core.Path.{ap, ◌∙◌}
use mathlib.Core.Bool.{not}
use Rattle.reception.specs.Lent.{held}
use Rattle.hearing.proofs.AskedOfNeighbours.{end_back, held_packet, far_off, by_next}
use Rattle.joining.proofs.Answered.{and_heard, and_unheard}
use Rattle.joining.proofs.BesideFound.{not_heard, was_heard, above_next}
use Rattle.joining.proofs.searching.is_off.Goals as goal

pub returns-then-m-ne1 : goal.returns-then-m-ne1
returns-then-m-ne1 c = and_unheard _ _ c.if-m-ne1.true

pub returns-then-next-k : goal.returns-then-next-k
returns-then-next-k c =
    let h = was_heard _ _ _ _ _ _ _ c.requires.beside_is c.if-next-k.true c.requires.k_in_bounds.0 in
    and_heard _ _ _ c.if-m-ne1.false (held_packet _ _ _ _ _ _ h c.from.ensures c.from-then-next-k.ensures _ c.differs.ensures)

pub is_fit-requires : goal.is_fit-requires
is_fit-requires c =
    let r = c.args.left.now.inner in
    let n = c.requires.beside_is.below.number_is r.head in
    let b = end_back (held r) c.args.k in
    omega (arith, n, b)

pub returns-then-not-is_fit : goal.returns-then-not-is_fit
returns-then-not-is_fit c =
    let d = c.requires.beside_is in
    let r = c.args.left.now in
    and_heard _ _ _ c.if-m-ne1.false
    (ap not c.if-not-is_fit.true
    ∙ far_off _ _ _ _ r.explained c.requires.k_in_bounds.0 (not_heard _ _ _ _ _ _ _ d c.if-next-k.false) _ _ (d.below.number_is r.inner.head) (d.below.octets_are r.inner.head) _ c.is_fit.ensures c.if-not-is_fit.true)

pub next_follows-requires : goal.next_follows-requires
next_follows-requires c = above_next _ _ _ _ _ _ _ c.requires.beside_is c.if-next-k.false

pub returns-else-not-is_fit : goal.returns-else-not-is_fit
returns-else-not-is_fit c =
    let d = c.requires.beside_is in
    let r = c.args.left.now in
    and_heard _ _ _ c.if-m-ne1.false
    (by_next _ _ _ _ r.explained c.requires.k_in_bounds.0 (not_heard _ _ _ _ _ _ _ d c.if-next-k.false) _ _ (d.below.number_is r.inner.head) (d.below.octets_are r.inner.head) _ c.is_fit.ensures c.if-not-is_fit.false _ c.next_follows.ensures)
