-- `hearing::contradicting::packet_contradicts` meets its contract. Assumes nothing.
use mathlib.Core.Path.{ap, ◌∙◌}
use mathlib.Core.Bool.{not}
use Rattle.reception.specs.Lent.{held}
use Rattle.hearing.proofs.AskedOfNeighbours.{end_back, held_packet, far_off, by_next}
use native.Mathlib.Omega.{arith}
use Rattle.hearing.proofs.contradicting.packet_contradicts.Goals as goal

pub returns-then-r-k-eq1 : goal.returns-then-r-k-eq1
returns-then-r-k-eq1 c =
    held_packet _ _ _ _ _ _ c.if-r-k-eq1.true c.from.ensures c.from-then-r-k-eq1.ensures _ c.differs.ensures

pub is_fit-requires : goal.is_fit-requires
is_fit-requires c =
    let r = c.args.r.now in
    let n = c.end_below-b.ensures.number_is r.inner.head in
    let b = end_back (held r.inner) c.args.k in
    omega (arith, n, b)

pub returns-then-not-is_fit : goal.returns-then-not-is_fit
returns-then-not-is_fit c =
    let r = c.args.r.now in
    let d = c.end_below-b.ensures in
    ap not c.if-not-is_fit.true
    ∙ far_off _ _ _ _ r.explained c.requires.0 c.if-r-k-eq1.false _ _ (d.number_is r.inner.head) (d.octets_are r.inner.head) _ c.is_fit.ensures c.if-not-is_fit.true

pub returns-else-not-is_fit : goal.returns-else-not-is_fit
returns-else-not-is_fit c =
    let r = c.args.r.now in
    let d = c.end_below-b.ensures in
    by_next _ _ _ _ r.explained c.requires.0 c.if-r-k-eq1.false _ _ (d.number_is r.inner.head) (d.octets_are r.inner.head) _ c.is_fit.ensures c.if-not-is_fit.false
    _ c.next_fits.ensures
