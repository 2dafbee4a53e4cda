-- `joining::searching::lowest_off` meets its contract. Assumes nothing.
use native.Mathlib.Omega.{arith}
use Rattle.joining.proofs.BesideFound.{look_on, beside_found, walks_past, walks_on}
use Rattle.joining.proofs.LowestSearched.{search_start, search_on, search_off, search_none}
use Rattle.joining.proofs.searching.lowest_off.Goals as goal
use Rattle.joining.proofs.searching.lowest_off.Goals.{then-next-k, else-next-k}

pub loop-k-init : goal.loop-k-init
loop-k-init c = search_start _ _ _ _ _ _ _

pub loop-next-init : goal.loop-next-init
loop-next-init c = c.loop-k.invariant.walked.along

pub overflow_add-next : goal.overflow_add-next
overflow_add-next c =
    omega (arith, (look_on _ _ _ c.loop-next.invariant _ c.is_unheard.ensures c.loop-next-test.true).inside, c.args.left.now.inner.matched.room)

pub loop-next-smaller : goal.loop-next-smaller
loop-next-smaller c = omega (arith, (look_on _ _ _ c.loop-next.invariant _ c.is_unheard.ensures c.loop-next-test.true).inside)

pub loop-next-preserved : goal.loop-next-preserved
loop-next-preserved c = look_on _ _ _ c.loop-next.invariant _ c.is_unheard.ensures c.loop-next-test.true

pub is_off-requires : goal.is_off-requires
is_off-requires c =
    let b = beside_found _ _ _ _ _ _ _ _ c.loop-k.invariant.walked c.loop-next.invariant _ c.is_unheard.ensures c.loop-next-test.false in
    record { beside_is = b; k_in_bounds = (c.if-left-k.false, omega arith, omega arith) }

pub loop-k-preserved : goal.loop-k-preserved
loop-k-preserved c =
    let b = beside_found _ _ _ _ _ _ _ _ c.loop-k.invariant.walked c.loop-next.invariant _ c.is_unheard.ensures c.loop-next-test.false in
    let on = search_on _ _ _ _ _ _ _ _ _ _ _ c.loop-k.invariant c.if-left-k.false _ _ c.from-e.ensures c.from-l.ensures _ c.is_off.ensures c.if-is_off.false in
    elim c.if-next-k.branch [
      | then-next-k w ↦ rw (w.last-is, w.next-is) (on _ _ _ (walks_on _ _ _ _ _ _ _ b w.if-next-k.true c.if-left-k.false _ _ w.end_of-last.ensures.0 w.end_of-last.ensures.1))
      | else-next-k w ↦ rw (w.last-is, w.next-is) (on _ _ _ (walks_past _ _ _ _ _ _ _ b w.if-next-k.false))
    ]

pub returns-then-left-k : goal.returns-then-left-k
returns-then-left-k c = search_none _ _ _ _ _ _ _ _ _ _ _ c.loop-k.invariant c.if-left-k.true

pub returns-then-is_off : goal.returns-then-is_off
returns-then-is_off c =
    search_off _ _ _ _ _ _ _ _ _ _ _ c.loop-k.invariant c.if-left-k.false _ _ c.from-e.ensures c.from-l.ensures _ c.is_off.ensures c.if-is_off.true
