-- `reporting::counting::tally` meets its contract. Assumes nothing.
use Prim.Native.Nat.{◌<◌}
use lib.ListN.{length}
use native.Mathlib.Omega.{arith}
use Rattle.reporting.proofs.Counted.{tally_start, tally_heard, tally_unheard, tally_done}
use Rattle.reporting.proofs.counting.tally.Goals as goal
use Rattle.reporting.proofs.counting.tally.Goals.{then-r-k-eq1, else-r-k-eq1}

pub loop-k-init : goal.loop-k-init
loop-k-init c = tally_start _ _ _ c.args.r.now.matched.room

pub loop-k-preserved : goal.loop-k-preserved
loop-k-preserved c =
    let lt : c.loop-k.k < length c.args.r.now.marks.now = omega (arith, c.loop-k-test.true, c.requires.inside) in
    elim c.if-r-k-eq1.branch [
      | then-r-k-eq1 w ↦ rw (w.heard-is, w.octets-is, w.end-is, w.before-is, w.gaps-is) (
          tally_heard _ _ _ _ _ _ _ _ _ c.loop-k.invariant lt w.if-r-k-eq1.true _ _ _ w.from-e.ensures (w.from-l.ensures, omega arith) w.gap_between-gaps.ensures
          )
      | else-r-k-eq1 w ↦
          rw (w.heard-is, w.octets-is, w.end-is, w.before-is, w.gaps-is) (tally_unheard _ _ _ _ _ _ _ _ _ c.loop-k.invariant lt w.if-r-k-eq1.false)
    ]

pub returns : goal.returns
returns c = tally_done _ _ _ _ _ _ _ _ _ _ c.requires c.loop-k-test.false c.loop-k.invariant
