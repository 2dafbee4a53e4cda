-- `telling::gaps::put_gaps` meets its contract. Assumes nothing.
use native.Mathlib.Omega.{arith}
use Rattle.reception.proofs.ReportAccounts.{undamaged_sent}
use Rattle.reporting.proofs.CountedReport.{sound}
use Rattle.reporting.proofs.GapsLeft.{back, up, last_back, last_up}
use Rattle.telling.proofs.GapsTold.{telling_start, heard_told, unheard_told, all_told}
use Rattle.telling.proofs.gaps.put_gaps.Goals as goal
use Rattle.telling.proofs.gaps.put_gaps.Goals.{then-r-k-eq1, else-r-k-eq1}

pub loop-k-init : goal.loop-k-init
loop-k-init c =
    let p = c.requires in
    telling_start _ _ _ (undamaged_sent _ _ (sound c.args.r.now.head _ _ _ c.args.r.now.matched p.undamaged)) c.args.r.now.matched.room p.n_value

pub put_gap-requires-clause-i_le_k : goal.put_gap-requires-clause-i_le_k
put_gap-requires-clause-i_le_k c =
    let g = c.loop-k.invariant in
    (back _ _ _ _ _ g.going, up _ _ _ _ _ g.going c.loop-k-test.true c.if-r-k-eq1.true _ _ c.from-e.ensures c.from-l.ensures)

pub loop-k-preserved : goal.loop-k-preserved
loop-k-preserved c =
    elim c.if-r-k-eq1.branch [
      | then-r-k-eq1 w ↦ rw (w.text-is, w.i-is, w.a-is) (
          heard_told _ _ _ _ _ _ _ c.loop-k.invariant c.loop-k-test.true w.if-r-k-eq1.true _ _ w.from-e.ensures w.from-l.ensures _ w.put_gap.ensures
          )
      | else-r-k-eq1 w ↦ rw (w.text-is, w.i-is, w.a-is) (unheard_told _ _ _ _ _ _ _ c.loop-k.invariant c.loop-k-test.true w.if-r-k-eq1.false)
    ]

pub put_gap-requires-2-clause-i_le_k : goal.put_gap-requires-2-clause-i_le_k
put_gap-requires-2-clause-i_le_k c =
    let g = c.loop-k.invariant in
    let q = c.sent_octets-total.ensures in
    let le = c.loop-k-test.false in
    (last_back _ _ _ _ _ g.going le _ q, omega (arith, last_up _ _ _ _ _ g.going le _ q))

pub returns : goal.returns
returns c = all_told _ _ _ _ _ _ _ c.loop-k.invariant c.loop-k-test.false _ c.sent_octets-total.ensures _ c.put_gap-2.ensures
