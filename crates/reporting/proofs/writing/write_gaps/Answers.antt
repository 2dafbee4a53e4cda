-- `reporting::writing::write_gaps` meets its contract. Assumes nothing.
use mathlib.Core.Path.{◌∙◌}
use Rattle.reception.proofs.ReportAccounts.{undamaged_sent}
use Rattle.reporting.proofs.CountedReport.{sound}
use Rattle.reporting.proofs.GapsLeft.{back, up, last_back, last_up}
use Rattle.reporting.proofs.GapsWritten.{writing_start, room_here, heard_on, unheard_on, last_room, all_missing, all_written}
use Rattle.reporting.proofs.writing.write_gaps.Goals as goal
use Rattle.reporting.proofs.writing.write_gaps.Goals.{then-r-k-eq1, else-r-k-eq1}

pub loop-k-init : goal.loop-k-init
loop-k-init c =
    let p = c.requires in
    writing_start _ _ _ _ _ (undamaged_sent _ _ (sound c.args.r.now.head _ _ _ c.args.r.now.matched p.undamaged)) c.args.r.now.matched.room p.n_value p.room

pub put-t-requires : goal.put-t-requires
put-t-requires c =
    let g = c.loop-k.invariant in record { i_le_k = (back _ _ _ _ _ g.going, up _ _ _ _ _ g.going c.loop-k-test.true c.if-r-k-eq1.true _ _ c.from-e.ensures c.from-l.ensures); packets_le_i = (g.missing.packets_few, g.missing.octets_few); room = room_here _ _ _ _ _ _ _ _ _ _ _ _ g c.loop-k-test.true c.if-r-k-eq1.true _ _ c.from-e.ensures c.from-l.ensures }

pub loop-k-preserved : goal.loop-k-preserved
loop-k-preserved c =
    elim c.if-r-k-eq1.branch [
      | then-r-k-eq1 w ↦ rw (w.firsts-is, w.counts-is, w.octets-is, w.i-is, w.a-is, w.t-is) (
          heard_on _ _ _ _ _ _ _ _ _ _ _ _ c.loop-k.invariant c.loop-k-test.true w.if-r-k-eq1.true _ _ w.from-e.ensures w.from-l.ensures _ _ _ _ w.put-t.ensures.puts w.put-t.ensures.packets_le_k
          )
      | else-r-k-eq1 w ↦
          rw (w.firsts-is, w.counts-is, w.octets-is, w.i-is, w.a-is, w.t-is) (unheard_on _ _ _ _ _ _ _ _ _ _ _ _ c.loop-k.invariant c.loop-k-test.true w.if-r-k-eq1.false)
    ]

pub put-requires : goal.put-requires
put-requires c =
    let g = c.loop-k.invariant in
    let q = c.sent_octets-total.ensures in
    let le = c.loop-k-test.false in
    record { i_le_k = (last_back _ _ _ _ _ g.going le _ q, last_up _ _ _ _ _ g.going le _ q); packets_le_i = (g.missing.packets_few, g.missing.octets_few); room = last_room _ _ _ _ _ _ _ _ _ _ _ _ g le _ q }

pub shape_of-firsts : goal.shape_of-firsts
shape_of-firsts c =
    c.put.auto.firsts ∙ c.loop-k.invariant.firsts_laid.long

pub shape_of-counts : goal.shape_of-counts
shape_of-counts c =
    c.put.auto.counts ∙ c.loop-k.invariant.counts_laid.long

pub shape_of-octets : goal.shape_of-octets
shape_of-octets c =
    c.put.auto.octets ∙ c.loop-k.invariant.octets_laid.long

pub returns : goal.returns
returns c =
    let g = c.loop-k.invariant in
    let le = c.loop-k-test.false in
    let q = c.sent_octets-total.ensures in
    record { packets_value = all_missing _ _ _ _ _ _ _ _ _ _ _ _ g le _ q _ _ _ _ c.put.ensures.puts; firsts_after = all_written _ _ _ _ _ _ _ _ _ _ _ _ g le _ q _ _ _ _ c.put.ensures.puts }
