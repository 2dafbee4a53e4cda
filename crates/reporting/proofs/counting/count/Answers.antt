-- `reporting::counting::count` meets its contract. Assumes nothing.
use Rattle.reporting.proofs.CountedReport.{sound, heard_sent, octets_sent, report_is}
use Rattle.reporting.proofs.counting.count.Goals as goal

pub overflow_sub-result : goal.overflow_sub-result
overflow_sub-result c =
    let u = sound c.args.r.now.head _ _ _ c.args.r.now.matched c.requires.undamaged in
    let y = c.tally-t.ensures in
    heard_sent c.args.r.now.head _ _ _ u _ _ _ y.ended _ _ c.sent_packets-sent.ensures c.sent_octets-total.ensures _ _ (y.heard_is c.args.r.now.head) (y.octets_are c.args.r.now.head)

pub overflow_sub-result-2 : goal.overflow_sub-result-2
overflow_sub-result-2 c =
    let u = sound c.args.r.now.head _ _ _ c.args.r.now.matched c.requires.undamaged in
    let y = c.tally-t.ensures in
    octets_sent c.args.r.now.head _ _ _ u _ _ _ y.ended _ _ c.sent_packets-sent.ensures c.sent_octets-total.ensures _ _ (y.heard_is c.args.r.now.head) (y.octets_are c.args.r.now.head)

pub returns : goal.returns
returns c =
    let u = sound c.args.r.now.head _ _ _ c.args.r.now.matched c.requires.undamaged in
    let y = c.tally-t.ensures in
    report_is c.args.r.now.head _ _ _ u _ _ _ y.ended _ _ c.sent_packets-sent.ensures c.sent_octets-total.ensures _ _ (y.heard_is c.args.r.now.head) (y.octets_are c.args.r.now.head) _ c.gap_between.ensures.0
