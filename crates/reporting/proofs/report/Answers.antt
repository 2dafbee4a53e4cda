-- `reporting::report` meets its contract. Assumes nothing.
use mathlib.Core.Path.{refl, sym, ap, ◌∙◌}
use native.Mathlib.Omega.{arith}
use Rattle.std.specs.Prelude.{Ok}
use Rattle.reception.proofs.KeptAsHeld.{lists_matched}
use Rattle.reception.proofs.ReportSaid.{report_unmatched, report_damaged, report_no_room, report_done}
use Rattle.damage.proofs.JudgedCounted.{judged_none, judged_some}
use Rattle.reporting.proofs.CountedReport.{sound, sent_is, gaps_are, missing_sent, report_with_fact}
use Rattle.reporting.proofs.Answered.{refused_as, done_as, too_many, few_enough, room_for}
use Rattle.reporting.proofs.report.Goals as goal

pub returns-then-lists_differ : goal.returns-then-lists_differ
returns-then-lists_differ c =
    refused_as _ _ _ _ _ (report_unmatched _ _ (sym c.lists_differ.ensures ∙ c.if-lists_differ.true)) refl

pub invariant_of-r : goal.invariant_of-r
invariant_of-r c = record { matched = lists_matched _ _ _ (sym c.lists_differ.ensures ∙ c.if-lists_differ.false) }

pub returns-in_default : goal.returns-in_default
returns-in_default c =
    refused_as _ _ _ _ _
    (report_damaged _ _ (sym c.lists_differ.ensures ∙ c.if-lists_differ.false) (judged_none c.in_default.is c.judge.ensures))
    refl

pub overflow_add-gaps : goal.overflow_add-gaps
overflow_add-gaps c =
    let a = c.args in
    let m = lists_matched a.marks.now a.elapsed.now a.sizes.now (sym c.lists_differ.ensures ∙ c.if-lists_differ.false) in
    let y = (judged_some _ c.in-Some.is c.judge.ensures).1 in
    omega (arith, m.room, y.gaps_few, c.gap_between.ensures.1)

pub returns-then-min-gaps : goal.returns-then-min-gaps
returns-then-min-gaps c =
    let a = c.args in
    let m = lists_matched a.marks.now a.elapsed.now a.sizes.now (sym c.lists_differ.ensures ∙ c.if-lists_differ.false) in
    let q = judged_some _ c.in-Some.is c.judge.ensures in
    let d = q.0 in
    let x = sound a.h _ _ _ m d in
    let y = q.1 in
    refused_as _ _ _ _ _
    (report_no_room _ _ (record { matched = sym c.lists_differ.ensures ∙ c.if-lists_differ.false; undamaged = d })
    (too_many _ a.firsts.now a.counts.now a.octets.now _ _ c.min.ensures c.min-2.ensures _
    (gaps_are a.h _ _ _ x _ _ _ y _ _ c.sent_packets-sent.ensures c.sent_octets-total.ensures _ c.gap_between.ensures.0) c.if-min-gaps.true))
    refl

pub write_gaps-missing-requires : goal.write_gaps-missing-requires
write_gaps-missing-requires c =
    let a = c.args in
    let m = lists_matched a.marks.now a.elapsed.now a.sizes.now (sym c.lists_differ.ensures ∙ c.if-lists_differ.false) in
    let q = judged_some _ c.in-Some.is c.judge.ensures in
    let d = q.0 in
    let x = sound a.h _ _ _ m d in
    let y = q.1 in
    let i = gaps_are a.h _ _ _ x _ _ _ y _ _ c.sent_packets-sent.ensures c.sent_octets-total.ensures _ c.gap_between.ensures.0 in record { undamaged = d; n_value = sent_is a.h _ _ _ x _ _ _ y _ _ c.sent_packets-sent.ensures c.sent_octets-total.ensures; room = room_for _ _ _ _ _ _ c.min.ensures c.min-2.ensures _ i c.if-min-gaps.false }

pub made-requires : goal.made-requires
made-requires c =
    let a = c.args in
    let m = lists_matched a.marks.now a.elapsed.now a.sizes.now (sym c.lists_differ.ensures ∙ c.if-lists_differ.false) in
    let q = judged_some _ c.in-Some.is c.judge.ensures in
    let d = q.0 in
    let x = sound a.h _ _ _ m d in
    let y = q.1 in
    missing_sent a.h _ _ _ x _ _ _ y _ _ c.sent_packets-sent.ensures c.sent_octets-total.ensures c.write_gaps-missing.result c.write_gaps-missing.ensures.packets_value.0 c.write_gaps-missing.ensures.packets_value.1

pub shape_of-firsts : goal.shape_of-firsts
shape_of-firsts c = c.write_gaps-missing.auto.firsts

pub shape_of-counts : goal.shape_of-counts
shape_of-counts c = c.write_gaps-missing.auto.counts

pub shape_of-octets : goal.shape_of-octets
shape_of-octets c = c.write_gaps-missing.auto.octets

pub returns : goal.returns
returns c =
    let a = c.args in
    let m = lists_matched a.marks.now a.elapsed.now a.sizes.now (sym c.lists_differ.ensures ∙ c.if-lists_differ.false) in
    let q = judged_some _ c.in-Some.is c.judge.ensures in
    let d = q.0 in
    let x = sound a.h _ _ _ m d in
    let y = q.1 in
    let i = gaps_are a.h _ _ _ x _ _ _ y _ _ c.sent_packets-sent.ensures c.sent_octets-total.ensures _ c.gap_between.ensures.0 in
    let z = report_with_fact a.h _ _ _ x _ _ _ y _ _ c.sent_packets-sent.ensures c.sent_octets-total.ensures c.write_gaps-missing.result c.write_gaps-missing.ensures.packets_value.0 c.write_gaps-missing.ensures.packets_value.1 _ i in
    done_as _ _ _ _
    (report_done _ _ (record { matched = sym c.lists_differ.ensures ∙ c.if-lists_differ.false; undamaged = d })
    (few_enough _ a.firsts.now a.counts.now a.octets.now _ _ c.min.ensures c.min-2.ensures _ i c.if-min-gaps.false))
    (ap Ok (c.made.ensures ∙ z)) c.write_gaps-missing.ensures.firsts_after.0 c.write_gaps-missing.ensures.firsts_after.1 c.write_gaps-missing.ensures.firsts_after.2
