-- `hearing::hear_data` meets its contract. Assumes nothing.
use mathlib.Core.Path.{sym, ◌∙◌}
use Rattle.hearing.proofs.Answered.{refused_as}
use Rattle.hearing.proofs.Judged.{explained, all_before, all_from, same_outcome, packet_damaged, packet_judged, packet_with}
use Rattle.hearing.proofs.hear_data.Goals as goal

pub returns-then-is_damaged : goal.returns-then-is_damaged
returns-then-is_damaged c =
    refused_as _ _ (packet_damaged _ _ _ _ (sym c.is_damaged.ensures ∙ c.if-is_damaged.true)) c.refused.ensures

pub take_packet-answer-requires : goal.take_packet-answer-requires
take_packet-answer-requires c =
    let p = c.requires in
    record { cases = p.cases; none_before = rw c.whole-span.ensures (all_before _); none_from = rw c.whole-span.ensures (all_from _); sizes_value = explained _ _ (sym c.is_damaged.ensures ∙ c.if-is_damaged.false); e_bound = p.elapsed_bound }

pub returns : goal.returns
returns c =
    let p = c.requires in
    (same_outcome (packet_judged _ _ _ _ (sym c.is_damaged.ensures ∙ c.if-is_damaged.false) ∙ packet_with _ _ _ _ _ p.length_value) c.take_packet-answer.ensures)
