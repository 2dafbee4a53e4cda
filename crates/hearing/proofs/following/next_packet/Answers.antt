-- `hearing::following::next_packet` meets its contract. Assumes nothing.
use Rattle.hearing.proofs.Judged.{explained, packet_with}
use Rattle.hearing.proofs.SpanKept.{follows_packet, same_follows}
use native.Mathlib.Omega.{arith}
use Rattle.hearing.proofs.following.next_packet.Goals as goal

pub take_packet-answer-requires : goal.take_packet-answer-requires
take_packet-answer-requires c =
    let p = c.requires in
    record { cases = p.cases; none_before = p.none_before; none_from = p.none_from; sizes_value = explained _ _ p.sizes_value; e_bound = (p.number_bound.1, p.number_bound.2) }

pub follow-requires : goal.follow-requires
follow-requires c =
    let p = c.requires in
    omega (arith, p.number_bound.0)

pub returns : goal.returns
returns c =
    let p = c.requires in
    rw c.follow.ensures
    (same_follows (packet_with _ _ _ _ _ p.number_bound.3) (follows_packet _ _ _ _ _ _ _ _ _ c.take_packet-answer.ensures p.none_before p.none_from))
