-- `joining::join_undamaged` meets its contract. Assumes nothing.
use mathlib.Core.Path.{refl, sym, ◌∙◌}
use native.Mathlib.Omega.{arith}
use Rattle.reception.proofs.WhatHearingAdds.{sound_lists}
use Rattle.hearing.proofs.Judged.{explained, all_before, all_from}
use Rattle.joining.proofs.Answered.{contradicted_as, joined_as}
use Rattle.joining.proofs.Judged.{joinable, names_packet, names_closing, joins_both}
use Rattle.joining.proofs.BitsOfEither.{either_by_bits}
use Rattle.joining.proofs.join_undamaged.Goals as goal

pub invariant_of-inner : goal.invariant_of-inner
invariant_of-inner c =
    let p = c.requires in
    let j = joinable _ _ p.capacities p.left_undamaged p.right_undamaged p.same_key in
    record { matched = sound_lists _ j.left }

pub invariant_of-left : goal.invariant_of-left
invariant_of-left c =
    record {
      none_before = rw c.whole-span.ensures (all_before _);
      none_from = rw c.whole-span.ensures (all_from _);
      explained = explained _ _ c.requires.left_undamaged;
    }

pub lowest_off-k-requires : goal.lowest_off-k-requires
lowest_off-k-requires c =
    let p = c.requires in
    let j = joinable _ _ p.capacities p.left_undamaged p.right_undamaged p.same_key in
    j.long

pub overflow_cast-k : goal.overflow_cast-k
overflow_cast-k c =
    let p = c.requires in
    let j = joinable _ _ p.capacities p.left_undamaged p.right_undamaged p.same_key in
    let m = sound_lists _ j.left in
    omega (arith, c.if-k-left.true, m.room)

pub returns-then-k-left : goal.returns-then-k-left
returns-then-k-left c =
    let p = c.requires in
    let j = joinable _ _ p.capacities p.left_undamaged p.right_undamaged p.same_key in
    contradicted_as _ _ (names_packet _ _ j _ c.lowest_off-k.ensures c.if-k-left.true) c.refused.ensures

pub returns-then-right_closing_off : goal.returns-then-right_closing_off
returns-then-right_closing_off c =
    let p = c.requires in
    let j = joinable _ _ p.capacities p.left_undamaged p.right_undamaged p.same_key in
    contradicted_as _ _
    (names_closing _ _ j _ c.lowest_off-k.ensures c.if-k-left.false (sym c.right_closing_off.ensures ∙ c.if-right_closing_off.true))
    c.refused-then-right_closing_off.ensures

pub write_union-requires : goal.write_union-requires
write_union-requires c =
    let p = c.requires in
    let j = joinable _ _ p.capacities p.left_undamaged p.right_undamaged p.same_key in
    let t = joins_both _ _ j _ c.lowest_off-k.ensures c.if-k-left.false (sym c.right_closing_off.ensures ∙ c.if-right_closing_off.false) in
    record { cases = sound_lists _ j.left; marks_len = j.long; either_by_bits = either_by_bits _ _ j t }

pub returns : goal.returns
returns c =
    let p = c.requires in
    let j = joinable _ _ p.capacities p.left_undamaged p.right_undamaged p.same_key in
    let t = joins_both _ _ j _ c.lowest_off-k.ensures c.if-k-left.false (sym c.right_closing_off.ensures ∙ c.if-right_closing_off.false) in
    let z = c.write_union.ensures in
    joined_as _ t (rw c.joined_head.ensures refl) z.0 z.1 z.2
