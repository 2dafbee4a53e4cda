-- `hearing::taking::take_packet` meets its contract. Assumes nothing.
use mathlib.Core.Path.{refl, sym, ◌∙◌}
use Rattle.hearing.proofs.Answered.{refused_as, taken_as, packet_other, packet_off_fact, packet_taken}
use native.Mathlib.Omega.{arith}
use Rattle.hearing.proofs.taking.take_packet.Goals as goal

pub returns-then-other_key : goal.returns-then-other_key
returns-then-other_key c = refused_as _ _ (packet_other _ _ _ _ (sym c.other_key.ensures ∙ c.if-other_key.true)) refl

pub packet_contradicts-requires : goal.packet_contradicts-requires
packet_contradicts-requires c =
    let p = c.requires in
    (omega arith, p.e_bound.0, omega (arith, p.e_bound.1))

pub returns-then-packet_contradicts : goal.returns-then-packet_contradicts
returns-then-packet_contradicts c =
    refused_as _ _
    (packet_off_fact _ _ _ _ (sym c.other_key.ensures ∙ c.if-other_key.false) (omega arith) (sym c.packet_contradicts.ensures ∙ c.if-packet_contradicts.true))
    refl

pub returns : goal.returns
returns c =
    taken_as _
    (packet_taken _ _ _ _ (sym c.other_key.ensures ∙ c.if-other_key.false) (omega arith) (sym c.packet_contradicts.ensures ∙ c.if-packet_contradicts.false))
    refl
