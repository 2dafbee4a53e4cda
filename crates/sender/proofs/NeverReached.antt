-- Document 02, request 9: no undamaged sender reaches refusal 19, "octet total of the period would pass 2^40 - 1", and so document 01's
-- order of sending data with it and the order without it answer the same, whatever the sender, the payload and the room. Assumes nothing.
use Prim.Native.Nat.{ℕ, ◌+◌, ◌-◌, ◌^◌, ◌≤◌, ◌<◌}
use mathlib.Core.Path.{◌≡◌}
use mathlib.Core.Bool.{false, not}
use native.Mathlib.Omega.{arith}
use lib.Dec.{ltb, leb}
use borrow.Author.Tests.{le-ltb, ltb-false, leb-false}
use Rattle.units.specs.Limits.{most_payload, most_in_sequence, most_period_packets}
use Rattle.fields.specs.Choice.{◌when◌otherwise◌}
use Rattle.fields.proofs.Choosing.{same_test}
use Rattle.frame.specs.Sizes.{data_head}
use Rattle.sender.specs.declared.Sender.{Sender}
use Rattle.sender.specs.Answers.{Dispatch}
use Rattle.sender.specs.State.{damaged, is_open}
use Rattle.sender.specs.Calls.{advanced, data_call, refused_call}
use Rattle.sender.proofs.Undamaged.{undamaged, few_octets}
use Rattle.std.specs.Prelude.{Ok}
use Rattle.units.specs.declared.refusals.Refusal.TheVariants.{NoRoom, OutOfTurn, PayloadTooLong, PeriodFull, SenderDamaged, SequenceFull}

-- by the payload limit and the packet limit, the period's octets with one packet more still fit five octets
pub octets_fit : (s : Sender) (l : ℕ) → damaged s ≡ false → l ≤ most_payload → s.packets.0 < most_period_packets → s.octets.0 + l < 2 ^ 40
octets_fit s l w short packets = omega (arith, few_octets s (undamaged s w), short, packets)

-- document 01's order: "Data: 21, 15, 20, 17, 18, 19, 12", where `nineteen` is what 19 would answer and leave, whatever that is
unfoldable pub data_call_with19 : Dispatch → Sender → ℕ → ℕ → Dispatch
data_call_with19 nineteen s l room =
    refused_call s SenderDamaged when damaged s otherwise
    refused_call s OutOfTurn when not (is_open s.phase) otherwise
    refused_call s PayloadTooLong when ltb most_payload l otherwise
    refused_call s SequenceFull when leb most_in_sequence s.number.0 otherwise
    refused_call s PeriodFull when leb most_period_packets s.packets.0 otherwise
    nineteen when ltb (2 ^ 40 - 1) (s.octets.0 + l) otherwise
    refused_call s NoRoom when ltb room (data_head + l) otherwise
    record { answer = Ok (data_head + l); sender = advanced s l }

pub never_reached : (nineteen : Dispatch) (s : Sender) (l room : ℕ) → data_call_with19 nineteen s l room ≡ data_call s l room
unfolding data_call data_call_with19
never_reached nineteen s l room =
    same_test _ _ _ (damaged s)
    (λ w.
    same_test _ _ _ (not (is_open s.phase))
    (λ _.
    same_test _ _ _ (ltb most_payload l)
    (λ short.
    same_test _ _ _ (leb most_in_sequence s.number.0)
    (λ _.
    same_test _ _ _ (leb most_period_packets s.packets.0)
    (λ packets.
    let fit = octets_fit s l w (ltb-false most_payload l short) (leb-false most_period_packets s.packets.0 packets) in
    simp (le-ltb (2 ^ 40 - 1) (s.octets.0 + l) (omega (arith, fit))))))))
