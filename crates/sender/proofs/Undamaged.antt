-- What an undamaged sender's counts satisfy. Assumes nothing.
use Prim.Native.Nat.{◌*◌, ◌≤◌}
use mathlib.Core.Path.{◌≡◌}
use mathlib.Core.Bool.{false}
use native.Mathlib.Omega.{arith}
use lib.Dec.{ltb}
use borrow.Author.Tests.{ltb-false}
use Rattle.units.specs.Limits.{last_stamp, most_payload, most_in_sequence, most_period_packets}
use Rattle.frame.specs.Counts.{closing_wrong}
use Rattle.frame.proofs.Said.{Possible, closing_right}
use Rattle.fields.proofs.Tests.{or_false}
use Rattle.sender.specs.declared.Sender.{Sender}
use Rattle.sender.specs.State.{damaged, rest_wrong, closing_by}

pub record Undamaged (s : Sender) : Type 0 where
  pub stamp : s.stamp ≤ last_stamp
  pub number : s.number.0 ≤ most_in_sequence
  pub packets : s.packets.0 ≤ most_period_packets
  pub counts : closing_wrong (closing_by s) ≡ false
  pub possible : Possible (closing_by s)
  pub rest : rest_wrong s.phase s ≡ false

pub undamaged : (s : Sender) → damaged s ≡ false → Undamaged s
unfolding damaged
undamaged s w =
    let p1 = or_false (ltb last_stamp s.stamp) _ w in
    let p2 = or_false (ltb most_in_sequence s.number.0) _ p1.1 in
    let p3 = or_false (ltb most_period_packets s.packets.0) _ p2.1 in
    let p4 = or_false (closing_wrong (closing_by s)) (rest_wrong s.phase s) p3.1 in
    record {
      stamp = ltb-false last_stamp s.stamp p1.0;
      number = ltb-false most_in_sequence s.number.0 p2.0;
      packets = ltb-false most_period_packets s.packets.0 p3.0;
      counts = p4.0;
      possible = closing_right (closing_by s) p4.0;
      rest = p4.1;
    }

-- the period has at most 4,095 octets for each of its packets
pub few_octets : (s : Sender) → Undamaged s → s.octets.0 ≤ most_payload * s.packets.0
few_octets s u =
    let p = u.possible in
    omega (arith, p.elapsed, p.packets, p.octets, p.others)
