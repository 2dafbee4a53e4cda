-- The state of a sender, and when it is damaged (document 01, "The sender"). Assumes nothing.
use Rattle.std.specs.Prelude.{ℕ, Bool, true, false, not, ◌||◌, ltb, leb, eqb}
use Rattle.units.specs.Limits.{last_stamp, most_in_sequence, most_period_packets}
use Rattle.frame.specs.declared.ClosingPdu.{ClosingPdu}
use Rattle.frame.specs.Counts.{some_of, closing_wrong}
use Rattle.sender.specs.declared.Phase.{Phase}
use Rattle.sender.specs.declared.Phase.TheVariants.{Fresh, Open, Closed}
use Rattle.sender.specs.declared.Sender.{Sender}

-- "It is fresh, open or closed"
abbrev pub is_open : Phase → Bool
is_open Fresh = false
is_open Open = true
is_open Closed = false

-- "when closed, number or elapsed not zero; when fresh, anything not zero"
abbrev pub rest_wrong : Phase → Sender → Bool
rest_wrong Open s = false
rest_wrong Closed s = some_of s.number.0 s.elapsed.0
rest_wrong Fresh s = not (eqb s.stamp 0) || (some_of s.number.0 s.elapsed.0 || some_of s.packets.0 s.octets.0)

-- what the sender's closing PDU says: "the count and octets of the whole sequence, and the totals of the period"
abbrev pub closing_by : Sender → ClosingPdu
closing_by s = record { stamp = s.stamp; number = s.number; elapsed = s.elapsed; packets = s.packets; octets = s.octets }

-- "The state is damaged exactly if": stamp above 59,999; number above 65,535; total packets above 16,777,215; the counts are
-- impossible in a closing PDU ("number above total packets; elapsed above 4,095 x number or above total octets; total octets -
-- elapsed above 4,095 x (total packets - number)"); or what the phase asks is not so
unfoldable pub damaged : Sender → Bool
damaged s =
    ltb last_stamp s.stamp
    || (ltb most_in_sequence s.number.0
    || (ltb most_period_packets s.packets.0
    || (closing_wrong (closing_by s)
    || rest_wrong s.phase s)))

-- a fresh sender: every number is zero
abbrev pub fresh_sender : Sender
fresh_sender =
    record { phase = Fresh; stamp = 0; number = record { 0 = 0 }; elapsed = record { 0 = 0 }; packets = record { 0 = 0 }; octets = record { 0 = 0 } }

-- refusal 16, "stamp not later than the last one of this period"; a fresh sender has none
abbrev pub not_later : Phase → Sender → ℕ → Bool
not_later Closed s stamp = leb stamp s.stamp
not_later Fresh s stamp = false
not_later Open s stamp = false
