-- The frames of one sequence, from its payloads (document 01, "Frame layouts": "a data PDU carries the count of data PDUs before it in
-- its sequence and the octets of their payloads"). Assumes nothing.
use Rattle.std.specs.Prelude.{ℕ, ◌+◌, List, [], ◌∷◌, length}
use Rattle.frame.specs.declared.ClosingPdu.{ClosingPdu}
use Rattle.frame.specs.Sizes.{data_head}
use Rattle.frame.specs.Writing.{data_frame}
use Rattle.sender.specs.declared.Phase.TheVariants.{Open}
use Rattle.sender.specs.declared.Sender.{Sender}
use Rattle.sender.specs.Calls.{data_call}

-- the data frames of the payloads ps, where n packets of e octets went before
unfoldable pub data_frames : ℕ → ℕ → ℕ → List (List ℕ) → List (List ℕ)
data_frames stamp n e [] = []
data_frames stamp n e (p ∷ ps) = data_frame stamp n e p ∷ data_frames stamp (n + 1) (e + length p) ps

-- how many payloads: "the count … of the whole sequence"
unfoldable pub count_of : List (List ℕ) → ℕ
count_of [] = 0
count_of (p ∷ ps) = 1 + count_of ps

-- and how many octets in all: "Headers and closing PDUs are not counted"
unfoldable pub octets_of : List (List ℕ) → ℕ
octets_of [] = 0
octets_of (p ∷ ps) = length p + octets_of ps

-- "A closing PDU carries the count and octets of the whole sequence, and the totals of the period, this sequence included"
abbrev pub closing_after : ℕ → ℕ → ℕ → List (List ℕ) → ClosingPdu
closing_after stamp packets octets ps =
    record {
      stamp = stamp;
      number = record { 0 = count_of ps };
      elapsed = record { 0 = octets_of ps };
      packets = record { 0 = packets + count_of ps };
      octets = record { 0 = octets + octets_of ps };
    }

-- the sender with the payloads ps added to its counts
unfoldable pub carried : Sender → List (List ℕ) → Sender
carried s ps =
    record {
      phase = Open;
      stamp = s.stamp;
      number = record { 0 = s.number.0 + count_of ps };
      elapsed = record { 0 = s.elapsed.0 + octets_of ps };
      packets = record { 0 = s.packets.0 + count_of ps };
      octets = record { 0 = s.octets.0 + octets_of ps };
    }

-- the sender after a data call for each payload, with room for each frame
unfoldable pub after_data : Sender → List (List ℕ) → Sender
after_data s [] = s
after_data s (p ∷ ps) = after_data (data_call s (length p) (data_head + length p)).sender ps

-- the frames that those calls write: each with the sender's own stamp and counts
unfoldable pub frames_by : Sender → List (List ℕ) → List (List ℕ)
frames_by s [] = []
frames_by s (p ∷ ps) =
    data_frame s.stamp s.number.0 s.elapsed.0 p ∷ frames_by (data_call s (length p) (data_head + length p)).sender ps
