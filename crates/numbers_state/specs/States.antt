-- A sender as C and Rust keep it: a list of six numbers. Assumes nothing.
use Rattle.std.specs.Prelude.{ℕ, zero, suc, Bool, ◌||◌, List, [], ◌∷◌, length, get_or, ltb}
use Rattle.fields.specs.Choice.{◌when◌otherwise◌}
use Rattle.fields.specs.Runs.{front}
use Rattle.sender.specs.declared.Phase.{Phase}
use Rattle.sender.specs.declared.Phase.TheVariants.{Fresh, Open, Closed}
use Rattle.sender.specs.declared.Sender.{Sender}
use Rattle.numbers.specs.Widths.{widest}

-- "It is fresh, open or closed": 0, 1 or 2
abbrev pub phase_of : ℕ → Phase
phase_of zero = Fresh
phase_of (suc zero) = Open
phase_of (suc (suc n)) = Closed

-- and the number of a phase
abbrev pub phase_number : Phase → ℕ
phase_number Fresh = 0
phase_number Open = 1
phase_number Closed = 2

-- numbers that are no sender's: fewer than six, a phase above 2, or a stamp or a count of packets wider than 32 bits
unfoldable pub no_state : List ℕ → Bool
no_state ns = ltb (length ns) 6 || (ltb 2 (get_or ns 0 0) || (ltb widest (get_or ns 1 0) || (ltb widest (get_or ns 2 0) || ltb widest (get_or ns 4 0))))

-- the sender that stands for them: it is damaged, since its stamp is above 59,999
abbrev pub no_sender : Sender
no_sender =
    record { phase = Fresh; stamp = widest; number = record { 0 = 0 }; elapsed = record { 0 = 0 }; packets = record { 0 = 0 }; octets = record { 0 = 0 } }

-- phase, stamp, the sequence's packets and octets, the period's packets and octets
unfoldable pub sender_of : List ℕ → Sender
sender_of ns =
    no_sender when no_state ns otherwise
    record {
      phase = phase_of (get_or ns 0 0);
      stamp = get_or ns 1 0;
      number = record { 0 = get_or ns 2 0 };
      elapsed = record { 0 = get_or ns 3 0 };
      packets = record { 0 = get_or ns 4 0 };
      octets = record { 0 = get_or ns 5 0 };
    }

-- the six numbers of a sender
abbrev pub state_of : Sender → List ℕ
state_of s = phase_number s.phase ∷ s.stamp ∷ s.number.0 ∷ s.elapsed.0 ∷ s.packets.0 ∷ s.octets.0 ∷ []

-- a list that held old, with a sender's numbers in front where it has room for them
abbrev pub with_state : List ℕ → Sender → List ℕ
with_state old s = old when ltb (length old) 6 otherwise front old (state_of s)
