-- What each call of the sender answers, and the state after it (document 01, "The sender" and "Order when several apply").
-- A refused call leaves the state as it was. Assumes nothing.
use Rattle.std.specs.Prelude.{ℕ, ◌+◌, ◌≡◌, List, not, length, ltb, leb, Ok, Err}
use Rattle.units.specs.Limits.{last_stamp, most_payload, most_in_sequence, most_period_packets}
use Rattle.units.specs.Refusals.{number_of, found_of, worked_of}
use Rattle.units.specs.declared.refusals.Refusal.{Refusal}
use Rattle.fields.specs.Choice.{◌when◌otherwise◌}
use Rattle.frame.specs.Counts.{list_wrong}
use Rattle.frame.specs.Layout.{filled}
use Rattle.frame.specs.Sizes.{data_head, closing_size, lengths_head}
use Rattle.frame.specs.Paper.{written_paper, CountPaper}
use Rattle.frame.specs.Writing.{after}
use Rattle.sender.specs.declared.Phase.TheVariants.{Open, Closed}
use Rattle.sender.specs.declared.Sender.{Sender}
use Rattle.sender.specs.declared.Called.{Called}
use Rattle.sender.specs.Answers.{Dispatch, Turned, Turning}
use Rattle.sender.specs.State.{damaged, is_open, not_later, fresh_sender}
use Rattle.units.specs.declared.refusals.Refusal.TheVariants.{LengthsWrong, NoRoom, OutOfTurn, PayloadTooLong, PeriodFull, SenderDamaged, SequenceFull, StampNotLater, StampTooHigh}

-- the refusal's number and both checks, or zeros, and whether the turn was accepted
unfoldable pub turned_paper : Turned → CountPaper
turned_paper (Ok u) = record { number = 0; found = 0; worked = 0; accepted = 1; count = 0 }
turned_paper (Err r) = record { number = number_of r; found = found_of r; worked = worked_of r; accepted = 0; count = 0 }

-- a refused call: "all memory and state stay as before the call"
abbrev pub refused_call : {T : Type 0} → Sender → Refusal → Called T
refused_call s r = record { answer = Err r; sender = s }

-- within a sequence of a stamp; the counts are zero already, and the totals stay
abbrev pub begins : Sender → ℕ → Turning
begins s stamp =
    record {
      answer = Ok tt;
      sender = record { phase = Open; stamp = stamp; number = s.number; elapsed = s.elapsed; packets = s.packets; octets = s.octets };
    }

-- "Opening a sequence: 21, 15, 5, 16"
unfoldable pub open_call : Sender → ℕ → Turning
open_call s stamp =
    refused_call s SenderDamaged when damaged s otherwise
    refused_call s OutOfTurn when is_open s.phase otherwise
    refused_call s StampTooHigh when ltb last_stamp stamp otherwise
    refused_call s StampNotLater when not_later s.phase s stamp otherwise
    begins s stamp

-- "New period: 21, 15"; it "makes it fresh"
unfoldable pub renew_call : Sender → Turning
renew_call s =
    refused_call s SenderDamaged when damaged s otherwise
    refused_call s OutOfTurn when is_open s.phase otherwise
    record { answer = Ok tt; sender = fresh_sender }

-- one packet of l octets more, in the sequence and in the period
abbrev pub advanced : Sender → ℕ → Sender
advanced s l =
    record {
      phase = Open;
      stamp = s.stamp;
      number = record { 0 = s.number.0 + 1 };
      elapsed = record { 0 = s.elapsed.0 + l };
      packets = record { 0 = s.packets.0 + 1 };
      octets = record { 0 = s.octets.0 + l };
    }

-- data: 21, 15, 20, 17, 18, 12, document 01's order without 19, which no undamaged sender reaches (document 02, request 9; `never_reached`);
-- for a payload of l octets and a lent memory of room octets
unfoldable pub data_call : Sender → ℕ → ℕ → Dispatch
data_call s l room =
    refused_call s SenderDamaged when damaged s otherwise
    refused_call s OutOfTurn when not (is_open s.phase) otherwise
    refused_call s PayloadTooLong when ltb most_payload l otherwise
    refused_call s SequenceFull when leb most_in_sequence s.number.0 otherwise
    refused_call s PeriodFull when leb most_period_packets s.packets.0 otherwise
    refused_call s NoRoom when ltb room (data_head + l) otherwise
    record { answer = Ok (data_head + l); sender = advanced s l }

-- "Closing sets number and elapsed octets to zero and keeps stamp and totals"
abbrev pub closed_sender : Sender → Sender
closed_sender s =
    record { phase = Closed; stamp = s.stamp; number = record { 0 = 0 }; elapsed = record { 0 = 0 }; packets = s.packets; octets = s.octets }

-- "Closing: 21, 15, 22 for Type 3, 12", of Type 0
unfoldable pub close_call : Sender → ℕ → Dispatch
close_call s room =
    refused_call s SenderDamaged when damaged s otherwise
    refused_call s OutOfTurn when not (is_open s.phase) otherwise
    refused_call s NoRoom when ltb room closing_size otherwise
    record { answer = Ok closing_size; sender = closed_sender s }

-- the same of Type 3, with 22 before 12
unfoldable pub close_with_call : Sender → List ℕ → ℕ → Dispatch
close_with_call s ls room =
    refused_call s SenderDamaged when damaged s otherwise
    refused_call s OutOfTurn when not (is_open s.phase) otherwise
    refused_call s LengthsWrong when list_wrong ls s.number.0 s.elapsed.0 otherwise
    refused_call s NoRoom when ltb room (lengths_head + filled (length ls)) otherwise
    record { answer = Ok (lengths_head + filled (length ls)); sender = closed_sender s }

-- the promise of a call that writes nothing: r is as the definition t says
pub record Turns (t r : Turning) : Type 0 where
  pub says : turned_paper r.answer ≡ turned_paper t.answer
  pub next : r.sender ≡ t.sender

-- the promise of a call that writes a frame into a memory that held old
pub record Sends (t : Dispatch) (frame old : List ℕ) (r : Dispatch) (new : List ℕ) : Type 0 where
  pub says : written_paper r.answer ≡ written_paper t.answer
  pub next : r.sender ≡ t.sender
  pub leaves : new ≡ after t.answer frame old
