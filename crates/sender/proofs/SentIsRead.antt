-- Demand 2 through the sender: a frame that a call was accepted for is read back with exactly the sender's stamp and counts, the
-- length of what the rule keeps of the payload, and the totals. Assumes nothing.
use Prim.Native.Nat.{ℕ}
use mathlib.Core.Path.{◌≡◌, refl, sym, ap, ◌∙◌}
use mathlib.Core.List.{List}
use lib.ListN.{length, take}
use Rattle.frame.specs.declared.Read.TheVariants.{Closing, Data, ClosingWithLengths}
use Rattle.frame.specs.Answers.{Written}
use Rattle.frame.specs.Layout.{data_pdu, lengths_of}
use Rattle.frame.specs.Payloads.{payload_kept, AllPayload}
use Rattle.frame.specs.Reading.{read_frame}
use Rattle.frame.specs.Writing.{data_frame, closing_frame, lengths_frame, after, write_lengths}
use Rattle.frame.proofs.WhatWentIn.{data_went_in, closing_went_in, lengths_went_in}
use Rattle.sender.specs.declared.Sender.{Sender}
use Rattle.sender.specs.Answers.{Dispatch}
use Rattle.sender.specs.State.{closing_by}
use Rattle.sender.specs.Calls.{data_call, close_call, close_with_call}
use Rattle.sender.proofs.RefusedOrAccepted.{data_goes, close_goes, close_with_goes}
use Rattle.sender.proofs.Undamaged.{undamaged}
use Rattle.sender.proofs.Written.{data_written, closing_written, lengths_closed, closed_by}
use Rattle.std.specs.Prelude.{Ok, Err}

module _ (s : Sender) (room k : ℕ) (old : List ℕ) where
  pub data_sent : (p : List ℕ) → (data_call s (length p) room).answer ≡ Ok k
      → read_frame (take k (after (Ok k) (data_frame s.stamp s.number.0 s.elapsed.0 p) old))
      ≡ Data (data_pdu s.stamp s.number.0 s.elapsed.0 (payload_kept p))
  data_sent p e =
      let q = data_goes s (length p) room k e in
      let g = q.0 in
      data_went_in s.stamp s.number.0 s.elapsed.0 room k p old
      (data_written s (undamaged s g.whole) (length p) room g.number g.short g.fits ∙ ap Ok q.1)

  -- where the rule drops nothing from the payload, with its own length
  pub data_sent_whole : (p : List ℕ) → AllPayload p → (data_call s (length p) room).answer ≡ Ok k
      → read_frame (take k (after (Ok k) (data_frame s.stamp s.number.0 s.elapsed.0 p) old))
      ≡ Data (data_pdu s.stamp s.number.0 s.elapsed.0 (length p))
  data_sent_whole p all e = data_sent p e ∙ rw all

  pub closing_sent : (close_call s room).answer ≡ Ok k → read_frame (take k (after (Ok k) (closing_frame (closing_by s)) old)) ≡ Closing (closing_by s)
  closing_sent e =
      let q = close_goes s room k e in
      let g = q.0 in
      closing_went_in (closing_by s) room k old (closing_written s (undamaged s g.whole) room g.fits ∙ ap Ok q.1)

  answer_of : (w : Written) → (closed_by s w).answer ≡ w
  answer_of (Ok n) = refl
  answer_of (Err r) = refl

  pub lengths_sent : (ls : List ℕ) → (close_with_call s ls room).answer ≡ Ok k
      → (read_frame (take k (after (Ok k) (lengths_frame (closing_by s) ls) old)) ≡ ClosingWithLengths (closing_by s))
      × (lengths_of (take k (after (Ok k) (lengths_frame (closing_by s) ls) old)) 0 s.number.0 ≡ ls)
  lengths_sent ls e =
      let g = (close_with_goes s ls room k e).0 in
      let f = lengths_closed s (undamaged s g.whole) g.whole g.turn ls room in
      let w : write_lengths (closing_by s) ls room ≡ Ok k = sym (answer_of (write_lengths (closing_by s) ls room)) ∙ ap (λ (x : Dispatch). x.answer) (sym f) ∙ e in
      lengths_went_in (closing_by s) ls room k old w
