-- Demand 2 as one sentence for each writer: where writing is accepted, the octets that it wrote are read back as what went in.
-- Assumes nothing.
use Prim.Native.Nat.{ℕ, ◌+◌, ◌≤◌}
use mathlib.Core.Path.{◌≡◌, refl, ap, ◌∙◌}
use mathlib.Core.List.{List}
use mathlib.Core.Bool.{false}
use native.Mathlib.Omega.{arith}
use lib.ListN.{length, take}
use lib.Dec.{ltb}
use borrow.Author.Tests.{ltb-false}
use Rattle.units.specs.Limits.{most_payload, last_stamp}
use Rattle.fields.specs.Numbers.{octets}
use Rattle.fields.proofs.Choosing.{past}
use Rattle.fields.proofs.Laying.{take_front}
use Rattle.frame.specs.declared.ClosingPdu.{ClosingPdu}
use Rattle.frame.specs.declared.Read.TheVariants.{Closing, Data, ClosingWithLengths}
use Rattle.frame.specs.Layout.{payload_part, data_pdu, filled, lengths_of}
use Rattle.frame.specs.Payloads.{payload_kept, AllPayload}
use Rattle.frame.specs.Counts.{data_wrong, given_wrong, list_wrong}
use Rattle.frame.specs.Reading.{read_frame}
use Rattle.frame.specs.Writing.{data_frame, closing_frame, lengths_frame, refuse_write, write_data, write_closing, write_lengths, after}
use Rattle.frame.proofs.Fitting.{given_fits, length_packed}
use Rattle.frame.proofs.LengthsBack.{lengths_back, list_back}
use Rattle.frame.proofs.Payloads.{payload_most}
use Rattle.frame.proofs.ReadBack.{part_back, data_back, closing_back}
use Rattle.frame.specs.Answers.{Written}
use Rattle.std.specs.Prelude.{Ok}
use Rattle.units.specs.declared.refusals.Refusal.{Refusal}
use Rattle.units.specs.declared.refusals.Refusal.TheVariants.{CountsImpossible, LengthsWrong, NoRoom, PayloadTooLong, StampTooHigh}

-- how many octets each frame has
pub data_length : (stamp n e : ℕ) (p : List ℕ) → length (data_frame stamp n e p) ≡ 11 + length p
unfolding octets data_frame
data_length stamp n e p = omega arith

pub closing_length : (c : ClosingPdu) → length (closing_frame c) ≡ 18
unfolding octets closing_frame
closing_length c = refl

pub lengths_length : (c : ClosingPdu) (ls : List ℕ) → length (lengths_frame c ls) ≡ 19 + filled (length ls)
unfolding octets lengths_frame
lengths_length c ls = omega (arith, length_packed ls)

-- what stands in the first octets of the memory is the frame
written_in_front : (frame old : List ℕ) (k : ℕ) → length frame ≡ k → take k (after (Ok k) frame old) ≡ frame
unfolding after
written_in_front frame old k e = take_front old frame k e

done : {m k : ℕ} → ◌≡◌ {A = Written} (Ok m) (Ok k) → m ≡ k
done e = cc

no_refusal : (k : ℕ) (r : Refusal) → refuse_write r ≡ Ok k → ⊥
no_refusal k r e =
    let z : ◌≡◌ {A = ℕ} 0 1 = cc in
    omega arith

-- Type 1
module _ (stamp n e room k : ℕ) (p old : List ℕ) (h : write_data stamp n e (length p) room ≡ Ok k) where
  pub record Accepted-data : Type 0 where
    pub stamped : stamp ≤ last_stamp
    pub short : length p ≤ most_payload
    pub counted : data_wrong n e ≡ false
    pub size : 11 + length p ≡ k

  data_accepted : Accepted-data
  unfolding write_data
  data_accepted =
      let p1 = past (refuse_write StampTooHigh) _ (Ok k) (ltb last_stamp stamp) (no_refusal k StampTooHigh) h in
      let p2 = past (refuse_write PayloadTooLong) _ (Ok k) (ltb most_payload (length p)) (no_refusal k PayloadTooLong) p1.1 in
      let p3 = past (refuse_write CountsImpossible) _ (Ok k) (data_wrong n e) (no_refusal k CountsImpossible) p2.1 in
      let p4 = past (refuse_write NoRoom) (Ok (11 + length p)) (Ok k) (ltb room (11 + length p)) (no_refusal k NoRoom) p3.1 in
      record { stamped = ltb-false last_stamp stamp p1.0; short = ltb-false most_payload (length p) p2.0; counted = p3.0; size = done p4.1 }

  pub data_went_in : read_frame (take k (after (Ok k) (data_frame stamp n e p) old))
      ≡ Data (data_pdu stamp n e (payload_kept p))
  data_went_in =
      let a = data_accepted in
      ap read_frame (written_in_front (data_frame stamp n e p) old k (data_length stamp n e p ∙ a.size))
      ∙ data_back stamp n e p a.stamped (let m = payload_most p in let z = a.short in omega (arith, m, z)) a.counted

  -- with the payload's own length, where the rule drops nothing from it
  pub data_went_in_whole : AllPayload p → read_frame (take k (after (Ok k) (data_frame stamp n e p) old))
      ≡ Data (data_pdu stamp n e (length p))
  data_went_in_whole all = data_went_in ∙ rw all

  -- and all of the payload stands there, also what is dropped when it is read
  pub data_there : payload_part 9 (take k (after (Ok k) (data_frame stamp n e p) old)) ≡ p
  data_there =
      ap (payload_part 9) (written_in_front (data_frame stamp n e p) old k (data_length stamp n e p ∙ data_accepted.size)) ∙ part_back stamp n e p

-- Type 0
module _ (c : ClosingPdu) (room k : ℕ) (old : List ℕ) (h : write_closing c room ≡ Ok k) where
  pub closing_went_in : read_frame (take k (after (Ok k) (closing_frame c) old)) ≡ Closing c
  unfolding write_closing
  closing_went_in =
      let p1 = past (refuse_write StampTooHigh) _ (Ok k) (ltb last_stamp c.stamp) (no_refusal k StampTooHigh) h in
      let p2 = past (refuse_write CountsImpossible) _ (Ok k) (given_wrong c) (no_refusal k CountsImpossible) p1.1 in
      let p3 = past (refuse_write NoRoom) (Ok 18) (Ok k) (ltb room 18) (no_refusal k NoRoom) p2.1 in
      ap read_frame (written_in_front (closing_frame c) old k (closing_length c ∙ done p3.1))
      ∙ closing_back c (ltb-false last_stamp c.stamp p1.0) (given_fits c p2.0)

-- Type 3, and each of its lengths
module _ (c : ClosingPdu) (ls : List ℕ) (room k : ℕ) (old : List ℕ) (h : write_lengths c ls room ≡ Ok k) where
  pub lengths_went_in : (read_frame (take k (after (Ok k) (lengths_frame c ls) old)) ≡ ClosingWithLengths c)
      × (lengths_of (take k (after (Ok k) (lengths_frame c ls) old)) 0 c.number.0 ≡ ls)
  unfolding write_lengths
  lengths_went_in =
      let p1 = past (refuse_write StampTooHigh) _ (Ok k) (ltb last_stamp c.stamp) (no_refusal k StampTooHigh) h in
      let p2 = past (refuse_write CountsImpossible) _ (Ok k) (given_wrong c) (no_refusal k CountsImpossible) p1.1 in
      let p3 = past (refuse_write LengthsWrong) _ (Ok k) (list_wrong ls c.number.0 c.elapsed.0) (no_refusal k LengthsWrong) p2.1 in
      let p4 = past (refuse_write NoRoom) (Ok (19 + filled (length ls))) (Ok k) (ltb room (19 + filled (length ls))) (no_refusal k NoRoom) p3.1 in
      let st = ltb-false last_stamp c.stamp p1.0 in
      let f = given_fits c p2.0 in
      let e = written_in_front (lengths_frame c ls) old k (lengths_length c ls ∙ done p4.1) in
      (ap read_frame e ∙ lengths_back c ls st f p3.0, ap (λ (s : List ℕ). lengths_of s 0 c.number.0) e ∙ list_back c ls st f p3.0)
