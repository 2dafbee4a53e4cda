-- Demand 2 holds. Assumes nothing.
use Prim.Native.Nat.{ℕ, zero, suc, ◌+◌, ◌%◌, ◌≤◌, ◌<◌}
use native.Mathlib.Omega.{arith}
use mathlib.Core.Path.{◌≡◌, refl, sym, ap, ap₂, subst, ◌∙◌}
use mathlib.Core.Logic.{◌⊎◌, inl, inr, ⊎_elim}
use mathlib.Core.Bool.{false}
use mathlib.Core.List.{List}
use lib.ListN.{length, get_or, take, drop, length-drop}
use lib.Seq.{take-length}
use borrow.Author.Tests.{lt-ltb}
use Rattle.units.specs.declared.refusals.Refusal.{Refusal}
use Rattle.units.specs.Limits.{last_stamp, most_payload}
use Rattle.fields.specs.Runs.{front}
use Rattle.fields.proofs.Tests.{or_false}
use Rattle.checks.specs.Check.{payload_check}
use Rattle.frame.specs.declared.ClosingPdu.{ClosingPdu}
use Rattle.frame.specs.declared.DataPdu.{DataPdu}
use Rattle.frame.specs.declared.Read.{Read}
use Rattle.frame.specs.declared.Read.TheVariants.{Closing, Data, ClosingWithLengths, Refused}
use Rattle.frame.specs.Answers.{Written}
use Rattle.frame.specs.Counts.{closing_wrong, lengths_wrong}
use Rattle.frame.specs.Layout.{type_of, stamp_of, control, payload_check_in, payload_part, payload_length, data_pdu, filled, lengths_of, closing_of}
use Rattle.frame.specs.Paper.{read_paper}
use Rattle.frame.specs.Payloads.{payload_kept, AllPayload, Extended}
use Rattle.frame.specs.Reading.{refuse, header_wrong, check_wrong, said, read_frame}
use Rattle.frame.specs.Writing.{write_data, write_closing, write_lengths, data_frame, closing_frame, lengths_frame, after}
use Rattle.frame.proofs.Accepted.{good_read, read_closing, read_with_lengths}
use Rattle.frame.proofs.OnePaper.{read_known, written_known}
use Rattle.frame.proofs.ChecksTold.{size_refused}
use Rattle.frame.proofs.Payloads.{only_dropped, always_dropped}
use Rattle.frame.proofs.ReadBack.{extended_back}
use Rattle.frame.proofs.Said.{data_said, closing_said, lengths_said}
use Rattle.frame.proofs.WhatWentIn.{data_went_in, data_there, closing_went_in, lengths_went_in}
use Rattle.frame.proofs.WrittenAgain.{Plain, equal, data_again, closing_again, lengths_again}
use Rattle.writer.specs.Promise.{Wrote}
use Rattle.demands.specs.Demand2.{ReadAs, BothChecks, SpareZero, Demand2}
use Rattle.demands.proofs.AcceptedAgain.{lengths_long, data_writable, closing_writable, lengths_writable, list_writable}
use Rattle.std.specs.Prelude.{Ok}
use Rattle.units.specs.declared.refusals.Refusal.TheVariants.{SizeWrong}

-- an accepted answer is no refusal
not_refused : (r : Read) → ((read_paper r).kind ≡ 0 → ⊥) → (x : Refusal) → Refused x ≡ r → ⊥
unfolding read_paper
not_refused r h y e = h (sym (ap (λ (x : Read). (read_paper x).kind) e))

payload_right : (t : ℕ) (s : List ℕ) → check_wrong t s ≡ false → (t ≡ 0 → ⊥) → payload_check (payload_part (control t) s) ≡ payload_check_in (control t) s
payload_right zero s e h = absurd (h refl)
payload_right (suc zero) s e h = equal _ _ e
payload_right (suc (suc t)) s e h = equal _ _ e

checked : (s : List ℕ) (r : Read) → ReadAs s r → ((read_paper r).kind ≡ 0 → ⊥) → BothChecks s × (r ≡ said (type_of s) s)
checked s r e h =
    let g = good_read s r (not_refused r h) (sym (read_known r (read_frame s) e)) in (
      record { header = equal _ _ g.0.headed; payload = payload_right (type_of s) s g.0.checked },
      sym g.1,
    )

-- what an accepted writing leaves
module _ (a : Written) (frame old : List ℕ) (k : ℕ) (new : List ℕ) (w : Wrote a frame old (Ok k) new) where
  done_is : a ≡ Ok k
  done_is = sym (written_known (Ok k) a w.says)

  left_is : new ≡ after (Ok k) frame old
  left_is = w.leaves ∙ ap (λ (x : Written). after x frame old) done_is

read_of : (s t : List ℕ) (r x : Read) → ReadAs s r → s ≡ t → read_frame t ≡ x → r ≡ x
read_of s t r x e q h = read_known r (read_frame s) e ∙ ap read_frame q ∙ h

data_back_written : (stamp n e : ℕ) (p old : List ℕ) (k : ℕ) (new : List ℕ) (r : Read)
    → Wrote (write_data stamp n e (length p) (length old)) (data_frame stamp n e p) old (Ok k) new → ReadAs (take k new) r
    → (r ≡ Data (data_pdu stamp n e (payload_kept p))) × (drop 11 (take k new) ≡ p)
data_back_written stamp n e p old k new r w h =
    let q = ap (take k) (left_is _ _ old k new w) in
    let d = done_is _ _ old k new w in
    (read_of _ _ r _ h q (data_went_in stamp n e (length old) k p old d), ap (drop 11) q ∙ data_there stamp n e (length old) k p old d)

-- what writing again leaves
again : (a : Written) (frame old : List ℕ) (k : ℕ) (r : Written) (new s : List ℕ) → Wrote a frame old r new → a ≡ Ok k → k ≡ length s → frame ≡ s
    → (r ≡ Ok (length s)) × (new ≡ front old s)
unfolding after
again a frame old k r new s w e n f = (
  written_known r a w.says ∙ e ∙ ap Ok n,
  w.leaves ∙ ap (λ (x : Written). after x frame old) e ∙ ap (front old) f,
)

plain : (s : List ℕ) → SpareZero s → Plain s
plain s z = record { octet = z.octet; spare = z.spare }

read_as : (s : List ℕ) (x : Read) → ReadAs s x → read_frame s ≡ x
read_as s x e = sym (read_known x (read_frame s) e)

-- the length that a data PDU says
length_said : (s : List ℕ) (d : DataPdu) → ReadAs s (Data d) → d.length.0 ≡ payload_length s
length_said s d e = ap (λ (y : DataPdu). y.length.0) (data_said s d (read_as s (Data d) e)).fields

nothing_else_dropped : (s : List ℕ) (d : DataPdu) → ReadAs s (Data d) → (length s ≡ 11 + d.length.0) ⊎ Extended (drop 11 s) d.length.0
nothing_else_dropped s d e =
    let l = length_said s d e in
    let n = length-drop 11 s in
    let m = (data_said s d (read_as s (Data d) e)).least in
    ⊎_elim
    (λ (all : AllPayload (drop 11 s)). inl (omega (arith, all, l, m, n)))
    (λ (x : Extended (drop 11 s) (payload_length s)). inr (rw l x))
    (only_dropped (drop 11 s))

too_long_refused : (s : List ℕ) (r : Read) → type_of s ≡ 1 → 11 ≤ length s → header_wrong 9 s ≡ false → stamp_of s ≤ last_stamp
    → most_payload < payload_length s → ReadAs s r → r ≡ refuse SizeWrong
too_long_refused s r one long h st big e =
    read_known r (read_frame s) e
    ∙ size_refused s (λ two. omega (arith, one, two)) (omega (arith, one)) (rw one long) (rw one h) st (rw one (lt-ltb most_payload (payload_length s) big))

closing_again_written : (s : List ℕ) (c : ClosingPdu) (old : List ℕ) (r : Written) (new : List ℕ) → SpareZero s → get_or s 17 0 % 4 ≡ 0
    → ReadAs s (Closing c) → length s ≤ length old → Wrote (write_closing c (length old)) (closing_frame c) old r new → (r ≡ Ok (length s)) × (new ≡ front old s)
closing_again_written s c old r new z pad e fits w =
    let x = read_as s (Closing c) e in
    let g = read_closing s c x in
    let l : length s ≡ 18 = equal (length s) 18 (rw g.1 at g.0.sized) in
    let right : closing_wrong c ≡ false = subst (λ (y : ClosingPdu). closing_wrong y ≡ false) g.2 (rw g.1 at g.0.counted) in
    again _ _ old 18 r new s w (closing_writable s c z.octet (closing_said s c z.octet x) right (length old) (omega (arith, l, fits))) (sym l)
    (closing_again s c (plain s z) pad x)

lengths_again_written : (s : List ℕ) (c : ClosingPdu) (old : List ℕ) (r : Written) (new : List ℕ) → SpareZero s → length s ≡ 19 + filled c.number.0
    → (c.number.0 % 2 ≡ 1 → get_or s (18 + filled c.number.0) 0 % 16 ≡ 0) → ReadAs s (ClosingWithLengths c) → length s ≤ length old
    → Wrote (write_lengths c (lengths_of s 0 c.number.0) (length old)) (lengths_frame c (lengths_of s 0 c.number.0)) old r new
    → (r ≡ Ok (length s)) × (new ≡ front old s)
unfolding lengths_wrong
lengths_again_written s c old r new z l pad e fits w =
    let x = read_as s (ClosingWithLengths c) e in
    let g = read_with_lengths s c x in
    let counted : lengths_wrong s (closing_of s) ≡ false = rw g.1 at g.0.counted in
    let right : closing_wrong c ≡ false = subst (λ (y : ClosingPdu). closing_wrong y ≡ false) g.2 (or_false (closing_wrong (closing_of s)) _ counted).0 in
    let h = lengths_said s c z.octet x in
    let n = ap filled (lengths_long s 0 c.number.0) in
    again _ _ old (19 + filled (length (lengths_of s 0 c.number.0))) r new s w
    (lengths_writable s c z.octet h.closing right (lengths_of s 0 c.number.0) (length old)
    (list_writable s c.number.0 c.elapsed.0 z.octet h.sum) (omega (arith, n, l, fits)))
    (omega (arith, n, l)) (lengths_again s c (plain s z) l pad x)

pub demand_2 : Demand2
demand_2 =
    record {
      checked = checked;
      payload_told = λ s d e. ap (λ (l : ℕ). take l (drop 11 s)) (sym (length_said s d e));
      extension_dropped = λ s d n e x. length_said s d e ∙ always_dropped (drop 11 s) n x;
      nothing_else = nothing_else_dropped;
      extended_back = λ stamp n e p x r st sz w i few h. read_known r _ h ∙ extended_back stamp n e p x st sz w i few;
      too_long = too_long_refused;
      data_back = data_back_written;
      data_back_whole = λ stamp n e p old k new r all w h.
          let b = data_back_written stamp n e p old k new r w h in
          let kept : payload_length (take k new) ≡ length p = ap payload_kept b.1 ∙ all in
          (b.0 ∙ ap (λ (l : ℕ). Data (data_pdu stamp n e l)) all, ap₂ take kept b.1 ∙ take-length p);
      closing_back = λ c old k new r w e.
          read_of _ _ r _ e (ap (take k) (left_is _ _ old k new w)) (closing_went_in c (length old) k old (done_is _ _ old k new w));
      lengths_back = λ c ls old k new r w e.
          let q = ap (take k) (left_is _ _ old k new w) in
          let h = lengths_went_in c ls (length old) k old (done_is _ _ old k new w) in
          (read_of _ _ r _ e q h.0, ap (λ (x : List ℕ). lengths_of x 0 c.number.0) q ∙ h.1);
      data_again = λ s d old r new z l e fits w.
          let x = read_as s (Data d) e in
          again _ _ old (length s) r new s w (data_writable s d (length old) (data_said s d x) l fits) refl (data_again s d (plain s z) l x);
      closing_again = closing_again_written;
      lengths_again = lengths_again_written;
    }
