-- A frame is accepted exactly if no refusal applies, and then says its fields. Callers use this and not the text of `read_frame`.
-- Assumes nothing.
use Prim.Native.Nat.{ℕ, zero, suc, ◌≤◌, ◌<◌}
use mathlib.Core.Path.{◌≡◌, refl}
use mathlib.Core.List.{List}
use native.Mathlib.Omega.{arith}
use mathlib.Core.Bool.{false}
use lib.ListN.{length}
use lib.Dec.{eqb, ltb}
use borrow.Author.Tests.{le-ltb, ne_eqb, ltb-false, eqb-false}
use Rattle.units.specs.declared.refusals.Refusal.{Refusal}
use Rattle.units.specs.Limits.{last_stamp}
use Rattle.fields.proofs.Choosing.{past}
use Rattle.frame.specs.declared.Read.{Read}
use Rattle.frame.specs.declared.DataPdu.{DataPdu}
use Rattle.frame.specs.declared.ClosingPdu.{ClosingPdu}
use Rattle.frame.specs.declared.Read.TheVariants.{Closing, Data, ClosingWithLengths, Refused}
use Rattle.frame.specs.Layout.{control, least, type_of, stamp_of, data_of, closing_of}
use Rattle.frame.specs.Reading.{read_body, read_headed, read_frame, refuse, refuse_header, refuse_payload, header_wrong, length_wrong, check_wrong, counts_wrong, said}
use Rattle.units.specs.declared.refusals.Refusal.TheVariants.{CountsImpossible, SizeWrong, StampTooHigh, TooShort, TypeTwo, TypeUnknown}

pub control_lt : (t : ℕ) → control t < least t
control_lt zero = omega arith
control_lt (suc zero) = omega arith
control_lt (suc (suc t)) = omega arith

pub least_ge : (t : ℕ) → 11 ≤ least t
least_ge zero = omega arith
least_ge (suc zero) = omega arith
least_ge (suc (suc t)) = omega arith

pub least_other : (t : ℕ) → (t ≡ 0 → ⊥) → (t ≡ 1 → ⊥) → least t ≡ 19
least_other zero h g = absurd (h refl)
least_other (suc zero) h g = absurd (g refl)
least_other (suc (suc t)) h g = refl

-- no refusal applies
pub record Good (s : List ℕ) : Type 0 where
  pub some : 0 < length s
  pub not_two : type_of s ≡ 2 → ⊥
  pub known : type_of s ≤ 3
  pub long : least (type_of s) ≤ length s
  pub headed : header_wrong (control (type_of s)) s ≡ false
  pub stamped : stamp_of s ≤ last_stamp
  pub sized : length_wrong (type_of s) s ≡ false
  pub checked : check_wrong (type_of s) s ≡ false
  pub counted : counts_wrong (type_of s) s ≡ false

pub read_good : (s : List ℕ) → Good s → read_frame s ≡ said (type_of s) s
unfolding read_frame read_headed read_body
read_good s g =
    simp (
      ne_eqb (length s) 0 (λ e. omega arith),
      ne_eqb (type_of s) 2 g.not_two,
      le-ltb 3 (type_of s) g.known,
      le-ltb (length s) (least (type_of s)) g.long,
      g.headed,
      le-ltb last_stamp (stamp_of s) g.stamped,
      g.sized,
      g.checked,
      g.counted,
    )

-- an answer that is no refusal
pub good_read : (s : List ℕ) (x : Read) → ((r : Refusal) → Refused r ≡ x → ⊥) → read_frame s ≡ x → Good s × (said (type_of s) s ≡ x)
unfolding read_frame read_headed read_body
good_read s x acc e =
    let p1 = past (refuse TooShort) _ x (eqb (length s) 0) (acc TooShort) e in
    let p2 = past (refuse TypeTwo) _ x (eqb (type_of s) 2) (acc TypeTwo) p1.1 in
    let p3 = past (refuse TypeUnknown) _ x (ltb 3 (type_of s)) (acc TypeUnknown) p2.1 in
    let p4 = past (refuse TooShort) _ x (ltb (length s) (least (type_of s))) (acc TooShort) p3.1 in
    let p5 = past (refuse_header (control (type_of s)) s) _ x (header_wrong (control (type_of s)) s) (acc _) p4.1 in
    let p6 = past (refuse StampTooHigh) _ x (ltb last_stamp (stamp_of s)) (acc StampTooHigh) p5.1 in
    let p7 = past (refuse SizeWrong) _ x (length_wrong (type_of s) s) (acc SizeWrong) p6.1 in
    let p8 = past (refuse_payload (control (type_of s)) s) _ x (check_wrong (type_of s) s) (acc _) p7.1 in
    let p9 = past (refuse CountsImpossible) (said (type_of s) s) x (counts_wrong (type_of s) s) (acc CountsImpossible) p8.1 in
    let n0 = eqb-false (length s) 0 p1.0 in (
      record {
        some = omega arith;
        not_two = eqb-false (type_of s) 2 p2.0;
        known = ltb-false 3 (type_of s) p3.0;
        long = ltb-false (length s) (least (type_of s)) p4.0;
        headed = p5.0;
        stamped = ltb-false last_stamp (stamp_of s) p6.0;
        sized = p7.0;
        checked = p8.0;
        counted = p9.0;
      },
      p9.1,
    )

-- what each case of the answer says of the type
data_type : (t : ℕ) (s : List ℕ) (d : DataPdu) → said t s ≡ Data d → (t ≡ 1) × (data_of s ≡ d)
data_type zero s d e =
    let z : ◌≡◌ {A = ℕ} 0 1 = cc in
    absurd (omega arith)
data_type (suc zero) s d e = (refl, cc)
data_type (suc (suc t)) s d e =
    let z : ◌≡◌ {A = ℕ} 0 1 = cc in
    absurd (omega arith)

closing_type : (t : ℕ) (s : List ℕ) (c : ClosingPdu) → said t s ≡ Closing c → (t ≡ 0) × (closing_of s ≡ c)
closing_type zero s c e = (refl, cc)
closing_type (suc zero) s c e =
    let z : ◌≡◌ {A = ℕ} 0 1 = cc in
    absurd (omega arith)
closing_type (suc (suc t)) s c e =
    let z : ◌≡◌ {A = ℕ} 0 1 = cc in
    absurd (omega arith)

lengths_type : (t : ℕ) (s : List ℕ) (c : ClosingPdu) → (t ≡ 2 → ⊥) → t ≤ 3 → said t s ≡ ClosingWithLengths c → (t ≡ 3) × (closing_of s ≡ c)
lengths_type zero s c h g e =
    let z : ◌≡◌ {A = ℕ} 0 1 = cc in
    absurd (omega arith)
lengths_type (suc zero) s c h g e =
    let z : ◌≡◌ {A = ℕ} 0 1 = cc in
    absurd (omega arith)
lengths_type (suc (suc t)) s c h g e = (three (suc (suc t)) h g (omega arith), cc)
  where
    three : (t : ℕ) → (t ≡ 2 → ⊥) → t ≤ 3 → 2 ≤ t → t ≡ 3
    three t h g l = omega arith

-- no case that is accepted is a refusal
pub no_data : (d : DataPdu) (r : Refusal) → Refused r ≡ Data d → ⊥
no_data d r h =
    let z : ◌≡◌ {A = ℕ} 0 1 = cc in
    omega arith

pub no_closing : (c : ClosingPdu) (r : Refusal) → Refused r ≡ Closing c → ⊥
no_closing c r h =
    let z : ◌≡◌ {A = ℕ} 0 1 = cc in
    omega arith

pub no_lengths : (c : ClosingPdu) (r : Refusal) → Refused r ≡ ClosingWithLengths c → ⊥
no_lengths c r h =
    let z : ◌≡◌ {A = ℕ} 0 1 = cc in
    omega arith

pub read_data : (s : List ℕ) (d : DataPdu) → read_frame s ≡ Data d → Good s × (type_of s ≡ 1) × (data_of s ≡ d)
read_data s d e =
    let g = good_read s (Data d) (no_data d) e in
    let t = data_type (type_of s) s d g.1 in
    (g.0, t.0, t.1)

pub read_closing : (s : List ℕ) (c : ClosingPdu) → read_frame s ≡ Closing c → Good s × (type_of s ≡ 0) × (closing_of s ≡ c)
read_closing s c e =
    let g = good_read s (Closing c) (no_closing c) e in
    let t = closing_type (type_of s) s c g.1 in
    (g.0, t.0, t.1)

pub read_with_lengths : (s : List ℕ) (c : ClosingPdu) → read_frame s ≡ ClosingWithLengths c → Good s × (type_of s ≡ 3) × (closing_of s ≡ c)
read_with_lengths s c e =
    let g = good_read s (ClosingWithLengths c) (no_lengths c) e in
    let t = lengths_type (type_of s) s c g.0.not_two g.0.known g.1 in
    (g.0, t.0, t.1)
