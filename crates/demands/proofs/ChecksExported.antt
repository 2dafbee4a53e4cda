-- The exported functions tell of a frame's checks: nothing is lost where a refusal is one number. Assumes nothing.
use Prim.Native.Nat.{ℕ, zero, suc, ◌<◌}
use native.Mathlib.Omega.{arith}
use mathlib.Core.Path.{◌≡◌, refl, sym, subst, ◌∙◌}
use mathlib.Core.Bool.{Bool, true, false}
use mathlib.Core.List.{List}
use lib.Dec.{eqb, ltb}
use lib.ListN.{length}
use Rattle.units.specs.Limits.{last_stamp}
use Rattle.units.specs.Refusals.{number_of, found_of, worked_of, capacities_differ}
use Rattle.units.specs.OneNumber.{refusal_in_one, checks_value}
use Rattle.units.proofs.TakenApart.{number_back, value_back, found_back, worked_back}
use Rattle.fields.specs.Choice.{◌when◌otherwise◌}
use Rattle.fields.proofs.Choosing.{whichever}
use Rattle.frame.specs.declared.Read.{Read}
use Rattle.frame.specs.declared.Read.TheVariants.{Closing, Data, ClosingWithLengths, Refused as NotRead}
use Rattle.frame.specs.Answers.{Listed}
use Rattle.frame.specs.Layout.{type_of, stamp_of, control, least}
use Rattle.frame.specs.Listing.{list_lengths}
use Rattle.frame.specs.Paper.{read_paper, listed_paper}
use Rattle.frame.specs.Reading.{header_wrong, length_wrong, check_wrong, counts_wrong, said, read_body, read_headed, read_frame}
use Rattle.frame.specs.WrongChecks.{ChecksTold}
use Rattle.frame.proofs.ChecksTold.{zeros_told, read_told}
use Rattle.reception.specs.Hearing.{Kept, Outcome, unused, unmatched, hear_frame, taken_paper}
use Rattle.reception.specs.Several.{refusal_number, hear_sequence}
use Rattle.reception.proofs.HeardTold.{Answered, unmatched_lists, unread, withheld, taken, damaged, other, beyond, contradicting, heard_told, heard_checks}
use Rattle.numbers.specs.Answers.{in_one}
use Rattle.demands.specs.ExportedRefusals.{RefusingInOne}
use Rattle.demands.specs.ExportedChecks.{TellsInOne, InOctets, ToldExported}
use Rattle.demands.proofs.ChecksAnswered.{sequence_sound, each_told_in}
use Rattle.std.specs.Prelude.{Err}

-- taken taken-apart again
taken_apart : (s : List ℕ) (n found worked : ℕ) → n < 256 → found < 65536 → ChecksTold s n found worked → TellsInOne s (refusal_in_one n found worked)
taken_apart s n found worked h g t =
    rw (number_back n (checks_value found worked) h, value_back n (checks_value found worked) h, found_back found worked g, worked_back found worked g) t

-- number and check found have their bits
abbrev InWidth : ℕ → ℕ → Type 0
InWidth number found = (number < 256) × (found < 65536)

abbrev ReadInWidth : Read → Type 0
ReadInWidth x = InWidth (read_paper x).number (read_paper x).found

module _ (s : List ℕ) (o : InOctets s) where
  said_narrow : (t : ℕ) → ReadInWidth (said t s)
  unfolding read_paper
  said_narrow zero = (omega arith, omega arith)
  said_narrow (suc zero) = (omega arith, omega arith)
  said_narrow (suc (suc t)) = (omega arith, omega arith)

  body_narrow : (t : ℕ) → ReadInWidth (read_body t s)
  unfolding read_body read_paper
  body_narrow t =
      whichever ReadInWidth _ _ (length_wrong t s) (omega arith, omega arith)
      (λ _.
      whichever ReadInWidth _ _ (check_wrong t s) (omega arith, omega arith)
      (λ _. whichever ReadInWidth _ _ (counts_wrong t s) (omega arith, omega arith) (λ _. said_narrow t)))

  read_narrow : ReadInWidth (read_frame s)
  unfolding read_frame read_headed read_paper
  read_narrow =
      whichever ReadInWidth _ _ (eqb (length s) 0) (omega arith, omega arith)
      (λ _.
      whichever ReadInWidth _ _ (eqb (type_of s) 2) (omega arith, omega arith)
      (λ _.
      whichever ReadInWidth _ _ (ltb 3 (type_of s)) (omega arith, omega arith)
      (λ _.
      whichever ReadInWidth _ _ (ltb (length s) (least (type_of s))) (omega arith, omega arith)
      (λ _.
      whichever ReadInWidth _ _ (header_wrong (control (type_of s)) s) (omega arith, omega (arith, o (control (type_of s))))
      (λ _. whichever ReadInWidth _ _ (ltb last_stamp (stamp_of s)) (omega arith, omega arith) (λ _. body_narrow (type_of s)))))))

  reading_told : TellsInOne s (refusal_in_one (read_paper (read_frame s)).number (read_paper (read_frame s)).found (read_paper (read_frame s)).worked)
  reading_told = taken_apart s _ _ _ read_narrow.0 read_narrow.1 (read_told s)

  -- listing: reading's answer, or 12
  abbrev ListTells : Listed → Type 0
  ListTells a = RefusingInOne (in_one (listed_paper a)) → TellsInOne s (in_one (listed_paper a))

  listing_told : (x : Read) → read_frame s ≡ x → (room : ℕ) → ListTells (list_lengths x room)
  unfolding list_lengths listed_paper read_paper in_one
  listing_told (NotRead r) e room =
      let t : TellsInOne s (refusal_in_one (number_of r) (found_of r) (worked_of r)) = rw e at reading_told in
      let q : refusal_in_one (number_of r) (found_of r) (worked_of r) ≡ in_one (listed_paper (Err r)) = omega arith in
      λ _. subst (TellsInOne s) q t
  listing_told (Closing c) e room = λ _. zeros_told s 0 refl
  listing_told (Data d) e room = λ _. zeros_told s 0 refl
  listing_told (ClosingWithLengths c) e room =
      whichever ListTells _ _ (ltb room c.number.0) (λ _. zeros_told s 12 refl) (λ _ h. absurd (h (omega arith)))

  answered_narrow : (k : Kept) (t : Outcome) → Answered k (read_frame s) t → InWidth (taken_paper t.answer).number (taken_paper t.answer).found
  unfolding taken_paper read_paper
  answered_narrow k _ (unmatched_lists u) = (omega arith, omega arith)
  answered_narrow k _ (unread r e) = rw e at read_narrow
  answered_narrow k _ (withheld _ damaged w) = (omega arith, omega arith)
  answered_narrow k _ (withheld _ other w) = (omega arith, omega arith)
  answered_narrow k _ (withheld _ beyond w) = (omega arith, omega arith)
  answered_narrow k _ (withheld _ contradicting w) = (omega arith, omega arith)
  answered_narrow k _ (taken next w) = (omega arith, omega arith)

  hearing_told : (k : Kept) (bearer period : ℕ) → TellsInOne s (refusal_in_one (taken_paper (hear_frame k bearer period s).answer).number (taken_paper (hear_frame k bearer period s).answer).found (taken_paper (hear_frame k bearer period s).answer).worked)
  hearing_told k bearer period =
      let n = answered_narrow k (hear_frame k bearer period s) (heard_told k bearer period s) in
      taken_apart s _ _ _ n.0 n.1 (heard_checks k bearer period s)

-- hearing many at once: what is answered with 0 was accepted
abbrev Accepts : Outcome → Type 0
Accepts o = refusal_number o.answer ≡ 0 → (taken_paper o.answer).accepted ≡ 1

zero_accepted : (bearer period stamp : ℕ) (old : Kept) (frames : List (List ℕ)) (room : ℕ)
    → Accepts (hear_sequence bearer period stamp old frames room)
unfolding hear_sequence taken_paper
zero_accepted bearer period stamp old frames room =
    whichever Accepts _ _ (unmatched old) (λ z. absurd (omega (arith, z)))
    (λ _. whichever Accepts _ _ (ltb last_stamp stamp) (λ z. absurd (omega (arith, z))) (λ _. whichever Accepts _ _ (ltb room (length frames)) (λ z. absurd (omega (arith, z))) (λ _ _. refl)))

-- a list of answers that is there after an answer of 0 is that of an accepted call
list_left : (t : Bool) (r n : ℕ) (old x new : List ℕ) → r ≡ (capacities_differ when t otherwise n) → new ≡ (old when t otherwise x) → r ≡ 0 → (n ≡ 0) × (new ≡ x)
list_left true r n old x new s l z = absurd (omega (arith, s, z))
list_left false r n old x new s l z = (sym s ∙ z, l)

pub told_exported : ToldExported
told_exported =
    record {
      read_frame_fact = λ s old r new o w.
          subst (TellsInOne s) (sym w.says)
          (whichever (TellsInOne s) _ _ (eqb (read_paper (read_frame s)).kind 0) (reading_told s o)
          (λ _. whichever (TellsInOne s) _ _ (ltb (length old) 7) (zeros_told s 12 refl) (λ _. zeros_told s 0 refl)));
      read_lengths = λ s old r new o w h.
          subst (TellsInOne s) (sym w.says) (listing_told s o (read_frame s) refl (length old) (subst RefusingInOne w.says h));
      hear = λ bearer period f old m e s r new m' e' s' o w.
          subst (TellsInOne f) (sym w.says) (whichever (TellsInOne f) _ _ (ltb (length old) 6) (zeros_told f 14 refl) (λ _. hearing_told f o _ bearer period));
      hear_all_fact = λ bearer period stamp frames old m e s answers r new m' e' s' answers' w v z.
          let l = list_left (ltb (length old) 6) r _ answers _ answers' w.says v.leaves_answers z in
          let a = zero_accepted bearer period stamp (unused m e s) frames (length answers) l.0 in
          each_told_in bearer period _ (sequence_sound bearer period stamp (unused m e s) frames (length answers) a) frames _ answers answers' a l.1;
    }
