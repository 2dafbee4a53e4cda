-- A refusal is told by its number and both checks: no two have the same. Assumes nothing.
use Rattle.std.specs.Prelude.{ℕ, cond, eqb, is_some}
use mathlib.Core.Path.{◌≡◌, refl, sym, ◌∙◌}
use Rattle.units.specs.declared.refusals.Refusal.{Refusal}
use Rattle.units.specs.declared.refusals.Refusal.TheVariants.{TooShort, TypeTwo, TypeUnknown, HeaderCheckWrong, StampTooHigh, SizeWrong, PayloadCheckWrong, CountsImpossible, OtherSequence, BeyondCapacity, Contradiction, NoRoom, RecordDamaged, CapacitiesDiffer, OutOfTurn, StampNotLater, SequenceFull, PeriodFull, PayloadTooLong, SenderDamaged, LengthsWrong, PeriodOver}
use Rattle.units.specs.Refusals.{tells_checks, told_checks, number_of, told_checks, found_of, worked_of, header_refusal, payload_refusal}

-- the refusal with a number and, with 4 and 7, both checks
abbrev pub refusal_with : ℕ → ℕ → ℕ → Refusal
refusal_with n found worked =
    cond (eqb n 1) TooShort (
    cond (eqb n 2) TypeTwo (
    cond (eqb n 3) TypeUnknown (
    cond (eqb n 4) (header_refusal found worked) (
    cond (eqb n 5) StampTooHigh (
    cond (eqb n 6) SizeWrong (
    cond (eqb n 7) (payload_refusal found worked) (
    cond (eqb n 8) CountsImpossible (
    cond (eqb n 9) OtherSequence (
    cond (eqb n 10) BeyondCapacity (
    cond (eqb n 11) Contradiction (
    cond (eqb n 12) NoRoom (
    cond (eqb n 13) RecordDamaged (
    cond (eqb n 14) CapacitiesDiffer (
    cond (eqb n 15) OutOfTurn (
    cond (eqb n 16) StampNotLater (
    cond (eqb n 17) SequenceFull (
    cond (eqb n 18) PeriodFull (
    cond (eqb n 20) PayloadTooLong (
    cond (eqb n 21) SenderDamaged (
    cond (eqb n 22) LengthsWrong (
    PeriodOver)))))))))))))))))))))

pub told_again : (r : Refusal) → refusal_with (number_of r) (found_of r) (worked_of r) ≡ r
told_again TooShort = refl
told_again TypeTwo = refl
told_again TypeUnknown = refl
told_again (HeaderCheckWrong c) = refl
told_again StampTooHigh = refl
told_again SizeWrong = refl
told_again (PayloadCheckWrong c) = refl
told_again CountsImpossible = refl
told_again OtherSequence = refl
told_again BeyondCapacity = refl
told_again Contradiction = refl
told_again NoRoom = refl
told_again RecordDamaged = refl
told_again CapacitiesDiffer = refl
told_again OutOfTurn = refl
told_again StampNotLater = refl
told_again SequenceFull = refl
told_again PeriodFull = refl
told_again PayloadTooLong = refl
told_again SenderDamaged = refl
told_again LengthsWrong = refl
told_again PeriodOver = refl

pub same_refusal : (r x : Refusal) → number_of r ≡ number_of x → found_of r ≡ found_of x → worked_of r ≡ worked_of x → r ≡ x
same_refusal r x n f w = sym (told_again r) ∙ rw (n, f, w) (told_again x)

-- a refusal tells of checks exactly if its number is 4 or 7
pub tells_by_number : (r : Refusal) → is_some (told_checks r) ≡ tells_checks (number_of r)
tells_by_number TooShort = refl
tells_by_number TypeTwo = refl
tells_by_number TypeUnknown = refl
tells_by_number (HeaderCheckWrong c) = refl
tells_by_number StampTooHigh = refl
tells_by_number SizeWrong = refl
tells_by_number (PayloadCheckWrong c) = refl
tells_by_number CountsImpossible = refl
tells_by_number OtherSequence = refl
tells_by_number BeyondCapacity = refl
tells_by_number Contradiction = refl
tells_by_number NoRoom = refl
tells_by_number RecordDamaged = refl
tells_by_number CapacitiesDiffer = refl
tells_by_number OutOfTurn = refl
tells_by_number StampNotLater = refl
tells_by_number SequenceFull = refl
tells_by_number PeriodFull = refl
tells_by_number PayloadTooLong = refl
tells_by_number SenderDamaged = refl
tells_by_number LengthsWrong = refl
tells_by_number PeriodOver = refl
