-- What is printed of a refused frame: with 4 and 7 the check that stands in it and the one that the rule gives, otherwise no check.
-- Assumes nothing.
use Rattle.std.proofs.Common.{◌≡◌, ℕ, false, List, [], ◌∷◌, take, refl}
use Rattle.units.specs.declared.refusals.Refusal.{Refusal}
use Rattle.units.specs.Refusals.{number_of, found_of, worked_of, header_check_wrong, payload_check_wrong, tells_checks}
use Rattle.checks.specs.Check.{header_check, payload_check}
use Rattle.frame.specs.Layout.{type_of, control, header_check_in, payload_check_in, payload_part}
use Rattle.frame.specs.WrongChecks.{ChecksTold}
use Rattle.lines.specs.Text.{line}
use Rattle.reception.specs.Hearing.{taken_paper}
use Rattle.reception.proofs.HeardTold.{heard_checks}
use Rattle.telling.specs.Account.{refused_word}
use Rattle.printout.specs.Printed.{Between, answer_text, heard_in}
use Rattle.std.specs.Prelude.{Err}

module _ (b : Between) (f : List ℕ) (place : ℕ) (r : Refusal) (e : (heard_in b f).answer ≡ Err r) where
  frame_told : ChecksTold f (number_of r) (found_of r) (worked_of r)
  unfolding taken_paper
  frame_told = rw e at (heard_checks b.kept b.kept.head.bearer b.kept.head.period f)

  pub header_printed : number_of r ≡ header_check_wrong
      → answer_text place (heard_in b f).answer ≡ line refused_word (place ∷ header_check_wrong ∷ header_check_in (control (type_of f)) f ∷ header_check (take (control (type_of f)) f) ∷ [])
  header_printed n = rw (e, n, (frame_told.header n).told_found, (frame_told.header n).told_worked) refl

  pub payload_printed : number_of r ≡ payload_check_wrong
      → answer_text place (heard_in b f).answer ≡ line refused_word (place ∷ payload_check_wrong ∷ payload_check_in (control (type_of f)) f ∷ payload_check (payload_part (control (type_of f)) f) ∷ [])
  payload_printed n = rw (e, n, (frame_told.payload n).told_found, (frame_told.payload n).told_worked) refl

  pub number_printed : tells_checks (number_of r) ≡ false → answer_text place (heard_in b f).answer ≡ line refused_word (place ∷ (number_of r) ∷ [])
  number_printed t = rw (e, t) refl
