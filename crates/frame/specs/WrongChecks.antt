-- What an answer tells of a frame's checks (document 02, request 6). Assumes nothing.
use Rattle.std.specs.Prelude.{ℕ, ◌≡◌, false, List, take}
use Rattle.units.specs.Refusals.{header_check_wrong, payload_check_wrong, tells_checks}
use Rattle.checks.specs.Check.{header_check, payload_check}
use Rattle.frame.specs.Layout.{type_of, control, header_check_in, payload_check_in, payload_part}
use Rattle.frame.specs.Paper.{CountPaper}

-- of a wrong check: what stands in the frame was found, what the rule gives was worked out, and they differ
pub record WrongCheck (found worked inFrame byRule : ℕ) : Type 0 where
  pub told_found : found ≡ inFrame
  pub told_worked : worked ≡ byRule
  pub apart : found ≡ worked → ⊥

-- "with refusals 4 and 7, the check found and the check worked out"; "Other refusals return what they did": zeros in both places
pub record ChecksTold (s : List ℕ) (number found worked : ℕ) : Type 0 where
  pub header : number ≡ header_check_wrong → WrongCheck found worked (header_check_in (control (type_of s)) s) (header_check (take (control (type_of s)) s))
  pub payload : number ≡ payload_check_wrong → WrongCheck found worked (payload_check_in (control (type_of s)) s) (payload_check (payload_part (control (type_of s)) s))
  pub neither : tells_checks number ≡ false → (found ≡ 0) × (worked ≡ 0)

-- the same of an answer by its paper
abbrev pub TellsOf : List ℕ → CountPaper → Type 0
TellsOf s p = ChecksTold s p.number p.found p.worked
