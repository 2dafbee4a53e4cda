-- An answer is known from its number and value: no two answers have the same. Assumes nothing.
use Rattle.std.proofs.Common.{◌≡◌, ℕ, zero, suc, sym, refl, ap, ◌∙◌}
use Rattle.clock.specs.Answers.{Moment, DueTime}
use Rattle.clock.specs.Paper.{MomentPaper, DuePaper, moment_paper, due_paper}
use Rattle.std.specs.Prelude.{Ok, Err}
use Rattle.units.proofs.ToldByNumber.{refusal_with, told_again}

moment_from : ℕ → MomentPaper → Moment
moment_from zero p = Err (refusal_with p.number p.found p.worked)
moment_from (suc k) p = Ok p.stamp

moment_from_lem : (a : Moment) → moment_from (moment_paper a).accepted (moment_paper a) ≡ a
unfolding moment_from moment_paper
moment_from_lem (Ok n) = refl
moment_from_lem (Err r) = ap Err (told_again r)

pub moment_known : (a b : Moment) → moment_paper a ≡ moment_paper b → a ≡ b
moment_known a b e = sym (moment_from_lem a) ∙ ap (λ (p : MomentPaper). moment_from p.accepted p) e ∙ moment_from_lem b

due_from : ℕ → DuePaper → DueTime
due_from zero p = Err (refusal_with p.number p.found p.worked)
due_from (suc k) p = Ok p.tick

due_from_lem : (a : DueTime) → due_from (due_paper a).accepted (due_paper a) ≡ a
unfolding due_from due_paper
due_from_lem (Ok t) = refl
due_from_lem (Err r) = ap Err (told_again r)

pub due_known : (a b : DueTime) → due_paper a ≡ due_paper b → a ≡ b
due_known a b e = sym (due_from_lem a) ∙ ap (λ (p : DuePaper). due_from p.accepted p) e ∙ due_from_lem b
