-- A turn is known from its paper: no two have the same. Assumes nothing.
use Prim.Native.Nat.{ℕ, zero, suc}
use mathlib.Core.Path.{◌≡◌, refl, sym, ap, ◌∙◌}
use Rattle.frame.specs.Paper.{CountPaper}
use Rattle.sender.specs.Answers.{Turned}
use Rattle.sender.specs.Calls.{turned_paper}
use Rattle.std.specs.Prelude.{Ok, Err}
use Rattle.units.proofs.ToldByNumber.{refusal_with, told_again}

turned_from : ℕ → CountPaper → Turned
turned_from zero p = Err (refusal_with p.number p.found p.worked)
turned_from (suc k) p = Ok tt

turned_from_lem : (a : Turned) → turned_from (turned_paper a).accepted (turned_paper a) ≡ a
unfolding turned_from turned_paper
turned_from_lem (Ok u) = refl
turned_from_lem (Err r) = ap Err (told_again r)

pub turned_known : (a b : Turned) → turned_paper a ≡ turned_paper b → a ≡ b
turned_known a b e = sym (turned_from_lem a) ∙ ap (λ (p : CountPaper). turned_from p.accepted p) e ∙ turned_from_lem b
