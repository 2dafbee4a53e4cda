-- An answer about a record is known from its number and values: no two answers have the same. Assumes nothing.
use Prim.Native.Nat.{ℕ, zero, suc}
use mathlib.Core.Path.{◌≡◌, refl, sym, ap, ◌∙◌}
use mathlib.Core.List.{List}
use Rattle.frame.specs.Paper.{CountPaper}
use Rattle.reception.specs.Answers.{Taken, Joined, Reported}
use Rattle.reception.specs.Hearing.{Kept, taken_paper}
use Rattle.reception.specs.Joining.{JoinPaper, joined_paper}
use Rattle.reception.specs.Reporting.{ReportPaper, reported_paper, Reports}
use Rattle.std.specs.Prelude.{Ok, Err}
use Rattle.reception.specs.declared.NotJoined.TheVariants.{Contradicts, Refused}
use Rattle.units.proofs.ToldByNumber.{refusal_with, told_again}
use Rattle.units.specs.declared.refusals.Refusal.{Refusal}

-- the answer that a paper is of
taken_from : ℕ → CountPaper → Taken
taken_from zero p = Err (refusal_with p.number p.found p.worked)
taken_from (suc k) p = Ok tt

taken_from_lem : (a : Taken) → taken_from (taken_paper a).accepted (taken_paper a) ≡ a
unfolding taken_from taken_paper
taken_from_lem (Ok u) = refl
taken_from_lem (Err r) = ap Err (told_again r)

pub taken_known : (a b : Taken) → taken_paper a ≡ taken_paper b → a ≡ b
taken_known a b e = sym (taken_from_lem a) ∙ ap (λ (p : CountPaper). taken_from p.accepted p) e ∙ taken_from_lem b

reported_from : ℕ → ReportPaper → Reported
reported_from zero p = Err (refusal_with p.number p.found p.worked)
reported_from (suc k) p =
    Ok
    (record {
      sent = record { 0 = p.sent };
      sent_octets = record { 0 = p.sent_octets };
      heard = record { 0 = p.heard };
      heard_octets = record { 0 = p.heard_octets };
      missing = record { 0 = p.missing };
      missing_octets = record { 0 = p.missing_octets };
      gaps = p.gaps;
    })

reported_from_lem : (a : Reported) → reported_from (reported_paper a).accepted (reported_paper a) ≡ a
unfolding reported_from reported_paper
reported_from_lem (Ok r) = refl
reported_from_lem (Err r) = ap Err (told_again r)

pub reported_known : (a b : Reported) → reported_paper a ≡ reported_paper b → a ≡ b
reported_known a b e = sym (reported_from_lem a) ∙ ap (λ (p : ReportPaper). reported_from p.accepted p) e ∙ reported_from_lem b

joined_from : ℕ → ℕ → JoinPaper → Joined
joined_from (suc k) m p = Ok tt
joined_from zero (suc m) p = Err (Contradicts p.named)
joined_from zero zero p = Err (Refused (refusal_with p.number p.found p.worked))

joined_from_lem : (a : Joined) → joined_from (joined_paper a).accepted (joined_paper a).names (joined_paper a) ≡ a
unfolding joined_from joined_paper
joined_from_lem (Ok u) = refl
joined_from_lem (Err (Contradicts n)) = refl
joined_from_lem (Err (Refused r)) = ap (λ (x : Refusal). Err (Refused x)) (told_again r)

pub joined_known : (a b : Joined) → joined_paper a ≡ joined_paper b → a ≡ b
joined_known a b e = sym (joined_from_lem a) ∙ ap (λ (p : JoinPaper). joined_from p.accepted p.names p) e ∙ joined_from_lem b

-- a report and what it leaves are one
module _ (k : Kept) (firsts counts octets : List ℕ) (r q : Reported) (f₁ c₁ o₁ f₂ c₂ o₂ : List ℕ) where
  pub report_once : Reports k firsts counts octets r f₁ c₁ o₁ → Reports k firsts counts octets q f₂ c₂ o₂ → (r ≡ q) × (f₁ ≡ f₂) × (c₁ ≡ c₂) × (o₁ ≡ o₂)
  report_once x y = (
    reported_known r q (x.says ∙ sym y.says),
    x.leaves_firsts ∙ sym y.leaves_firsts,
    x.leaves_counts ∙ sym y.leaves_counts,
    x.leaves_octets ∙ sym y.leaves_octets,
  )
