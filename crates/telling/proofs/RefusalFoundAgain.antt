-- A refusal is found again from its line: its place, its number, and both checks of 4 and 7. Assumes nothing.
use Prim.Native.Nat.{ℕ, ◌<◌, ◌^◌}
use mathlib.Core.Path.{◌≡◌, refl, sym, ap, ◌∙◌}
use mathlib.Core.Bool.{Bool, true, false}
use mathlib.Core.List.{[], ◌∷◌}
use native.Mathlib.Omega.{arith}
use Rattle.units.specs.declared.refusals.Refusal.{Refusal}
use Rattle.units.specs.Refusals.{number_of, found_of, worked_of, tells_checks}
use Rattle.units.proofs.ToldByNumber.{same_refusal}
use Rattle.fields.specs.Choice.{◌when◌otherwise◌}
use Rattle.lines.proofs.FoundAgain.{Narrow, none, more, line_found}
use Rattle.telling.specs.Account.{checks_of, refused_line}

-- a refusal whose numbers have the widths that the code gives them
pub record AsWide (r : Refusal) : Type 0 where
  pub number : (number_of r) < 256
  pub found : (found_of r) < 65536
  pub worked : (worked_of r) < 65536

numbers_narrow : (place : ℕ) (r : Refusal) → place < 2 ^ 64 → AsWide r → Narrow (place ∷ (number_of r) ∷ checks_of r)
numbers_narrow place r p f =
    let n : (number_of r) < 2 ^ 64 = omega (arith, f.number) in
    more _ _ p (more _ _ n (checks_narrow (tells_checks (number_of r))))
  where
    checks_narrow : (t : Bool) → Narrow (((found_of r) ∷ (worked_of r) ∷ []) when t otherwise [])
    checks_narrow true =
        let a : (found_of r) < 2 ^ 64 = omega (arith, f.found) in
        let b : (worked_of r) < 2 ^ 64 = omega (arith, f.worked) in
        more _ _ a (more _ _ b none)
    checks_narrow false = none

-- the checks that stand in the line of a refusal that tells of them
both_told : (r : Refusal) → tells_checks (number_of r) ≡ true → checks_of r ≡ (found_of r) ∷ (worked_of r) ∷ []
both_told r t = rw t refl

pub refused_found : (place place' : ℕ) (r x : Refusal) → place < 2 ^ 64 → place' < 2 ^ 64 → AsWide r → AsWide x → refused_line place r ≡ refused_line place' x
    → (place ≡ place') × ((number_of r) ≡ (number_of x)) × (tells_checks (number_of r) ≡ true → r ≡ x)
refused_found place place' r x p q f g e =
    let l = line_found _ _ _ (numbers_narrow place r p f) (numbers_narrow place' x q g) e in
    let n : (number_of r) ≡ (number_of x) = cc in
    let c : checks_of r ≡ checks_of x = cc in
    (cc, n, λ t. same n (sym (both_told r t) ∙ c ∙ both_told x (ap tells_checks (sym n) ∙ t)))
  where
    same : (number_of r) ≡ (number_of x) → (found_of r) ∷ (worked_of r) ∷ [] ≡ (found_of x) ∷ (worked_of x) ∷ [] → r ≡ x
    same n c =
        let a : (found_of r) ≡ (found_of x) = cc in
        let b : (worked_of r) ≡ (worked_of x) = cc in
        same_refusal r x n a b
