-- The type that a number names, or its refusal, is what `read_frame` tests one after the other. Assumes nothing.
use Prim.Native.Nat.{ℕ, zero, suc, ◌<◌}
use mathlib.Core.Path.{◌≡◌, refl, ap}
use mathlib.Core.Bool.{false}
use lib.Dec.{eqb, ltb}
use native.Mathlib.Omega.{arith}
use borrow.Author.Tests.{lt-ltb, ne_eqb}
use Rattle.std.specs.Prelude.{Ok, Err}
use Rattle.units.specs.declared.refusals.Refusal.{Refusal}
use Rattle.units.specs.declared.refusals.Refusal.TheVariants.{TypeTwo, TypeUnknown}
use Rattle.fields.specs.Choice.{◌when◌otherwise◌}
use Rattle.frame.specs.declared.Read.{Read}
use Rattle.frame.specs.declared.types.PduType.{PduType}
use Rattle.frame.specs.declared.types.PduType.TheVariants.{Closing, Data, ClosingWithLengths}
use Rattle.frame.specs.Reading.{refuse}
use Rattle.frame.specs.Types.{Typed, number_of_type}

-- refusals 2 and 3, in their order, in front of what is read otherwise
abbrev pub past_type : ℕ → Read → Read
past_type t x =
    refuse TypeTwo when eqb t 2 otherwise
    refuse TypeUnknown when ltb 3 t otherwise
    x

pub named : (t : ℕ) (k : PduType) → Typed t (Ok k) → (number_of_type k ≡ t) × (eqb t 2 ≡ false) × (ltb 3 t ≡ false)
named zero k e = (cc, refl, refl)
named (suc zero) k e = (cc, refl, refl)
named (suc (suc zero)) k e = cc
named (suc (suc (suc zero))) k e = (cc, refl, refl)
named (suc (suc (suc (suc t)))) k e = cc

pub unnamed : (t : ℕ) (r : Refusal) (x : Read) → Typed t (Err r) → past_type t x ≡ refuse r
unnamed zero r x e = cc
unnamed (suc zero) r x e = cc
unnamed (suc (suc zero)) r x e = cc
unnamed (suc (suc (suc zero))) r x e = cc
unnamed (suc (suc (suc (suc t)))) r x e =
    let n = suc (suc (suc (suc t))) in
    let g : TypeUnknown ≡ r = cc in
    simp (ne_eqb n 2 (λ h. omega (arith, h)), lt-ltb 3 n (omega arith)) (ap refuse g)

-- it has four bits
pub number_lt : (k : PduType) → number_of_type k < 16
number_lt Closing = omega arith
number_lt Data = omega arith
number_lt ClosingWithLengths = omega arith
