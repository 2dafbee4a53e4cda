-- How each answer meets the promise of joining. Assumes nothing.
use Prim.Native.Nat.{ℕ}
use mathlib.Core.Path.{◌≡◌, refl}
use mathlib.Core.Bool.{Bool, true, false, ◌&&◌}
use mathlib.Core.List.{List}
use lib.Dec.{eqb}
use Rattle.reception.specs.Answers.{Joining}
use Rattle.reception.specs.Hearing.{Kept}
use Rattle.reception.specs.Joining.{JoinOutcome, refuses_join, contradicts, joins, Joins}
use borrow.Author.Tests.{eq-eqb, ne_eqb}
use Rattle.std.specs.Prelude.{Ok, Err}
use Rattle.reception.specs.declared.NotJoined.TheVariants.{Contradicts, Refused}
use Rattle.units.specs.declared.refusals.Refusal.{Refusal}

-- two tests of which the first is known
pub and_first : (a b r : Bool) → a ≡ true → r ≡ b → r ≡ (a && b)
and_first a b r t e = rw t e

pub and_none : (a b : Bool) → a ≡ false → false ≡ (a && b)
and_none a b t = rw t refl

-- of which the first is that a packet was heard
pub and_heard : (m : ℕ) (b r : Bool) → m ≡ 1 → r ≡ b → r ≡ (eqb m 1 && b)
and_heard m b r t e = and_first (eqb m 1) b r (eq-eqb m 1 t) e

pub and_unheard : (m : ℕ) (b : Bool) → (m ≡ 1 → ⊥) → false ≡ (eqb m 1 && b)
and_unheard m b t = and_none (eqb m 1) b (ne_eqb m 1 t)

-- a refusal
pub refused_as : (k : Kept) (n : Refusal) {t : JoinOutcome} {r : Joining} → t ≡ refuses_join k n → r ≡ record { answer = Err (Refused n); head = k.head }
    → Joins t r k.marks k.elapsed k.sizes
refused_as k n e q = record { says = rw (e, q) refl; leaves = rw (e, q) refl }

-- refusal 11 with a number
pub contradicted_as : (k : Kept) (n : ℕ) {t : JoinOutcome} {r : Joining} → t ≡ contradicts k n → r ≡ record { answer = Err (Contradicts n); head = k.head }
    → Joins t r k.marks k.elapsed k.sizes
contradicted_as k n e q = record { says = rw (e, q) refl; leaves = rw (e, q) refl }

-- two records joined
pub joined_as : (k : Kept) {t : JoinOutcome} {r : Joining} {marks elapsed sizes : List ℕ} → t ≡ joins k → r ≡ record { answer = Ok tt; head = k.head }
    → marks ≡ k.marks → elapsed ≡ k.elapsed → sizes ≡ k.sizes → Joins t r marks elapsed sizes
joined_as k e q m l s = record { says = rw (e, q) refl; leaves = rw (e, q, m, l, s) refl }
