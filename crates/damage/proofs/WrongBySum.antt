-- A place that was not heard is wrong exactly if its mark, its octets and its length do not add up to zero. Assumes nothing.
use Prim.Native.Nat.{ℕ, ◌+◌}
use mathlib.Core.Path.{◌≡◌}
use mathlib.Core.Logic.{⊎_elim}
use mathlib.Core.Bool.{true, false, not}
use native.Mathlib.Omega.{arith}
use lib.Dec.{eqb}
use borrow.Author.Tests.{eq-eqb, ne_eqb, eqb-true, eqb-false}
use Rattle.frame.specs.Counts.{some_of}
use Rattle.reception.specs.Damage.{place_wrong}
use Rattle.fields.proofs.Tests.{either}

module _ (m e l : ℕ) (t : m ≡ 1 → ⊥) where
  -- one of them is not zero
  some : (m + e + l ≡ 0 → ⊥) → true ≡ place_wrong m e l
  unfolding place_wrong some_of
  some f =
      ⊎_elim
      (λ (a : eqb m 0 ≡ true).
      ⊎_elim
      (λ (b : eqb e 0 ≡ true).
      let x = eqb-true m 0 a in
      let y = eqb-true e 0 b in
      simp (ne_eqb m 1 t, a, b, ne_eqb l 0 (λ z. f (omega (arith, x, y, z)))))
      (λ (b : eqb e 0 ≡ false). simp (ne_eqb m 1 t, a, b))
      (either (eqb e 0)))
      (λ (a : eqb m 0 ≡ false). simp (ne_eqb m 1 t, a))
      (either (eqb m 0))

  pub wrong_sum : (s : ℕ) → s ≡ m + e + l → not (eqb s 0) ≡ place_wrong m e l
  unfolding place_wrong some_of
  wrong_sum s p =
      ⊎_elim
      (λ (z : eqb s 0 ≡ true).
      let x = eqb-true s 0 z in
      simp (z, ne_eqb m 1 t, eq-eqb m 0 (omega (arith, x, p)), eq-eqb e 0 (omega (arith, x, p)), eq-eqb l 0 (omega (arith, x, p))))
      (λ (z : eqb s 0 ≡ false). rw z (some (λ q. eqb-false s 0 z (omega (arith, p, q)))))
      (either (eqb s 0))
