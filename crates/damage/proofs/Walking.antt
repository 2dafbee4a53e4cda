-- The walk over a record in the form in which a loop that counts up goes along it. Assumes nothing.
use Prim.Native.Nat.{ℕ, zero, suc, ◌+◌, ◌-◌, ◌≤◌, ◌<◌}
use mathlib.Core.Path.{◌≡◌, refl, sym, ap, ◌∙◌}
use mathlib.Core.Logic.{⊎_elim}
use mathlib.Core.Bool.{Bool, true, false, not, ◌&&◌}
use native.Mathlib.Nat.{sub-zero, not-suc-le-zero}
use native.Mathlib.Numerals.{add-one}
use native.Mathlib.Omega.{arith}
use lib.Dec.{ltb}
use borrow.Author.Tests.{eq-eqb, ne_eqb, ltb-true, ltb-false}
use Rattle.reception.specs.Sendings.{Held}
use Rattle.reception.specs.Walk.{fits, ends, walk, is_explained}
use Rattle.reception.specs.Damage.{place_wrong, places_wrong, walk_fails}
use Rattle.reception.proofs.Points.{step_heard, step_unheard}
use Rattle.fields.proofs.Counting.{one_less}
use Rattle.fields.proofs.Tests.{either, or_true}

-- the loop is at place k: no place before it is wrong, and the last packet heard ends before number i, at a octets
pub record Walking (r : Held) (k i a : ℕ) : Type 0 where
  pub here : k ≤ r.capacity
  pub back : i ≤ k
  pub clean : places_wrong r k ≡ false
  pub same : is_explained r ≡ walk r (r.capacity - k) k i a

pub start : (r : Held) → Walking r 0 0 0
unfolding places_wrong is_explained
start r =
    record {
      here = omega arith;
      back = omega arith;
      clean = refl;
      same = ap (λ (n : ℕ). walk r n 0 0 0) (sym (sub-zero r.capacity));
    }

-- one wrong place is enough
some_wrong : (r : Held) (n k : ℕ) → k < n → place_wrong (r.mark k) (r.elapsed k) (r.size k) ≡ true → places_wrong r n ≡ true
unfolding places_wrong
some_wrong r zero k lt w = absurd (not-suc-le-zero lt)
some_wrong r (suc n) k lt w =
    ⊎_elim (λ (t : ltb k n ≡ true). rw (some_wrong r n k (ltb-true k n t) w))
    (λ (t : ltb k n ≡ false). let g = ltb-false k n t in let e : n ≡ k = omega arith in rw (e, w) (or_true (places_wrong r k)))
    (either (ltb k n))

module _ (r : Held) (k i a : ℕ) (g : Walking r k i a) where
  module _ (h : k < r.capacity) where
    -- a packet was heard there
    module _ (t : r.mark k ≡ 1) (e l : ℕ) (el : e ≡ r.elapsed k) (ll : l ≡ r.size k) (b : Bool) (fit : b ≡ fits i a k e l) where
      at_heard : is_explained r ≡ (b && walk r (r.capacity - (k + 1)) (k + 1) (k + 1) (e + l))
      at_heard =
          g.same
          ∙ rw (one_less r.capacity k h, add-one k, fit, el, ll) (step_heard r (r.capacity - suc k) k i a (eq-eqb _ _ t))

      pub misfit : b ≡ false → true ≡ walk_fails r
      unfolding walk_fails
      misfit f = let no_Walk : is_explained r ≡ false = at_heard ∙ rw f in rw no_Walk (sym (or_true (places_wrong r r.capacity)))

      pub heard : b ≡ true → Walking r (k + 1) (k + 1) (e + l)
      unfolding places_wrong place_wrong
      heard f =
          record {
            here = omega arith;
            back = omega arith;
            clean = rw (add-one k, g.clean, eq-eqb _ _ t);
            same = at_heard ∙ rw f;
          }

    -- or not
    module _ (b : Bool) (judged : b ≡ place_wrong (r.mark k) (r.elapsed k) (r.size k)) where
      pub wrong : b ≡ true → true ≡ walk_fails r
      unfolding walk_fails
      wrong w = rw (some_wrong r r.capacity k h (sym judged ∙ w))

      pub unheard : (r.mark k ≡ 1 → ⊥) → b ≡ false → Walking r (k + 1) i a
      unfolding places_wrong
      unheard t w =
          record {
            here = omega arith;
            back = omega arith;
            clean = rw (add-one k, g.clean, sym judged, w);
            same = g.same ∙ rw (one_less r.capacity k h, add-one k) (step_unheard r (r.capacity - suc k) k i a (ne_eqb _ _ t));
          }

  -- the loop is left: what remains is the closing
  pub left_over : r.capacity ≤ k → (b : Bool) → b ≡ ends r i a → not b ≡ walk_fails r
  unfolding walk_fails walk
  left_over h b e =
      let all : k ≡ r.capacity = omega (arith, g.here) in
      let none : r.capacity - k ≡ 0 = omega arith in
      let clean : places_wrong r r.capacity ≡ false = rw all at g.clean in
      let last : is_explained r ≡ b = g.same ∙ rw none (sym e) in
      rw (clean, last) refl
