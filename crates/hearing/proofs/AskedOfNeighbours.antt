-- Whether a packet contradicts, in the form in which the code asks. Assumes nothing.
use Prim.Native.Nat.{ℕ, zero, suc, ◌+◌, ◌-◌, ◌≤◌, ◌<◌}
use mathlib.Core.Path.{◌≡◌, refl, sym, ap, ◌∙◌}
use mathlib.Core.Logic.{⊎_elim}
use mathlib.Core.Bool.{Bool, true, false, not, ◌&&◌}
use native.Mathlib.Numerals.{add-one}
use native.Mathlib.Omega.{arith}
use borrow.Author.Tests.{eq-eqb, ne_eqb}
use Rattle.reception.specs.Sendings.{Held}
use Rattle.reception.specs.Walk.{fits, may_end, is_heard, is_explained}
use Rattle.reception.specs.Adding.{with_closing, differ, packet_contradicts, closing_contradicts}
use Rattle.reception.specs.Neighbours.{end_to, octets_to, next_fits}
use Rattle.fields.proofs.Tests.{either}
use Rattle.reception.proofs.NeighboursDecide.{packet_decided, closing_decided, end_heard, end_unheard}

-- packets end not past the number looked from
pub end_back : (r : Held) (k : ℕ) → end_to r k ≤ k
unfolding end_to
end_back r zero = omega arith
end_back r (suc k) =
    ⊎_elim (λ (t : is_heard r k ≡ true). let p = (end_heard r k t).0 in omega (arith, p))
    (λ (t : is_heard r k ≡ false). let p = (end_unheard r k t).0 in omega (arith, p, end_back r k))
    (either (is_heard r k))

-- one that is held
pub held_packet : (r : Held) (k e l x y : ℕ) → r.mark k ≡ 1 → x ≡ r.elapsed k → y ≡ r.size k → (b : Bool) → b ≡ differ x y e l
    → b ≡ packet_contradicts r k e l
unfolding packet_contradicts
held_packet r k e l x y t ex ey b q = q ∙ rw (ex, ey, eq-eqb _ _ t) refl

module _ (r : Held) (k e l : ℕ) (h : is_explained r ≡ true) (lt : k < r.capacity) (t : r.mark k ≡ 1 → ⊥) where
  -- one that is new
  new_packet : packet_contradicts r k e l ≡ not (fits (end_to r k) (octets_to r k) k e l && next_fits r (r.capacity - (k + 1)) (k + 1) (k + 1) (e + l))
  unfolding packet_contradicts
  new_packet =
      let d = packet_decided r k e l h (r.capacity - suc k) (omega arith) in
      rw (ne_eqb (r.mark k) 1 t, add-one k) (ap not d)

  module _ (i a : ℕ) (ie : i ≡ end_to r k) (ae : a ≡ octets_to r k) (b : Bool) (fit : b ≡ fits i a k e l) where
    pub far_off : b ≡ false → true ≡ packet_contradicts r k e l
    far_off f =
        let no-fit : fits (end_to r k) (octets_to r k) k e l ≡ false = rw (ie, ae) at (sym fit ∙ f) in
        sym (new_packet ∙ rw no-fit)

    pub by_next : b ≡ true → (c : Bool) → c ≡ next_fits r (r.capacity - (k + 1)) (k + 1) (k + 1) (e + l) → not c ≡ packet_contradicts r k e l
    by_next f c n =
        let fit-too : fits (end_to r k) (octets_to r k) k e l ≡ true = rw (ie, ae) at (sym fit ∙ f) in
        sym (new_packet ∙ rw (fit-too, sym n) refl)

-- a closing, where one was heard and where none was
pub held_closing : (r : Held) (n t : ℕ) → r.closed ≡ true → (b : Bool) → b ≡ differ r.count r.total n t → b ≡ closing_contradicts r n t
unfolding closing_contradicts
held_closing r n t c b q = q ∙ rw c refl

pub new_closing : (r : Held) (n t i a : ℕ) → is_explained r ≡ true → r.closed ≡ false → i ≡ end_to r r.capacity → a ≡ octets_to r r.capacity
    → (b : Bool) → b ≡ may_end true n t i a → not b ≡ closing_contradicts r n t
unfolding closing_contradicts
new_closing r n t i a h c ie ae b q =
    let d = closing_decided r n t h in
    let e : b ≡ is_explained (with_closing r n t) = q ∙ rw (ie, ae) (sym d) in
    ap not e ∙ rw c refl
