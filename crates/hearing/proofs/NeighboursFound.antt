-- Looking down and up from a packet number for the packets heard next to it, as loops go. Assumes nothing.
use Prim.Native.Nat.{ℕ, zero, suc, ◌+◌, ◌-◌, ◌≤◌, ◌<◌}
use mathlib.Core.Path.{◌≡◌, refl, sym, ap, ◌∙◌}
use mathlib.Core.Logic.{⊎_elim}
use mathlib.Core.Bool.{Bool, true, false}
use mathlib.Core.List.{List}
use native.Mathlib.Numerals.{add-one}
use native.Mathlib.Omega.{arith}
use lib.ListN.{length, get_or}
use lib.Dec.{eqb}
use borrow.Author.Tests.{eq-eqb, ne_eqb, eqb-true, eqb-false}
use Rattle.fields.proofs.Counting.{one_less}
use Rattle.fields.proofs.Tests.{either}
use Rattle.reception.specs.declared.Head.{Head}
use Rattle.reception.specs.Sendings.{Held, held_in}
use Rattle.reception.specs.Walk.{fits, ends}
use Rattle.reception.specs.Neighbours.{end_to, octets_to, next_fits, EndBelow, NoneBefore, NoneFrom}
use Rattle.reception.proofs.NeighboursDecide.{end_heard, end_unheard}

-- where nothing was heard below n
none_before : (r : Held) (n : ℕ) → ((j : ℕ) → j < n → r.mark j ≡ 1 → ⊥) → (end_to r n ≡ 0) × (octets_to r n ≡ 0)
unfolding end_to octets_to
none_before r zero f = (refl, refl)
none_before r (suc n) f =
    let p = end_unheard r n (ne_eqb _ _ (f n (omega arith))) in
    let q = none_before r n (λ j lt. f j (omega arith)) in
    (p.0 ∙ q.0, p.1 ∙ q.1)

-- where nothing was heard from j on
none_from : (r : Held) (n j i a : ℕ) → ((m : ℕ) → j ≤ m → r.mark m ≡ 1 → ⊥) → next_fits r n j i a ≡ ends r i a
unfolding next_fits
none_from r zero j i a f = refl
none_from r (suc n) j i a f = rw (ne_eqb (r.mark j) 1 (f j (omega arith))) (none_from r n (suc j) i a (λ m le. f m (omega arith)))

-- the end of the last packet heard below the place end is that of the last one heard at all
end_same : (r : Held) (n m : ℕ) → n ≤ m → ((j : ℕ) → n ≤ j → r.mark j ≡ 1 → ⊥) → (end_to r m ≡ end_to r n) × (octets_to r m ≡ octets_to r n)
end_same r n m le f = go m le
  where
    go : (m : ℕ) → n ≤ m → (end_to r m ≡ end_to r n) × (octets_to r m ≡ octets_to r n)
    go zero le = let z : n ≡ 0 = omega arith in (rw z refl, rw z refl)
    go (suc m) le =
        ⊎_elim
        (λ (t : eqb n (suc m) ≡ true). let e = eqb-true n (suc m) t in (rw e refl, rw e refl))
        (λ (t : eqb n (suc m) ≡ false).
        let ne = eqb-false n (suc m) t in
        let lt : n ≤ m = omega (arith, ne) in
        let p = end_unheard r m (ne_eqb _ _ (f m lt)) in
        let q = go m lt in
        (p.0 ∙ q.0, p.1 ∙ q.1))
        (either (eqb n (suc m)))

pub last_end : (marks elapsed sizes : List ℕ) (end i a : ℕ) → NoneFrom marks end → EndBelow marks elapsed sizes end i a
    → EndBelow marks elapsed sizes (length marks) i a
last_end marks elapsed sizes end i a o b =
    record { number_is = λ h. b.number_is h ∙ sym (z h).0; octets_are = λ h. b.octets_are h ∙ sym (z h).1 }
  where
    z : (h : Head) → (end_to (held_in h marks elapsed sizes) (length marks) ≡ end_to (held_in h marks elapsed sizes) end)
        × (octets_to (held_in h marks elapsed sizes) (length marks) ≡ octets_to (held_in h marks elapsed sizes) end)
    z h = end_same (held_in h marks elapsed sizes) end (length marks) o.inside o.none

-- nothing was heard from j up to k, nor before the place first
pub record Down (first : ℕ) (marks elapsed sizes : List ℕ) (k j : ℕ) : Type 0 where
  pub here : j ≤ k
  pub room : k ≤ length marks
  pub none : NoneBefore marks first
  pub number_same : (h : Head) → end_to (held_in h marks elapsed sizes) k ≡ end_to (held_in h marks elapsed sizes) j
  pub octets_same : (h : Head) → octets_to (held_in h marks elapsed sizes) k ≡ octets_to (held_in h marks elapsed sizes) j

module _ (first : ℕ) (marks elapsed sizes : List ℕ) (k j : ℕ) (d : Down first marks elapsed sizes k j) where
  pub down_none : j ≤ first → EndBelow marks elapsed sizes k 0 0
  down_none le =
      record { number_is = λ h. sym (d.number_same h ∙ (z h).0); octets_are = λ h. sym (d.octets_same h ∙ (z h).1) }
    where
      z : (h : Head) → (end_to (held_in h marks elapsed sizes) j ≡ 0) × (octets_to (held_in h marks elapsed sizes) j ≡ 0)
      z h = none_before (held_in h marks elapsed sizes) j (λ i lt. d.none.none i (omega arith))

  module _ (lt : first < j) where
    one_more : j ≡ suc (j - 1)
    one_more = omega arith

    pub down_found : get_or marks (j - 1) 0 ≡ 1 → (e l : ℕ) → e ≡ get_or elapsed (j - 1) 0 → l ≡ get_or sizes (j - 1) 0 → EndBelow marks elapsed sizes k (j - 1 + 1) (e + l)
    down_found t e l el ll =
        record {
          number_is = λ h. sym (d.number_same h ∙ ap (end_to (held_in h marks elapsed sizes)) one_more ∙ (end_heard (held_in h marks elapsed sizes) (j - 1) (eq-eqb _ _ t)).0 ∙ sym (add-one (j - 1)));
          octets_are = λ h.
              rw (el, ll) (sym (d.octets_same h ∙ ap (octets_to (held_in h marks elapsed sizes)) one_more ∙ (end_heard (held_in h marks elapsed sizes) (j - 1) (eq-eqb _ _ t)).1));
        }

    pub down_on : (get_or marks (j - 1) 0 ≡ 1 → ⊥) → Down first marks elapsed sizes k (j - 1)
    down_on t =
        record {
          here = omega (arith, d.here);
          room = d.room;
          none = d.none;
          number_same = λ h. d.number_same h ∙ ap (end_to (held_in h marks elapsed sizes)) one_more ∙ (end_unheard (held_in h marks elapsed sizes) (j - 1) (ne_eqb _ _ t)).0;
          octets_same = λ h. d.octets_same h ∙ ap (octets_to (held_in h marks elapsed sizes)) one_more ∙ (end_unheard (held_in h marks elapsed sizes) (j - 1) (ne_eqb _ _ t)).1;
        }

-- nothing was heard from k up to j, nor from the place end on
pub record Up (r : Held) (end k i a j : ℕ) : Type 0 where
  pub limit : end ≤ r.capacity
  pub none : (m : ℕ) → end ≤ m → r.mark m ≡ 1 → ⊥
  pub after : i ≤ j
  pub same : next_fits r (r.capacity - k) k i a ≡ next_fits r (r.capacity - j) j i a

module _ (r : Held) (end k i a j : ℕ) (u : Up r end k i a j) where
  module _ (lt : j < end) where
    left : r.capacity - j ≡ suc (r.capacity - (j + 1))
    left = one_less r.capacity j (omega (arith, u.limit))

    pub up_found : r.mark j ≡ 1 → (e l : ℕ) → e ≡ r.elapsed j → l ≡ r.size j → (b : Bool) → b ≡ fits i a j e l → b ≡ next_fits r (r.capacity - k) k i a
    unfolding next_fits
    up_found t e l el ll b fit = fit ∙ rw (el, ll) (sym (u.same ∙ rw (left, eq-eqb _ _ t)))

    pub up_on : (r.mark j ≡ 1 → ⊥) → Up r end k i a (j + 1)
    unfolding next_fits
    up_on t =
        record { limit = u.limit; none = u.none; after = omega (arith, u.after); same = u.same ∙ rw (left, ne_eqb _ _ t, add-one j) }

  pub up_none : end ≤ j → (b : Bool) → b ≡ ends r i a → b ≡ next_fits r (r.capacity - k) k i a
  up_none h b e = e ∙ sym (u.same ∙ none_from r (r.capacity - j) j i a (λ m le. u.none m (omega arith)))
