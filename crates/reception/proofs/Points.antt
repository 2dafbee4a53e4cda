-- The points of a record, places at which the octets before are known: whatever explains the record goes through them, so every two of
-- them are within reach of each other; and if they are, the walk accepts. Assumes nothing.
use Prim.Native.Nat.{ℕ, zero, suc, ◌+◌, ◌*◌, ◌-◌, ◌≤◌}
use mathlib.Core.Path.{◌≡◌, refl, sym, ap, ◌∙◌}
use mathlib.Core.Logic.{⊎_elim}
use mathlib.Core.Bool.{Bool, true, false, not, ◌&&◌, ◌||◌}
use mathlib.Core.List.{List}
use native.Mathlib.Omega.{arith}
use lib.Dec.{leb, ltb}
use lib.ListN.{length, get_or-eq_default}
use borrow.Author.Tests.{le-leb, lt-leb, leb-true, leb-false, ltb-true, ltb-false, eqb-true}
use Rattle.units.specs.Limits.{most_payload}
use Rattle.fields.proofs.Tests.{either, both, and_yes}
use Rattle.reception.specs.Sendings.{Held, Heard, Sending, Explains}
use Rattle.reception.specs.Walk.{reach, fits, ends, may_end, is_heard, walk, is_explained}
use Rattle.reception.proofs.SumsBefore.{Short, before, before_start, before_next, before_end, climb}

-- there can be b octets before packet j where a are before packet i
abbrev pub Within : ℕ → ℕ → ℕ → ℕ → Type 0
Within i a j b = (a ≤ b) × (b + most_payload * i ≤ a + most_payload * j)

pub reached : (i a j b : ℕ) → Within i a j b → reach i a j b ≡ true
unfolding reach
reached i a j b h = and_yes (le-leb _ _ h.0) (le-leb _ _ h.1)

pub reach_says : (i a j b : ℕ) → reach i a j b ≡ true → Within i a j b
unfolding reach
reach_says i a j b h = let p = both (leb a b) (leb (b + most_payload * i) (a + most_payload * j)) h in (leb-true _ _ p.0, leb-true _ _ p.1)

-- the same by the distances, where neither falls
pub by_distance : (i a k e : ℕ) → i ≤ k → a ≤ e → leb (e - a) (most_payload * (k - i)) ≡ reach i a k e
unfolding reach
by_distance i a k e le h = ⊎_elim near far (either (leb (e - a) (most_payload * (k - i))))
  where
    up : leb a e ≡ true
    up = le-leb a e h

    near : leb (e - a) (most_payload * (k - i)) ≡ true → leb (e - a) (most_payload * (k - i)) ≡ (leb a e && leb (e + most_payload * i) (a + most_payload * k))
    near t =
        let p = leb-true (e - a) (most_payload * (k - i)) t in
        t ∙ sym (and_yes up (le-leb (e + most_payload * i) (a + most_payload * k) (omega arith)))

    far : leb (e - a) (most_payload * (k - i)) ≡ false → leb (e - a) (most_payload * (k - i)) ≡ (leb a e && leb (e + most_payload * i) (a + most_payload * k))
    far t =
        let p = leb-false (e - a) (most_payload * (k - i)) t in
        let q = lt-leb (e + most_payload * i) (a + most_payload * k) (omega arith) in
        t ∙ sym (rw (up, q) refl)

-- packet number and octets before it: at the start, before and after each packet heard, and at the closing
pub data Point (r : Held) : ℕ → ℕ → Type 0 where
  start : Point r 0 0
  opens : (k : ℕ) → Heard r k → Point r k (r.elapsed k)
  leaves : (k : ℕ) → Heard r k → Point r (suc k) (r.elapsed k + r.size k)
  end : r.closed ≡ true → Point r r.count r.total

-- every two points are within reach, and none is past the closing
pub record Pairwise (r : Held) : Type 0 where
  pub pairs : (i a j b : ℕ) → Point r i a → Point r j b → i ≤ j → Within i a j b
  pub last : r.closed ≡ true → (i a : ℕ) → Point r i a → i ≤ r.count

pub all_short : (s : List ℕ) → Sending s → Short s
all_short s h k =
    ⊎_elim (λ t. h.short k (ltb-true _ _ t)) (λ t. rw (get_or-eq_default s 0 (ltb-false _ _ t)) (omega arith)) (either (ltb k (length s)))

pub on_point : (r : Held) (s : List ℕ) (i a : ℕ) → Explains r s → Point r i a → (i ≤ length s) × (before s i ≡ a)
on_point r s i a h start = (omega arith, before_start s)
on_point r s i a h (opens k q) = (omega (arith, (h.packets k q).within), (h.packets k q).before_is)
on_point r s i a h (leaves k q) =
    ((h.packets k q).within, omega (arith, before_next s k, (h.packets k q).length_is, (h.packets k q).before_is))
on_point r s i a h (end c) =
    let w = h.closing c in (omega (arith, w.count_is), ap (before s) (sym w.count_is) ∙ before_end s ∙ w.total_is)

-- what some sending explains has its points within reach of each other
pub explains_pairs : (r : Held) (s : List ℕ) → Explains r s → Pairwise r
explains_pairs r s h =
    record {
      pairs = λ i a j b p q le.
          let x = on_point r s i a h p in
          let y = on_point r s j b h q in
          let z = climb s (all_short s h.sending) i j le in
          omega arith;
      last = λ c i a p. omega (arith, (on_point r s i a h p).0, (h.closing c).count_is);
    }

-- one step of the walk
pub step_heard : (r : Held) (n k i a : ℕ) → is_heard r k ≡ true
    → walk r (suc n) k i a ≡ (fits i a k (r.elapsed k) (r.size k) && walk r n (suc k) (suc k) (r.elapsed k + r.size k))
unfolding walk
step_heard r n k i a t = rw t

pub step_unheard : (r : Held) (n k i a : ℕ) → is_heard r k ≡ false → walk r (suc n) k i a ≡ walk r n (suc k) i a
unfolding walk
step_unheard r n k i a t = rw t

point_ends : (r : Held) → Pairwise r → (i a : ℕ) → Point r i a → ends r i a ≡ true
unfolding may_end
point_ends r p i a q = go r.closed refl
  where
    go : (b : Bool) → r.closed ≡ b → (not b || (leb i r.count && reach i a r.count r.total)) ≡ true
    go true c = and_yes (le-leb _ _ (p.last c i a q)) (reached _ _ _ _ (p.pairs _ _ _ _ q (end c) (p.last c i a q)))
    go false c = refl

point_fits : (r : Held) → Pairwise r → (k i a : ℕ) → Point r i a → i ≤ k → Heard r k → fits i a k (r.elapsed k) (r.size k) ≡ true
unfolding fits
point_fits r p k i a q le h =
    let l = p.pairs k (r.elapsed k) (suc k) (r.elapsed k + r.size k) (opens k h) (leaves k h) (omega arith) in
    and_yes (le-leb (r.size k) most_payload (omega arith)) (reached _ _ _ _ (p.pairs _ _ _ _ q (opens k h) le))

walks : (r : Held) → Pairwise r → (n k i a : ℕ) → k + n ≡ r.capacity → Point r i a → i ≤ k → walk r n k i a ≡ true
unfolding walk
walks r p zero k i a e q le = point_ends r p i a q
walks r p (suc n) k i a e q le =
    ⊎_elim
    (λ t.
    let h : Heard r k = record { below = omega arith; marked = eqb-true _ _ t } in
    step_heard r n k i a t ∙ and_yes (point_fits r p k i a q le h) (walks r p n (suc k) _ _ (omega arith) (leaves k h) (omega arith)))
    (λ t. step_unheard r n k i a t ∙ walks r p n (suc k) i a (omega arith) q (omega arith))
    (either (is_heard r k))

-- where every two points are within reach, the walk accepts
pub pairs_walk : (r : Held) → Pairwise r → is_explained r ≡ true
unfolding is_explained
pairs_walk r p = walks r p r.capacity 0 0 0 (omega arith) start (omega arith)
