-- A record of document 01's capacity passes the test for damage exactly if it is undamaged. Assumes nothing.
use Prim.Native.Nat.{ℕ, zero, suc, ◌≤◌, ◌<◌}
use mathlib.Core.Path.{◌≡◌, refl}
use mathlib.Core.Logic.{◌⊎◌, inl, inr, ⊎_elim}
use mathlib.Core.Bool.{Bool, true, false, not, ◌||◌, ◌&&◌}
use native.Mathlib.Omega.{arith}
use native.Mathlib.Nat.{not-suc-le-zero}
use lib.Dec.{ltb, eqb}
use borrow.Author.Tests.{ltb-false, le-ltb, eqb-true, not-false}
use Rattle.units.specs.Limits.{last_stamp, most_capacity}
use Rattle.fields.proofs.Tests.{or_false, or_no, either}
use Rattle.reception.specs.Sendings.{Held}
use Rattle.reception.specs.Walk.{is_explained}
use Rattle.frame.specs.Counts.{some_of}
use Rattle.reception.specs.Damage.{Undamaged, place_wrong, places_wrong, closing_off, walk_fails, damaged_record}
use Rattle.reception.proofs.Decided.{Sized, up_to, walk_explained, explained_walk}

both_zero : (a b : ℕ) → some_of a b ≡ false → (a ≡ 0) × (b ≡ 0)
unfolding some_of
both_zero a b h =
    let p = or_false (not (eqb a 0)) (not (eqb b 0)) h in
    (eqb-true a 0 (not-false _ p.0), eqb-true b 0 (not-false _ p.1))

zeros : (a b : ℕ) → (a ≡ 0) × (b ≡ 0) → some_of a b ≡ false
unfolding some_of
zeros a b h = rw (h.0, h.1)

-- what document 01 asks of one place
record Clean (m e l : ℕ) : Type 0 where
  marked : (m ≡ 1) ⊎ (m ≡ 0)
  empty : m ≡ 0 → (e ≡ 0) × (l ≡ 0)

place_clean : (m e l : ℕ) → place_wrong m e l ≡ false → Clean m e l
unfolding place_wrong
place_clean m e l h = ⊎_elim heard unheard (either (eqb m 1))
  where
    heard : eqb m 1 ≡ true → Clean m e l
    heard t = let q = eqb-true m 1 t in record { marked = inl q; empty = λ z. omega arith }

    unheard : eqb m 1 ≡ false → Clean m e l
    unheard t =
        let q : (not (eqb m 0) || some_of e l) ≡ false = rw t at h in
        let p = or_false (not (eqb m 0)) (some_of e l) q in
        record { marked = inr (eqb-true m 0 (not-false _ p.0)); empty = λ _. both_zero e l p.1 }

clean_place : (m e l : ℕ) → Clean m e l → place_wrong m e l ≡ false
unfolding place_wrong
clean_place m e l c =
    ⊎_elim (λ (t : m ≡ 1). rw t) (λ (t : m ≡ 0). let z = c.empty t in rw t (zeros e l z)) c.marked

places_clean : (r : Held) (n : ℕ) → places_wrong r n ≡ false → (k : ℕ) → k < n → Clean (r.mark k) (r.elapsed k) (r.size k)
unfolding places_wrong
places_clean r zero h k lt = absurd (not-suc-le-zero lt)
places_clean r (suc n) h k lt =
    let p = or_false (places_wrong r n) (place_wrong (r.mark n) (r.elapsed n) (r.size n)) h in
    up_to (λ (k : ℕ). Clean (r.mark k) (r.elapsed k) (r.size k)) n (places_clean r n p.0) (place_clean _ _ _ p.1) k lt

clean_places : (r : Held) (n : ℕ) → ((k : ℕ) → k < n → Clean (r.mark k) (r.elapsed k) (r.size k)) → places_wrong r n ≡ false
unfolding places_wrong
clean_places r zero f = refl
clean_places r (suc n) f = or_no (clean_places r n (λ k lt. f k (omega arith))) (clean_place _ _ _ (f n (omega arith)))

-- a closing that is not off
closing_on : (r : Held) → closing_off r.closed r.count r.total r.capacity ≡ false → (r.count ≤ r.capacity) × (r.closed ≡ false → (r.count ≡ 0) × (r.total ≡ 0))
unfolding closing_off
closing_on r h =
    let p = or_false (ltb r.capacity r.count) (not r.closed && some_of r.count r.total) h in
    (ltb-false _ _ p.0, λ f. both_zero _ _ (rw f at p.1))

on_closing : (r : Held) → r.count ≤ r.capacity → (r.closed ≡ false → (r.count ≡ 0) × (r.total ≡ 0)) → closing_off r.closed r.count r.total r.capacity ≡ false
unfolding closing_off
on_closing r le z = or_no (le-ltb _ _ le) (go r.closed refl)
  where
    go : (b : Bool) → r.closed ≡ b → (not b && some_of r.count r.total) ≡ false
    go true t = refl
    go false t = zeros _ _ (z t)

-- a record that passes is undamaged
pub passed_undamaged : (stamp : ℕ) (r : Held) → r.capacity ≤ most_capacity → damaged_record stamp r ≡ false → Undamaged stamp r
unfolding damaged_record walk_fails
passed_undamaged stamp r fits h =
    let p = or_false (ltb last_stamp stamp) _ h in
    let c = or_false (closing_off r.closed r.count r.total r.capacity) _ p.1 in
    let q = or_false (places_wrong r r.capacity) (not (is_explained r)) c.1 in
    let w = closing_on r c.0 in
    let s : Sized r = record { capacity_fits = fits; count_fits = λ _. omega (arith, fits, w.0) } in
    record {
      in_range = ltb-false _ _ p.0;
      marks = λ k lt. (places_clean r _ q.0 k lt).marked;
      unheard = λ k lt. (places_clean r _ q.0 k lt).empty;
      unclosed = w.1;
      within = w.0;
      explained = walk_explained r s (not-false _ q.1);
    }

-- an undamaged record passes
pub undamaged_passed : (stamp : ℕ) (r : Held) → Undamaged stamp r → damaged_record stamp r ≡ false
unfolding damaged_record walk_fails
undamaged_passed stamp r u =
    let places = clean_places r r.capacity (λ k lt. record { marked = u.marks k lt; empty = u.unheard k lt }) in
    let walked : not (is_explained r) ≡ false = rw (explained_walk r u.explained.0 u.explained.1) in
    or_no (le-ltb _ _ u.in_range) (or_no (on_closing r u.within u.unclosed) (or_no places walked))
