-- Of an explained record only the neighbours decide whether a packet goes with it, and only the last packet whether a closing does.
-- Assumes nothing.
use Prim.Native.Nat.{ℕ, zero, suc, ◌+◌, ◌<◌}
use mathlib.Core.Path.{◌≡◌, refl, sym, ap, ◌∙◌}
use mathlib.Core.Logic.{⊎_elim}
use mathlib.Core.Bool.{Bool, true, false, ◌&&◌}
use native.Mathlib.Omega.{arith}
use borrow.Author.Tests.{eq-eqb, ne_eqb}
use Rattle.reception.specs.Sendings.{Held}
use Rattle.reception.specs.Walk.{fits, ends, is_heard, walk, is_explained}
use Rattle.reception.specs.Adding.{with_packet, with_closing}
use Rattle.reception.specs.Neighbours.{end_to, octets_to, next_fits}
use Rattle.reception.proofs.Points.{step_heard, step_unheard}
use Rattle.fields.proofs.Tests.{either, both, and_true}

-- the walk's state after each place
pub end_heard : (r : Held) (n : ℕ) → is_heard r n ≡ true → (end_to r (suc n) ≡ suc n) × (octets_to r (suc n) ≡ r.elapsed n + r.size n)
unfolding end_to octets_to
end_heard r n t = (rw t, rw t)

pub end_unheard : (r : Held) (n : ℕ) → is_heard r n ≡ false → (end_to r (suc n) ≡ end_to r n) × (octets_to r (suc n) ≡ octets_to r n)
unfolding end_to octets_to
end_unheard r n t = (rw t, rw t)

-- an explained record is accepted from every place on, and a heard packet there fits
pub walk_at : (r : Held) → is_explained r ≡ true → (k n : ℕ) → k + n ≡ r.capacity → walk r n k (end_to r k) (octets_to r k) ≡ true
unfolding is_explained end_to octets_to
walk_at r h zero n e = let z : n ≡ r.capacity = omega arith in rw z h
walk_at r h (suc k) n e =
    let w = walk_at r h k (suc n) (omega arith) in
    ⊎_elim
    (λ (t : is_heard r k ≡ true).
    let p = end_heard r k t in
    rw (p.0, p.1) (both (fits _ _ k (r.elapsed k) (r.size k)) (walk r n (suc k) (suc k) (r.elapsed k + r.size k)) (sym (step_heard r n k _ _ t) ∙ w)).1)
    (λ (t : is_heard r k ≡ false). let p = end_unheard r k t in rw (p.0, p.1) (sym (step_unheard r n k _ _ t) ∙ w))
    (either (is_heard r k))

-- a walk from any state on: the first packet heard decides
heard_decides : (r : Held) → is_explained r ≡ true → (n k i a : ℕ) → suc k + n ≡ r.capacity → is_heard r k ≡ true
    → walk r (suc n) k i a ≡ next_fits r (suc n) k i a
unfolding next_fits
heard_decides r h n k i a e t =
    let p = end_heard r k t in
    let w : walk r n (suc k) (suc k) (r.elapsed k + r.size k) ≡ true = rw (p.0, p.1) at (walk_at r h (suc k) n e) in
    let picked : next_fits r (suc n) k i a ≡ fits i a k (r.elapsed k) (r.size k) = rw t in
    step_heard r n k i a t ∙ ap (λ (b : Bool). fits i a k (r.elapsed k) (r.size k) && b) w ∙ and_true _ ∙ sym picked

next_decides : (r : Held) → is_explained r ≡ true → (n k i a : ℕ) → k + n ≡ r.capacity → walk r n k i a ≡ next_fits r n k i a
unfolding walk next_fits
next_decides r h zero k i a e = refl
next_decides r h (suc n) k i a e =
    ⊎_elim (heard_decides r h n k i a (omega arith))
    (λ (t : is_heard r k ≡ false).
    let picked : next_fits r (suc n) k i a ≡ next_fits r n (suc k) i a = rw t in
    step_unheard r n k i a t ∙ next_decides r h n (suc k) i a (omega arith) ∙ sym picked)
    (either (is_heard r k))

-- two records hold the same at a place
pub record Alike (b r : Held) (k : ℕ) : Type 0 where
  pub marks : b.mark k ≡ r.mark k
  pub elapseds : b.elapsed k ≡ r.elapsed k
  pub sizes : b.size k ≡ r.size k

-- there both are walked alike
alike_heard : (b r : Held) (n k i a : ℕ) → Alike b r k → is_heard r k ≡ true
    → walk b (suc n) k i a ≡ (fits i a k (r.elapsed k) (r.size k) && walk b n (suc k) (suc k) (r.elapsed k + r.size k))
unfolding walk
alike_heard b r n k i a p t = rw (p.marks, p.elapseds, p.sizes, t)

alike_unheard : (b r : Held) (n k i a : ℕ) → Alike b r k → is_heard r k ≡ false → walk b (suc n) k i a ≡ walk b n (suc k) i a
unfolding walk
alike_unheard b r n k i a p t = rw (p.marks, t)

-- a record that holds the same as an explained one up to a place is accepted up to there
one_step : (b r : Held) → is_explained r ≡ true → (k n : ℕ) → Alike b r k → suc k + n ≡ r.capacity
    → walk b (suc n) k (end_to r k) (octets_to r k) ≡ walk b n (suc k) (end_to r (suc k)) (octets_to r (suc k))
one_step b r h k n same q = ⊎_elim heard unheard (either (is_heard r k))
  where
    heard : is_heard r k ≡ true → walk b (suc n) k (end_to r k) (octets_to r k) ≡ walk b n (suc k) (end_to r (suc k)) (octets_to r (suc k))
    heard t =
        let w = sym (step_heard r n k _ _ t) ∙ walk_at r h k (suc n) (omega arith) in
        let f = (both (fits (end_to r k) (octets_to r k) k (r.elapsed k) (r.size k)) (walk r n (suc k) (suc k) (r.elapsed k + r.size k)) w).0 in
        let p = end_heard r k t in
        alike_heard b r n k _ _ same t ∙ rw (f, p.0, p.1) refl

    unheard : is_heard r k ≡ false → walk b (suc n) k (end_to r k) (octets_to r k) ≡ walk b n (suc k) (end_to r (suc k)) (octets_to r (suc k))
    unheard t = let p = end_unheard r k t in alike_unheard b r n k _ _ same t ∙ rw (p.0, p.1) refl

pub alike_up_to : (b r : Held) → is_explained r ≡ true → b.capacity ≡ r.capacity → (k n : ℕ) → ((j : ℕ) → j < k → Alike b r j)
    → k + n ≡ r.capacity → is_explained b ≡ walk b n k (end_to r k) (octets_to r k)
unfolding is_explained end_to octets_to
alike_up_to b r h c zero n same q = let z : b.capacity ≡ n = omega arith in rw z
alike_up_to b r h c (suc k) n same q =
    alike_up_to b r h c k (suc n) (λ j lt. same j (omega arith)) (omega arith) ∙ one_step b r h k n (same k (omega arith)) (omega arith)

-- a packet and the places beside it
away : (r : Held) (k e l j : ℕ) → (j ≡ k → ⊥) → Alike (with_packet r k e l) r j
away r k e l j off = let d = ne_eqb j k off in record { marks = rw d; elapseds = rw d; sizes = rw d }

past_it : (r : Held) (k e l n j i a : ℕ) → k < j → walk (with_packet r k e l) n j i a ≡ walk r n j i a
unfolding walk
past_it r k e l zero j i a lt = refl
past_it r k e l (suc n) j i a lt =
    let same = away r k e l j (λ q. omega (arith, q)) in
    ⊎_elim
    (λ (t : is_heard r j ≡ true).
    alike_heard (with_packet r k e l) r n j i a same t
    ∙ ap (λ (b : Bool). fits i a j (r.elapsed j) (r.size j) && b) (past_it r k e l n (suc j) _ _ (omega arith))
    ∙ sym (step_heard r n j i a t))
    (λ (t : is_heard r j ≡ false).
    alike_unheard (with_packet r k e l) r n j i a same t ∙ past_it r k e l n (suc j) i a (omega arith) ∙ sym (step_unheard r n j i a t))
    (either (is_heard r j))

at_it : (r : Held) (k e l n i a : ℕ)
    → walk (with_packet r k e l) (suc n) k i a ≡ (fits i a k e l && walk (with_packet r k e l) n (suc k) (suc k) (e + l))
unfolding walk
at_it r k e l n i a = rw (eq-eqb k k refl)

-- a packet goes with the record exactly if it fits after the last one heard before it, and the next one heard, or the closing, after it
pub packet_decided : (r : Held) (k e l : ℕ) → is_explained r ≡ true → (n : ℕ) → suc k + n ≡ r.capacity
    → is_explained (with_packet r k e l) ≡ (fits (end_to r k) (octets_to r k) k e l && next_fits r n (suc k) (suc k) (e + l))
packet_decided r k e l h n q =
    alike_up_to (with_packet r k e l) r h refl k (suc n) (λ j lt. away r k e l j (λ same. omega (arith, same))) (omega arith)
    ∙ at_it r k e l n _ _
    ∙ ap (λ (b : Bool). fits (end_to r k) (octets_to r k) k e l && b)
    (past_it r k e l n (suc k) _ _ (omega arith) ∙ next_decides r h n (suc k) (suc k) (e + l) (omega arith))

-- a closing goes with it exactly if it can come after the last packet heard
pub closing_decided : (r : Held) (n t : ℕ) → is_explained r ≡ true
    → is_explained (with_closing r n t) ≡ ends (with_closing r n t) (end_to r r.capacity) (octets_to r r.capacity)
unfolding walk
closing_decided r n t h =
    alike_up_to (with_closing r n t) r h refl r.capacity 0 (λ j _. record { marks = refl; elapseds = refl; sizes = refl }) (omega arith)
