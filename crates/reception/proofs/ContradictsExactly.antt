-- A packet, or a closing, contradicts a record exactly if no sending that explains the record has it. Assumes nothing.
use Prim.Native.Nat.{ℕ, ◌≤◌, ◌<◌}
use mathlib.Core.Path.{◌≡◌, refl, sym, ◌∙◌}
use mathlib.Core.Logic.{⊎_elim}
use mathlib.Core.Bool.{Bool, true, false, cond, not, false≢true}
use mathlib.Core.List.{List}
use lib.Dec.{eqb}
use borrow.Author.Tests.{eqb-true, eqb-false, eq-eqb, not-false}
use Rattle.units.specs.Limits.{most_in_sequence}
use Rattle.reception.specs.Sendings.{Held, Heard, Sent, Whole, Explains, Explained}
use Rattle.reception.specs.Walk.{is_heard, is_explained}
use Rattle.reception.specs.Adding.{with_packet, with_closing, differ, packet_contradicts, closing_contradicts}
use Rattle.fields.proofs.Tests.{either, both}
use Rattle.reception.proofs.Decided.{Sized, walk_explained, explained_walk}

-- equal pairs do not differ
alike : (a b c d : ℕ) → differ a b c d ≡ false → (a ≡ c) × (b ≡ d)
alike a b c d h = let p = both (eqb a c) (eqb b d) (not-false _ h) in (eqb-true a c p.0, eqb-true b d p.1)

pub same_pair : (a b c d : ℕ) → a ≡ c → b ≡ d → differ a b c d ≡ false
same_pair a b c d p q = rw (eq-eqb a c p, eq-eqb b d q)

-- what explains a record and has the packet explains the record with it
pub explains_added : (r : Held) (k e l : ℕ) (s : List ℕ) → Explains r s → Sent s k e l → Explains (with_packet r k e l) s
explains_added r k e l s h w = record { sending = h.sending; packets = λ j q. go j q.below q.marked (eqb j k) refl; closing = h.closing }
  where
    go : (j : ℕ) → j < r.capacity → cond (eqb j k) 1 (r.mark j) ≡ 1 → (b : Bool) → eqb j k ≡ b
        → Sent s j (cond (eqb j k) e (r.elapsed j)) (cond (eqb j k) l (r.size j))
    go j lt m true t = let i = eqb-true j k t in rw t (rw i w)
    go j lt m false t = rw t (h.packets j (record { below = lt; marked = rw t at m }))

-- and the other way round, where the packet is new
pub added_explains : (r : Held) (k e l : ℕ) (s : List ℕ) → k < r.capacity → is_heard r k ≡ false → Explains (with_packet r k e l) s
    → Explains r s × Sent s k e l
added_explains r k e l s lt new h = (record { sending = h.sending; packets = λ j q. held j q (eqb j k) refl; closing = h.closing }, there)
  where
    held : (j : ℕ) → Heard r j → (b : Bool) → eqb j k ≡ b → Sent s j (r.elapsed j) (r.size j)
    held j q true t = let i = eqb-true j k t in absurd (eqb-false (r.mark k) 1 new (rw i at q.marked))
    held j q false t = rw t at (h.packets j (record { below = q.below; marked = rw t q.marked }))

    there : Sent s k e l
    there = rw (eq-eqb k k refl) at (h.packets k (record { below = lt; marked = rw (eq-eqb k k refl) }))

-- where a packet does not contradict, a sending explains the record and has it
pub packet_agrees : (r : Held) (k e l : ℕ) → Sized r → k < r.capacity → Explained r → packet_contradicts r k e l ≡ false
    → (s : List ℕ) × Explains r s × Sent s k e l
unfolding packet_contradicts
packet_agrees r k e l z lt x h = ⊎_elim held new (either (is_heard r k))
  where
    held : is_heard r k ≡ true → (s : List ℕ) × Explains r s × Sent s k e l
    held t =
        let p = alike (r.elapsed k) (r.size k) e l (rw t at h) in
        let w = x.1.packets k (record { below = lt; marked = eqb-true _ _ t }) in
        (x.0, x.1, rw (p.0, p.1) at w)

    new : is_heard r k ≡ false → (s : List ℕ) × Explains r s × Sent s k e l
    new t =
        let c : not (is_explained (with_packet r k e l)) ≡ false = rw t at h in
        let y =
        walk_explained (with_packet r k e l) (record { capacity_fits = z.capacity_fits; count_fits = z.count_fits }) (not-false _ c)
        in
        let p = added_explains r k e l y.0 lt t y.1 in
        (y.0, p.0, p.1)

-- where some sending explains the record and has the packet, it does not contradict
pub agreeing_packet : (r : Held) (k e l : ℕ) (s : List ℕ) → k < r.capacity → Explains r s → Sent s k e l → packet_contradicts r k e l ≡ false
unfolding packet_contradicts
agreeing_packet r k e l s lt x w = ⊎_elim held new (either (is_heard r k))
  where
    held : is_heard r k ≡ true → packet_contradicts r k e l ≡ false
    held t =
        let v = x.packets k (record { below = lt; marked = eqb-true _ _ t }) in
        rw t (same_pair _ _ _ _ (sym v.before_is ∙ w.before_is) (sym v.length_is ∙ w.length_is))

    new : is_heard r k ≡ false → packet_contradicts r k e l ≡ false
    new t = rw (t, explained_walk (with_packet r k e l) s (explains_added r k e l s x w))

-- the same of a closing
pub explains_closed : (r : Held) (n t : ℕ) (s : List ℕ) → Explains r s → Whole s n t → Explains (with_closing r n t) s
explains_closed r n t s h w =
    record { sending = h.sending; packets = λ j q. h.packets j (record { below = q.below; marked = q.marked }); closing = λ _. w }

pub closed_explains : (r : Held) (n t : ℕ) (s : List ℕ) → r.closed ≡ false → Explains (with_closing r n t) s → Explains r s × Whole s n t
closed_explains r n t s f h = (
  record {
    sending = h.sending;
    packets = λ j q. h.packets j (record { below = q.below; marked = q.marked });
    closing = λ c. absurd (false≢true (sym f ∙ c));
  },
  h.closing refl,
)

pub closing_agrees : (r : Held) (n t : ℕ) → Sized r → n ≤ most_in_sequence → Explained r → closing_contradicts r n t ≡ false
    → (s : List ℕ) × Explains r s × Whole s n t
unfolding closing_contradicts
closing_agrees r n t z le x h = ⊎_elim held new (either r.closed)
  where
    held : r.closed ≡ true → (s : List ℕ) × Explains r s × Whole s n t
    held c =
        let p = alike r.count r.total n t (rw c at h) in
        (x.0, x.1, rw (p.0, p.1) at (x.1.closing c))

    new : r.closed ≡ false → (s : List ℕ) × Explains r s × Whole s n t
    new c =
        let d : not (is_explained (with_closing r n t)) ≡ false = rw c at h in
        let y = walk_explained (with_closing r n t) (record { capacity_fits = z.capacity_fits; count_fits = λ _. le }) (not-false _ d) in
        let p = closed_explains r n t y.0 c y.1 in
        (y.0, p.0, p.1)

pub agreeing_closing : (r : Held) (n t : ℕ) (s : List ℕ) → Explains r s → Whole s n t → closing_contradicts r n t ≡ false
unfolding closing_contradicts
agreeing_closing r n t s x w = ⊎_elim held new (either r.closed)
  where
    held : r.closed ≡ true → closing_contradicts r n t ≡ false
    held c =
        let v = x.closing c in
        rw c (same_pair _ _ _ _ (sym v.count_is ∙ w.count_is) (sym v.total_is ∙ w.total_is))

    new : r.closed ≡ false → closing_contradicts r n t ≡ false
    new c = rw (c, explained_walk (with_closing r n t) s (explains_closed r n t s x w))
