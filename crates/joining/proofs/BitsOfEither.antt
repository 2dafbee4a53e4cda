-- Of two records that can be joined and do not contradict, the bits of both, put together, are what either heard: a place that was not
-- heard holds zeros, and what both heard is the same. Assumes nothing.
use Prim.Native.Nat.{ℕ, ◌<◌}
use mathlib.Core.Path.{◌≡◌, sym, ap, ◌∙◌}
use mathlib.Core.Logic.{◌⊎◌, ⊎_elim}
use mathlib.Core.Bool.{cond}
use native.Mathlib.Omega.{arith}
use lib.Dec.{eqb}
use lib.Bits.{bit_or, or_self, or_zero_l, or_zero_r}
use lib.ListN.{length}
use borrow.Author.Tests.{eq-eqb}
use Rattle.reception.specs.Sendings.{Heard}
use Rattle.reception.specs.Hearing.{Kept, held_by}
use Rattle.reception.specs.Joining.{JoinOutcome, joined_kept, joins, join_records}
use Rattle.reception.proofs.HearingUndamaged.{sound_undamaged}
use Rattle.reception.proofs.ExplainedTogether.{heard_left}
use Rattle.reception.proofs.JoinJudged.{Joinable}
use Rattle.reception.proofs.JoinRefusedExactly.{done_together}
use Rattle.joining.specs.EitherByBits.{EitherByBits}

-- one place, with marks m and n
bits_chosen : (m n x y : ℕ) → (m ≡ 1) ⊎ (m ≡ 0) → (n ≡ 1) ⊎ (n ≡ 0) → (m ≡ 0 → x ≡ 0) → (n ≡ 0 → y ≡ 0) → (m ≡ 1 → n ≡ 1 → x ≡ y)
    → bit_or x y ≡ cond (eqb m 1) x y
bits_chosen m n x y u v p q r =
    ⊎_elim
    (λ (a : m ≡ 1).
    rw (eq-eqb _ _ a)
    (⊎_elim (λ (b : n ≡ 1). rw (sym (r a b)) (or_self x)) (λ (b : n ≡ 0). rw (q b) (or_zero_r x)) v))
    (λ (a : m ≡ 0). rw (p a, a) (or_zero_l y)) u

module _ (a b : Kept) (j : Joinable a b) (e : join_records a b ≡ joins (joined_kept a b)) where
  pub either_by_bits : EitherByBits a.marks a.elapsed a.sizes b.marks b.elapsed b.sizes
  either_by_bits =
      let u = sound_undamaged a j.left in
      let v = sound_undamaged b j.right in
      let t = done_together a b j (ap (λ (o : JoinOutcome). o.answer) e) in
      let there : (k : ℕ) → k < length a.marks → k < length b.marks = λ k lt. omega (arith, j.long) in
      let left : (k : ℕ) → k < length a.marks → (held_by a).mark k ≡ 1 → Heard (held_by a) k = λ k lt h.
      heard_left (held_by a) k (eq-eqb _ _ h) lt in
      let right : (k : ℕ) → k < length a.marks → (held_by b).mark k ≡ 1 → Heard (held_by b) k = λ k lt h.
      heard_left (held_by b) k (eq-eqb _ _ h) (there k lt) in
      record {
        marks_by = λ k lt. bits_chosen _ _ _ _ (u.marks k lt) (v.marks k (there k lt)) (λ z. z) (λ z. z) (λ x y. x ∙ sym y);
        elapsed_by = λ k lt.
            bits_chosen _ _ _ _ (u.marks k lt) (v.marks k (there k lt)) (λ z. (u.unheard k lt z).0) (λ z. (v.unheard k (there k lt) z).0)
            (λ x y. sym (t.1.packets k (left k lt x)).before_is ∙ (t.2.packets k (right k lt y)).before_is);
        sizes_by = λ k lt.
            bits_chosen _ _ _ _ (u.marks k lt) (v.marks k (there k lt)) (λ z. (u.unheard k lt z).1) (λ z. (v.unheard k (there k lt) z).1)
            (λ x y. sym (t.1.packets k (left k lt x)).length_is ∙ (t.2.packets k (right k lt y)).length_is);
      }
