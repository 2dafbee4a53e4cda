-- An undamaged record holds zeros outside of the span in which packets were heard. Assumes nothing.
use Prim.Native.Nat.{ℕ, ◌≤◌, ◌<◌}
use mathlib.Core.Path.{◌≡◌, refl}
use mathlib.Core.Logic.{◌⊎◌, ⊎_elim}
use mathlib.Core.Bool.{true, false}
use mathlib.Core.List.{List}
use native.Mathlib.Omega.{arith}
use lib.Dec.{ltb}
use lib.ListN.{length, get_or, get_or-eq_default}
use borrow.Author.Tests.{ltb-true, ltb-false}
use Rattle.fields.proofs.Tests.{either}
use Rattle.reception.specs.declared.Head.{Head}
use Rattle.reception.specs.Sendings.{held_in}
use Rattle.reception.specs.Damage.{Matched}
use Rattle.reception.specs.Hearing.{kept_in, damaged_kept}
use Rattle.reception.specs.Neighbours.{NoneBefore, NoneFrom}
use Rattle.reception.proofs.DamagedExactly.{passed_undamaged}
use Rattle.hearing.specs.declared.contradicting.Span.{Span}
use Rattle.hearing.specs.Following.{ZerosOutside}

-- an undamaged record, in which nothing was heard outside of the span
module _ (h : Head) (s : Span) (marks elapsed sizes : List ℕ) (m : Matched marks elapsed sizes) (o : NoneBefore marks s.first) (f : NoneFrom marks s.end)
    (u : damaged_kept (kept_in h marks elapsed sizes) ≡ false) where
  -- what was not heard holds zeros
  unheard : (j : ℕ) → (get_or marks j 0 ≡ 1 → ⊥) → (get_or marks j 0 ≡ 0) × (get_or elapsed j 0 ≡ 0) × (get_or sizes j 0 ≡ 0)
  unheard j off =
      ⊎_elim
      (λ (t : ltb j (length marks) ≡ true).
      let p = passed_undamaged h.stamp (held_in h marks elapsed sizes) m.room u in
      let lt = ltb-true j (length marks) t in
      ⊎_elim (λ (one : get_or marks j 0 ≡ 1). absurd (off one)) (λ (z : get_or marks j 0 ≡ 0). let w = p.unheard j lt z in (z, w.0, w.1)) (p.marks j lt))
      (λ (t : ltb j (length marks) ≡ false).
      let ge = ltb-false j (length marks) t in (
        get_or-eq_default marks 0 ge,
        get_or-eq_default elapsed 0 (omega (arith, ge, m.elapseds)),
        get_or-eq_default sizes 0 (omega (arith, ge, m.lengths)),
      ))
      (either (ltb j (length marks)))

  outside : (j : ℕ) → (j < s.first) ⊎ (s.end ≤ j) → get_or marks j 0 ≡ 1 → ⊥
  outside j = ⊎_elim (λ (lt : j < s.first). o.none j lt) (λ (le : s.end ≤ j). f.none j le)

  pub heard_outside : ZerosOutside s marks elapsed sizes
  heard_outside =
      record {
        inside = f.inside;
        marks_zero = record { long = refl; zeros = λ j q. (unheard j (outside j q)).0 };
        elapsed_zero = record { long = m.elapseds; zeros = λ j q. (unheard j (outside j q)).1 };
        sizes_zero = record { long = m.lengths; zeros = λ j q. (unheard j (outside j q)).2 };
      }
