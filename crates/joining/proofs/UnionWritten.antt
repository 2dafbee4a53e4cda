-- Lists over which the union is written from the front on: the first places are as joined, the others as they were. Assumes nothing.
use Prim.Native.Nat.{ℕ, ◌+◌, ◌≤◌, ◌<◌}
use mathlib.Core.Path.{◌≡◌, refl, sym, ap, ◌∙◌}
use mathlib.Core.Logic.{⊎_elim}
use mathlib.Core.Bool.{true, false, cond}
use mathlib.Core.List.{List}
use native.Mathlib.Omega.{arith}
use lib.Dec.{eqb, ltb}
use lib.Bits.{bit_or}
use lib.ListN.{length, get_or, set, length-set}
use lib.Seq.{get_or-set_same, get_or-set_other, ext_get_or}
use borrow.Author.Tests.{ltb-true, ltb-false}
use Rattle.fields.proofs.Tests.{either}
use Rattle.reception.specs.Damage.{Matched}
use Rattle.reception.specs.Joining.{chosen}
use Rattle.joining.specs.EitherByBits.{BitsChoose, EitherByBits}
use Rattle.reception.proofs.JoinedAsHeld.{length_chosen, read_chosen}

-- s is old, with the first k places chosen
pub record Partly (marks old other s : List ℕ) (k : ℕ) : Type 0 where
  pub long : length s ≡ length old
  pub joined : (j : ℕ) → j < k → get_or s j 0 ≡ cond (eqb (get_or marks j 0) 1) (get_or old j 0) (get_or other j 0)
  pub rest : (j : ℕ) → k ≤ j → get_or s j 0 ≡ get_or old j 0

nothing_chosen : (marks old other : List ℕ) → Partly marks old other old 0
nothing_chosen marks old other = record { long = refl; joined = λ j lt. absurd (omega arith); rest = λ j _. refl }

-- the next place, where the bits of both are put together
one_merged : (marks old other s : List ℕ) (k x : ℕ) → BitsChoose marks old other → k < length marks → k < length s
    → x ≡ bit_or (get_or s k 0) (get_or other k 0) → Partly marks old other s k → Partly marks old other (set s k x) (k + 1)
one_merged marks old other s k x bits here lt xe p =
    record {
      long = length-set s k x ∙ p.long;
      joined = λ j le.
          ⊎_elim
          (λ (u : ltb j k ≡ true).
          let q = ltb-true j k u in
          get_or-set_other s k j x 0 (λ e. omega (arith, e)) ∙ p.joined j q)
          (λ (u : ltb j k ≡ false).
          let q = ltb-false j k u in
          let e : j ≡ k = omega arith in
          rw e
          (get_or-set_same s k x 0 lt
          ∙ xe
          ∙ ap (λ (y : ℕ). bit_or y (get_or other k 0)) (p.rest k (omega arith))
          ∙ bits k here)) (either (ltb j k));
      rest = λ j le. get_or-set_other s k j x 0 (λ e. omega (arith, e)) ∙ p.rest j (omega arith);
    }

-- past the last place the whole list is chosen
all_chosen : (marks old other s : List ℕ) (k : ℕ) → length old ≡ length marks → length other ≡ length marks → length marks ≤ k → Partly marks old other s k
    → s ≡ chosen marks old other
all_chosen marks old other s k lo lr le p =
    ext_get_or 0 s (chosen marks old other) (p.long ∙ sym (length_chosen marks old other))
    (λ j lt. p.joined j (omega (arith, p.long, lo)) ∙ sym (read_chosen marks old other lo lr j))

-- the loop is at place k of three lists
pub record Writing (marks₀ elapsed₀ sizes₀ om oe os marks elapsed sizes : List ℕ) (k : ℕ) : Type 0 where
  pub here : k ≤ length marks₀
  pub left : Matched marks₀ elapsed₀ sizes₀
  pub right : Matched om oe os
  pub same : length marks₀ ≡ length om
  pub bits : EitherByBits marks₀ elapsed₀ sizes₀ om oe os
  pub marks_are : Partly marks₀ marks₀ om marks k
  pub elapsed_are : Partly marks₀ elapsed₀ oe elapsed k
  pub sizes_are : Partly marks₀ sizes₀ os sizes k

pub write_start : (marks elapsed sizes om oe os : List ℕ) → Matched marks elapsed sizes → Matched om oe os → length marks ≡ length om
    → EitherByBits marks elapsed sizes om oe os → Writing marks elapsed sizes om oe os marks elapsed sizes 0
write_start marks elapsed sizes om oe os m n e b =
    record {
      here = omega arith;
      left = m;
      right = n;
      same = e;
      bits = b;
      marks_are = nothing_chosen _ _ _;
      elapsed_are = nothing_chosen _ _ _;
      sizes_are = nothing_chosen _ _ _;
    }

module _ (marks₀ elapsed₀ sizes₀ om oe os marks elapsed sizes : List ℕ) (k : ℕ) (w : Writing marks₀ elapsed₀ sizes₀ om oe os marks elapsed sizes k) where
  pub write_merged : k < length marks → (x y z : ℕ) → x ≡ bit_or (get_or marks k 0) (get_or om k 0) → y ≡ bit_or (get_or elapsed k 0) (get_or oe k 0)
      → z ≡ bit_or (get_or sizes k 0) (get_or os k 0) → Writing marks₀ elapsed₀ sizes₀ om oe os (set marks k x) (set elapsed k y) (set sizes k z) (k + 1)
  write_merged lt x y z xe ye ze =
      let long : k < length marks₀ = omega (arith, w.marks_are.long) in
      record {
        here = omega (arith, long);
        left = w.left;
        right = w.right;
        same = w.same;
        bits = w.bits;
        marks_are = one_merged _ _ _ _ _ _ w.bits.marks_by long lt xe w.marks_are;
        elapsed_are = one_merged _ _ _ _ _ _ w.bits.elapsed_by long (omega (arith, w.elapsed_are.long, w.left.elapseds, long)) ye
            w.elapsed_are;
        sizes_are = one_merged _ _ _ _ _ _ w.bits.sizes_by long (omega (arith, w.sizes_are.long, w.left.lengths, long)) ze w.sizes_are;
      }

  pub write_end : length marks ≤ k → (marks ≡ chosen marks₀ marks₀ om) × (elapsed ≡ chosen marks₀ elapsed₀ oe) × (sizes ≡ chosen marks₀ sizes₀ os)
  write_end ge =
      let le : length marks₀ ≤ k = omega (arith, w.marks_are.long) in (
        all_chosen _ _ _ _ _ refl (sym w.same) le w.marks_are,
        all_chosen _ _ _ _ _ w.left.elapseds (w.right.elapseds ∙ sym w.same) le w.elapsed_are,
        all_chosen _ _ _ _ _ w.left.lengths (w.right.lengths ∙ sym w.same) le w.sizes_are,
      )
