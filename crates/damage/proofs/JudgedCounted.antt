-- How a record that is judged, and its gaps counted, in one pass meets its promise. Assumes nothing.
use Prim.Native.Nat.{ℕ, suc, ◌+◌, ◌≤◌}
use mathlib.Core.Path.{◌≡◌, refl, sym, ap, ◌∙◌}
use mathlib.Core.Bool.{Bool, true, false}
use mathlib.Core.List.{List}
use native.Mathlib.Numerals.{add-one}
use native.Mathlib.Omega.{arith}
use lib.ListN.{length, get_or}
use borrow.Author.Tests.{eq-eqb, ne_eqb}
use Rattle.reception.specs.Sendings.{Held, held_in}
use Rattle.reception.specs.Walk.{is_heard}
use Rattle.reception.specs.Neighbours.{end_to, octets_to}
use Rattle.reception.proofs.NeighboursDecide.{end_heard, end_unheard}
use Rattle.std.specs.Prelude.{Option, Some, None}
use Rattle.damage.specs.declared.judging.Judged.{Judged}
use Rattle.damage.specs.Judging.{gap_between, gaps_to, Ended, Judges}

-- the gaps, place by place
pub gaps_one : (r : Held) (n : ℕ) → is_heard r n ≡ true → gaps_to r (suc n) ≡ gaps_to r n + gap_between (end_to r n) n
unfolding gaps_to
gaps_one r n h = rw h

pub gaps_none : (r : Held) (n : ℕ) → is_heard r n ≡ false → gaps_to r (suc n) ≡ gaps_to r n
unfolding gaps_to
gaps_none r n h = rw h (omega arith)

-- before the first place nothing ends
pub ended_start : (marks elapsed sizes : List ℕ) → Ended marks elapsed sizes 0 0 0 0
unfolding end_to octets_to gaps_to
ended_start marks elapsed sizes =
    record { end_is = λ h. refl; before_is = λ h. refl; gaps_are = λ h. refl; gaps_few = omega arith }

module _ (marks elapsed sizes : List ℕ) (k end before gaps : ℕ) (t : Ended marks elapsed sizes k end before gaps) where
  -- packet k was heard
  pub ended_heard : get_or marks k 0 ≡ 1 → (e l b : ℕ) → e ≡ get_or elapsed k 0 → l ≡ get_or sizes k 0 → (b ≡ gap_between end k) × (b ≤ 1)
      → Ended marks elapsed sizes (k + 1) (k + 1) (e + l) (gaps + b)
  ended_heard m e l b el ll bl =
      rw (add-one k)
      (record {
        end_is = λ h. sym (end_heard (held_in h marks elapsed sizes) k (eq-eqb _ _ m)).0;
        before_is = λ h. omega (arith, el, ll, (end_heard (held_in h marks elapsed sizes) k (eq-eqb _ _ m)).1);
        gaps_are = λ h.
            let same : gap_between end k ≡ gap_between (end_to (held_in h marks elapsed sizes) k) k = ap (λ (x : ℕ). gap_between x k) (t.end_is h) in
            omega (arith, t.gaps_are h, bl.0, same, gaps_one (held_in h marks elapsed sizes) k (eq-eqb _ _ m));
        gaps_few = omega (arith, t.gaps_few, bl.1);
      })

  -- or not
  pub ended_unheard : (get_or marks k 0 ≡ 1 → ⊥) → Ended marks elapsed sizes (k + 1) end before gaps
  ended_unheard m =
      rw (add-one k)
      (record {
        end_is = λ h. t.end_is h ∙ sym (end_unheard (held_in h marks elapsed sizes) k (ne_eqb _ _ m)).0;
        before_is = λ h. t.before_is h ∙ sym (end_unheard (held_in h marks elapsed sizes) k (ne_eqb _ _ m)).1;
        gaps_are = λ h. t.gaps_are h ∙ sym (gaps_none (held_in h marks elapsed sizes) k (ne_eqb _ _ m));
        gaps_few = omega (arith, t.gaps_few);
      })

-- of a damaged record nothing is said
pub judged_off : {b : Bool} (marks elapsed sizes : List ℕ) → true ≡ b → Judges b marks elapsed sizes None
judged_off marks elapsed sizes e = record { says = e; counts = record {} }

-- all places were passed
pub ended_all : (marks elapsed sizes : List ℕ) (k end before gaps : ℕ) → length marks ≤ k → k ≤ length marks → Ended marks elapsed sizes k end before gaps
    → Ended marks elapsed sizes (length marks) end before gaps
ended_all marks elapsed sizes k end before gaps le ge t = let e : k ≡ length marks = omega arith in rw e at t

-- all places of a record that is not damaged
pub judged_fit : {b : Bool} (marks elapsed sizes : List ℕ) (j : Judged) → false ≡ b → Ended marks elapsed sizes (length marks) j.end.0 j.before.0 j.gaps
    → Judges b marks elapsed sizes (Some j)
judged_fit marks elapsed sizes j e t = record { says = e; counts = t }

-- a promise about a test that is another one's name
pub same_judged : {b d : Bool} {marks elapsed sizes : List ℕ} {r : Option Judged} → b ≡ d → Judges b marks elapsed sizes r → Judges d marks elapsed sizes r
same_judged e p = rw e at p

-- what a caller knows by the answer
pub judged_none : {b : Bool} {marks elapsed sizes : List ℕ} {r : Option Judged} → r ≡ None → Judges b marks elapsed sizes r → b ≡ true
judged_none e p = sym (rw e at p).says

pub judged_some : {b : Bool} {marks elapsed sizes : List ℕ} {r : Option Judged} (j : Judged) → r ≡ Some j → Judges b marks elapsed sizes r
    → (b ≡ false) × Ended marks elapsed sizes (length marks) j.end.0 j.before.0 j.gaps
judged_some j e p = let q = rw e at p in (sym q.says, q.counts)
