-- How answers of a join meet the promise of the exported function. Assumes nothing.
use Prim.Native.Nat.{ℕ, ◌≤◌}
use mathlib.Core.Path.{◌≡◌, refl, ap, ◌∙◌}
use mathlib.Core.Bool.{false, not, ◌||◌}
use mathlib.Core.List.{List}
use native.Mathlib.Omega.{arith}
use lib.Dec.{ltb, eqb}
use lib.ListN.{length}
use borrow.Author.Tests.{le-ltb, ltb-true}
use Rattle.units.specs.Limits.{most_capacity}
use Rattle.fields.proofs.Tests.{or_false}
use Rattle.reception.specs.Answers.{Joined, Joining}
use Rattle.reception.specs.Hearing.{Kept, held_by, unmatched, damaged_kept}
use Rattle.reception.specs.Joining.{JoinPaper, JoinOutcome, capacities_off, other_record, lowest, own_closing_off, join_records, joined_paper, Joins}
use Rattle.reception.proofs.KeptAsHeld.{lists_matched}
use Rattle.reception.proofs.OnePaper.{joined_known}
use Rattle.numbers_head.specs.Heads.{head_after}
use Rattle.numbers_join.specs.Joins.{join_number, KeepsJoined}
use Rattle.fields.proofs.Choosing.{tested}

-- what a join names has at most 17 bits
abbrev Small : JoinOutcome → Type 0
Small t = (joined_paper t.answer).named ≤ 65536

below_capacity : (a b : Kept) → capacities_off a b ≡ false → length a.marks ≤ most_capacity
below_capacity a b h = (lists_matched a.marks a.elapsed a.sizes (or_false (unmatched a) (unmatched b || not (eqb (length a.marks) (length b.marks))) h).0).room

pub named_small : (a b : Kept) → Small (join_records a b)
unfolding join_records joined_paper
named_small a b =
    tested Small _ _ (capacities_off a b) (λ _. omega arith)
    (λ c.
    tested Small _ _ (damaged_kept a || damaged_kept b) (λ _. omega arith)
    (λ _.
    tested Small _ _ (other_record a b) (λ _. omega arith)
    (λ _.
    tested Small _ _ (ltb (lowest (held_by a) (held_by b)) (length a.marks))
    (λ f.
    let p = ltb-true (lowest (held_by a) (held_by b)) (length a.marks) f in
    let q = below_capacity a b c in
    omega (arith, p, q))
    (λ _. tested Small _ _ (own_closing_off (held_by a) (held_by b)) (λ _. omega arith) (λ _. omega arith)))))

-- so does what the answer a names of a promise that is kept
pub named_fits : (x y : Kept) (r : Joining) (a : Joined) (marks elapsed sizes : List ℕ) → Joins (join_records x y) r marks elapsed sizes → a ≡ r.answer → (joined_paper a).named ≤ 65536
named_fits x y r a marks elapsed sizes p e =
    let q : (joined_paper a).named ≡ (joined_paper (join_records x y).answer).named = ap (λ (z : JoinPaper). z.named) (ap joined_paper e ∙ p.says) in
    let s = named_small x y in
    omega (arith, q, s)

module _ (old other : List ℕ) (k : Kept) (t : JoinOutcome) (r : Joining) (marks elapsed sizes : List ℕ) (g : 6 ≤ length old) (h : 6 ≤ length other)
    (p : Joins t r marks elapsed sizes) where
  -- the head kept after the call, and the call's answer a in one number
  pub joined : (a : Joined) (x : ℕ) (new : List ℕ) → x ≡ join_number a → a ≡ r.answer → new ≡ head_after r.answer old r.head → KeepsJoined old other k t x new marks elapsed sizes
  joined a x new e f l =
      let u = le-ltb (length old) 6 g in
      let v = le-ltb (length other) 6 h in
      let same = joined_known r.answer t.answer p.says in
      record {
        says = e ∙ ap join_number (f ∙ same) ∙ rw (u, v) refl;
        leaves_head = l ∙ rw (u, v, same) (ap (λ (y : Kept). head_after t.answer old y.head) p.leaves);
        leaves_marks = ap (λ (y : Kept). y.marks) p.leaves ∙ rw (u, v) refl;
        leaves_elapsed = ap (λ (y : Kept). y.elapsed) p.leaves ∙ rw (u, v) refl;
        leaves_sizes = ap (λ (y : Kept). y.sizes) p.leaves ∙ rw (u, v) refl;
      }
