-- What the left record heard beside a packet number, found and moved on from number to number; and what of it decides whether the next
-- packet, or the closing, can follow. Assumes nothing.
use Prim.Native.Nat.{ℕ, zero, suc, ◌+◌, ◌-◌, ◌≤◌, ◌<◌}
use mathlib.Core.Path.{◌≡◌, refl, sym, ◌∙◌}
use mathlib.Core.Logic.{⊎_elim}
use mathlib.Core.Bool.{Bool, true, false}
use mathlib.Core.List.{List}
use native.Mathlib.Numerals.{add-one}
use native.Mathlib.Omega.{arith}
use lib.Dec.{ltb}
use lib.ListN.{length, get_or}
use borrow.Author.Tests.{eq-eqb, ne_eqb, eqb-true, eqb-false, lt-ltb, ltb-true, ltb-false, not-true, not-false}
use Rattle.fields.proofs.Counting.{one_less}
use Rattle.fields.proofs.Tests.{either, both}
use Rattle.reception.specs.declared.Head.{Head}
use Rattle.reception.specs.Sendings.{Held, held_in}
use Rattle.reception.specs.Walk.{fits, may_end}
use Rattle.reception.specs.Neighbours.{EndBelow, end_to, octets_to, next_fits}
use Rattle.reception.proofs.NeighboursDecide.{end_heard, end_unheard}
use Rattle.joining.specs.Beside.{unheard_at, FirstFrom, BesideIs}

-- the loop is at place j, and nothing was heard from the place `from` up to there
pub record Looking (marks : List ℕ) (from j : ℕ) : Type 0 where
  pub after : from ≤ j
  pub inside : j ≤ length marks
  pub none : (m : ℕ) → from ≤ m → m < j → get_or marks m 0 ≡ 1 → ⊥

pub look_start : (marks : List ℕ) (from : ℕ) → from ≤ length marks → Looking marks from from
look_start marks from le = record { after = omega arith; inside = le; none = λ m a b _. omega arith }

module _ (marks : List ℕ) (from j : ℕ) (g : Looking marks from j) where
  module _ (b : Bool) (asked : b ≡ unheard_at marks j) where
    -- nothing was heard there: the walk goes on
    pub look_on : b ≡ true → Looking marks from (j + 1)
    unfolding unheard_at
    look_on t =
        let p = both (ltb j (length marks)) _ (sym asked ∙ t) in
        let lt = ltb-true j (length marks) p.0 in
        let f = eqb-false (get_or marks j 0) 1 (not-true _ p.1) in
        record {
          after = omega (arith, g.after);
          inside = omega arith;
          none = λ m a b h.
              ⊎_elim (λ (u : ltb m j ≡ true). g.none m a (ltb-true m j u) h)
              (λ (u : ltb m j ≡ false). let q = ltb-false m j u in let e : m ≡ j = omega arith in f (rw e at h)) (either (ltb m j));
        }

    -- a packet was heard there, or the places are at their end
    pub look_ends : b ≡ false → FirstFrom marks from j
    unfolding unheard_at
    look_ends t =
        record {
          after = g.after;
          inside = g.inside;
          none = g.none;
          found = λ lt. eqb-true (get_or marks j 0) 1 (not-false _ (rw (lt-ltb j (length marks) lt) at (sym asked ∙ t)));
        }

-- the search is at number k: it knows where the last packet heard below k ends, and that from k up to next nothing was heard
pub record Walked (marks elapsed sizes : List ℕ) (k i a next : ℕ) : Type 0 where
  pub below : EndBelow marks elapsed sizes k i a
  pub along : Looking marks k next

-- the walk has come to the first place from k on in which a packet was heard
pub beside_found : (marks elapsed sizes : List ℕ) (k i a stood next : ℕ) → Walked marks elapsed sizes k i a stood → Looking marks k next → (b : Bool)
    → b ≡ unheard_at marks next → b ≡ false → BesideIs marks elapsed sizes k i a next
beside_found marks elapsed sizes k i a stood next w l b asked f = record { below = w.below; above = look_ends marks k next l b asked f }

-- before number 0 no packet ends
pub walk_starts : (marks elapsed sizes : List ℕ) → Walked marks elapsed sizes 0 0 0 0
unfolding end_to octets_to
walk_starts marks elapsed sizes =
    record { below = record { number_is = λ _. refl; octets_are = λ _. refl }; along = look_start marks 0 (omega arith) }

module _ (marks elapsed sizes : List ℕ) (k i a next : ℕ) (b : BesideIs marks elapsed sizes k i a next) where
  -- where the left did not hear packet k, nothing beside it changes
  module _ (lt : k < next) where
    pub not_heard : get_or marks k 0 ≡ 1 → ⊥
    not_heard = b.above.none k (omega arith) lt

    pub above_next : FirstFrom marks (k + 1) next
    above_next =
        record {
          after = omega arith;
          inside = b.above.inside;
          none = λ j le. b.above.none j (omega arith);
          found = b.above.found;
        }

    pub walks_past : Walked marks elapsed sizes (k + 1) i a next
    walks_past =
        record {
          below =
              record {
                number_is = λ h. b.below.number_is h ∙ rw (add-one k) (sym (end_unheard (held_in h marks elapsed sizes) k (ne_eqb _ _ not_heard)).0);
                octets_are = λ h. b.below.octets_are h ∙ rw (add-one k) (sym (end_unheard (held_in h marks elapsed sizes) k (ne_eqb _ _ not_heard)).1);
              };
          along = record { after = above_next.after; inside = above_next.inside; none = above_next.none };
        }

  -- where it did, that packet is the last one now
  module _ (le : next ≤ k) (lt : k < length marks) where
    pub was_heard : get_or marks k 0 ≡ 1
    was_heard =
        let e : next ≡ k = omega (arith, b.above.after) in
        rw e at (b.above.found (omega arith))

    pub walks_on : (n o : ℕ) → n ≡ k + 1 → o ≡ get_or elapsed k 0 + get_or sizes k 0 → Walked marks elapsed sizes (k + 1) n o (k + 1)
    walks_on n o n-is o_is =
        record {
          below =
              record {
                number_is = λ h. rw (n-is, add-one k) (sym (end_heard (held_in h marks elapsed sizes) k (eq-eqb _ _ was_heard)).0);
                octets_are = λ h. rw (o_is, add-one k) (sym (end_heard (held_in h marks elapsed sizes) k (eq-eqb _ _ was_heard)).1);
              };
          along = look_start marks (k + 1) (omega arith);
        }

-- places in which nothing was heard are passed over
passed_over : (r : Held) (i a d n j m next : ℕ) → j + d ≡ next → n + d ≡ m → ((u : ℕ) → j ≤ u → u < next → r.mark u ≡ 1 → ⊥)
    → next_fits r m j i a ≡ next_fits r n next i a
unfolding next_fits
passed_over r i a zero n j m next p q f =
    let e : j ≡ next = omega arith in
    let o : m ≡ n = omega arith in
    rw (e, o) refl
passed_over r i a (suc d) n j m next p q f =
    let o : m ≡ suc (n + d) = omega arith in
    rw (o, ne_eqb (r.mark j) 1 (f j (omega arith) (omega arith))) (passed_over r i a d n (suc j) (n + d) next (omega arith) refl (λ u le. f u (omega arith)))

module _ (h : Head) (marks elapsed sizes : List ℕ) (from next i a : ℕ) (f : FirstFrom marks from next) where
  to_next : next_fits (held_in h marks elapsed sizes) (length marks - from) from i a ≡ next_fits (held_in h marks elapsed sizes) (length marks - next) next i a
  to_next =
      passed_over (held_in h marks elapsed sizes) i a (next - from) (length marks - next) from (length marks - from) next (omega (arith, f.after))
      (omega (arith, f.after, f.inside)) f.none

  -- the first packet heard from there on decides
  pub by_packet : next < length marks → (e l : ℕ) → e ≡ get_or elapsed next 0 → l ≡ get_or sizes next 0 → (b : Bool) → b ≡ fits i a next e l
      → b ≡ next_fits (held_in h marks elapsed sizes) (length marks - from) from i a
  unfolding next_fits
  by_packet lt e l el ll b t = t ∙ rw (el, ll) (sym (to_next ∙ rw (one_less (length marks) next lt, eq-eqb _ _ (f.found lt))))

  -- or the closing, where there is none
  pub by_closing : length marks ≤ next → (b : Bool) → b ≡ may_end h.closed h.count.0 h.total.0 i a
      → b ≡ next_fits (held_in h marks elapsed sizes) (length marks - from) from i a
  unfolding next_fits
  by_closing le b t =
      let z : length marks - next ≡ 0 = omega arith in
      t ∙ sym (to_next ∙ rw z)
