-- The walk accepts exactly the records that some sending explains: where it accepts, a sending is built along it. Assumes nothing.
use Prim.Native.Nat.{ℕ, zero, suc, ◌+◌, ◌-◌, ◌≤◌, ◌<◌}
use mathlib.Core.Path.{◌≡◌, refl, sym, ap, ◌∙◌, subst}
use mathlib.Core.Logic.{⊎_elim}
use mathlib.Core.Bool.{true, false, false≢true}
use mathlib.Core.List.{List, [], ◌∷◌, ◌++◌}
use native.Mathlib.Omega.{arith}
use native.Mathlib.Nat.{le_of_lt, not-suc-le-zero}
use lib.Seq.{take-append-le, get_or_at, take_at}
use lib.Dec.{leb, ltb}
use lib.ListN.{length, length-append, get_or-append}
use borrow.Author.Tests.{leb-true, ltb-true, ltb-false, eqb-false}
use Rattle.units.specs.Limits.{most_payload, most_in_sequence}
use Rattle.frame.specs.Counts.{sum_of}
use Rattle.reception.specs.Sendings.{Held, Heard, Sent, Explains, Explained}
use Rattle.reception.specs.Walk.{reach, fits, ends, may_end, is_heard, walk, is_explained}
use Rattle.reception.proofs.SumsBefore.{Short, sum_append, short_append, spread, length_spread, sum_spread, short_spread}
use Rattle.reception.proofs.Points.{reach_says, explains_pairs, pairs_walk, step_heard, step_unheard}
use Rattle.fields.proofs.Tests.{either, both}

-- what holds below k, and at k, holds below k + 1
pub up_to : (P : ℕ → Type 0) (k : ℕ) → ((j : ℕ) → j < k → P j) → P k → (j : ℕ) → j < suc k → P j
up_to P k f x j h =
    ⊎_elim (λ t. f j (ltb-true j k t)) (λ t. subst P (let g = ltb-false j k t in let e : k ≡ j = omega arith in e) x) (either (ltb j k))

-- a packet of s is one of every longer list
sent_more : (s t : List ℕ) (k e l : ℕ) → Sent s k e l → Sent (s ++ t) k e l
sent_more s t k e l h =
    record {
      within = omega (arith, h.within, length-append s t);
      length_is = get_or-append s t 0 k h.within ∙ h.length_is;
      before_is = ap sum_of (take-append-le k s t (le_of_lt h.within)) ∙ h.before_is;
    }

-- s is i lengths of a octets in all
record Made (s : List ℕ) (i a : ℕ) : Type 0 where
  long : length s ≡ i
  adds : sum_of s ≡ a
  short : Short s

-- drawn out to place k, at e octets
drawn : (s : List ℕ) (i a k e : ℕ) → Made s i a → i ≤ k → reach i a k e ≡ true → Made (s ++ spread (k - i) (e - a)) k e
drawn s i a k e m le h =
    let p = reach_says i a k e h in
    let t = spread (k - i) (e - a) in
    record {
      long = omega (arith, m.long, length-append s t, length_spread (k - i) (e - a));
      adds = omega (arith, m.adds, sum_append s t, sum_spread (k - i) (e - a) (omega arith));
      short = short_append s t m.short (short_spread _ _);
    }

short_one : (l : ℕ) → l ≤ most_payload → Short (l ∷ [])
short_one l h zero = h
short_one l h (suc k) = omega arith

-- and one packet more, of l octets
with_one : (s : List ℕ) (k e l : ℕ) → Made s k e → l ≤ most_payload → Made (s ++ (l ∷ [])) (suc k) (e + l)
unfolding sum_of
with_one s k e l m h =
    record {
      long = omega (arith, m.long, length-append s (l ∷ []));
      adds = omega (arith, m.adds, sum_append s (l ∷ []));
      short = short_append s (l ∷ []) m.short (short_one l h);
    }

-- s explains what was heard below place k, and ends with the last of it, before number i at a octets
record Partly (r : Held) (k i a : ℕ) (s : List ℕ) : Type 0 where
  made : Made s i a
  met : (j : ℕ) → j < k → Heard r j → Sent s j (r.elapsed j) (r.size j)

-- packet k was heard
heard_next : (r : Held) (k i a : ℕ) (s : List ℕ) → i ≤ k → Partly r k i a s → fits i a k (r.elapsed k) (r.size k) ≡ true
    → Partly r (suc k) (suc k) (r.elapsed k + r.size k) ((s ++ spread (k - i) (r.elapsed k - a)) ++ (r.size k ∷ []))
unfolding fits
heard_next r k i a s le p f =
    let t = both (leb (r.size k) most_payload) (reach i a k (r.elapsed k)) f in
    let x = spread (k - i) (r.elapsed k - a) in
    let d = s ++ x in
    let m = drawn s i a k (r.elapsed k) p.made le t.1 in
    record {
      made = with_one d k (r.elapsed k) (r.size k) m (leb-true (r.size k) most_payload t.0);
      met = up_to (λ (j : ℕ). Heard r j → Sent (d ++ (r.size k ∷ [])) j (r.elapsed j) (r.size j)) k
          (λ j h q. sent_more d _ j _ _ (sent_more s x j _ _ (p.met j h q)))
          (λ q.
          record {
            within = omega (arith, m.long, length-append d (r.size k ∷ []));
            length_is = get_or_at d (r.size k) [] 0 k m.long;
            before_is = ap sum_of (take_at d (r.size k ∷ []) k m.long) ∙ m.adds;
          });
    }

-- packet k was not
unheard_next : (r : Held) (k i a : ℕ) (s : List ℕ) → is_heard r k ≡ false → Partly r k i a s → Partly r (suc k) i a s
unheard_next r k i a s t p =
    record {
      made = p.made;
      met = up_to (λ (j : ℕ). Heard r j → Sent s j (r.elapsed j) (r.size j)) k p.met (λ q. absurd (eqb-false _ _ t q.marked));
    }

-- a record that the walk judges rightly: its capacity and its closing's count are within document 01's limits
pub record Sized (r : Held) : Type 0 where
  pub capacity_fits : r.capacity ≤ most_in_sequence
  pub count_fits : r.closed ≡ true → r.count ≤ most_in_sequence

-- after the last place: an open record is explained as it stands, a closed one drawn out to its closing
finish_open : (r : Held) (k i a : ℕ) (s : List ℕ) → Sized r → k ≡ r.capacity → i ≤ k → Partly r k i a s → r.closed ≡ false → Explained r
finish_open r k i a s z e le p f = (
  s,
  record {
    sending = record { few = omega (arith, z.capacity_fits, p.made.long); short = λ j h. p.made.short j };
    packets = λ j q. p.met j (omega (arith, q.below)) q;
    closing = λ t. absurd (false≢true (sym f ∙ t));
  },
)

finish_closed : (r : Held) (k i a : ℕ) (s : List ℕ) → Sized r → k ≡ r.capacity → Partly r k i a s → r.closed ≡ true → ends r i a ≡ true → Explained r
unfolding may_end
finish_closed r k i a s z e p t c =
    let b = both (leb i r.count) (reach i a r.count r.total) (rw t at c) in
    let x = spread (r.count - i) (r.total - a) in
    let m = drawn s i a r.count r.total p.made (leb-true i r.count b.0) b.1 in (
      s ++ x,
      record {
        sending = record { few = omega (arith, m.long, z.count_fits t); short = λ j h. m.short j };
        packets = λ j q. sent_more s x j _ _ (p.met j (omega (arith, q.below)) q);
        closing = λ _. record { count_is = m.long; total_is = m.adds };
      },
    )

build : (r : Held) → Sized r → (n k i a : ℕ) (s : List ℕ) → k + n ≡ r.capacity → i ≤ k → Partly r k i a s → walk r n k i a ≡ true → Explained r
unfolding walk
build r z zero k i a s e le p w =
    ⊎_elim (λ t. finish_closed r k i a s z (omega arith) p t w) (λ t. finish_open r k i a s z (omega arith) le p t) (either r.closed)
build r z (suc n) k i a s e le p w =
    ⊎_elim
    (λ t.
    let b =
    both (fits i a k (r.elapsed k) (r.size k)) (walk r n (suc k) (suc k) (r.elapsed k + r.size k)) (sym (step_heard r n k i a t) ∙ w)
    in
    build r z n (suc k) (suc k) _ _ (omega arith) (omega arith) (heard_next r k i a s le p b.0) b.1)
    (λ t.
    build r z n (suc k) i a s (omega arith) (omega arith) (unheard_next r k i a s t p) (sym (step_unheard r n k i a t) ∙ w))
    (either (is_heard r k))

nothing_yet_lem : (r : Held) → Partly r 0 0 0 []
unfolding sum_of
nothing_yet_lem r = record { made = record { long = refl; adds = refl; short = λ k. omega arith }; met = λ j h. absurd (not-suc-le-zero h) }

-- what the walk accepts, some sending explains
pub walk_explained : (r : Held) → Sized r → is_explained r ≡ true → Explained r
unfolding is_explained
walk_explained r z w = build r z r.capacity 0 0 0 [] (omega arith) (omega arith) (nothing_yet_lem r) w

-- what some sending explains, the walk accepts
pub explained_walk : (r : Held) (s : List ℕ) → Explains r s → is_explained r ≡ true
explained_walk r s h = pairs_walk r (explains_pairs r s h)
