-- The gaps of a record are the numbers that were not heard and no others, in rising order, and their counts are all of them. Assumes
-- nothing.
use Prim.Native.Nat.{ℕ, zero, suc, ◌+◌, ◌-◌, ◌≤◌, ◌<◌}
use mathlib.Core.Path.{◌≡◌, refl, sym, ap, ◌∙◌, subst}
use mathlib.Core.Logic.{⊎_elim}
use mathlib.Core.Bool.{true, false, true≢false}
use mathlib.Core.List.{List, [], ◌∷◌, ◌++◌}
use native.Mathlib.Omega.{arith}
use lib.Dec.{eqb, ltb}
use borrow.Author.Tests.{eqb-true, eqb-false, ltb-true, ltb-false}
use Rattle.fields.proofs.Tests.{either}
use Rattle.reception.specs.Sendings.{Held}
use Rattle.reception.specs.Walk.{is_heard}
use Rattle.reception.specs.Reporting.{Gap, gap_to, gaps_from, heard_to}
use Rattle.reception.specs.Missing.{packets_in, Inside, InSome, Rising}
use Rattle.reception.specs.Missing.InSome.{here, there}
use Rattle.reception.specs.Missing.Rising.{none, more}

-- the gaps after each place
pub gaps_heard : (r : Held) (n k i a t : ℕ) → is_heard r k ≡ true
    → gaps_from r (suc n) k i a t ≡ gap_to i a k (r.elapsed k) ++ gaps_from r n (suc k) (suc k) (r.elapsed k + r.size k) t
unfolding gaps_from
gaps_heard r n k i a t h = rw h

pub gaps_unheard : (r : Held) (n k i a t : ℕ) → is_heard r k ≡ false → gaps_from r (suc n) k i a t ≡ gaps_from r n (suc k) i a t
unfolding gaps_from
gaps_unheard r n k i a t h = rw h

-- between packets that end before number i and packet k there is a gap, unless k is i
pub gap_cases : (P : List Gap → Type 0) (i a k e : ℕ) → (i ≡ k → P []) → ((i ≡ k → ⊥) → P (record { first = i; count = k - i; octets = e - a } ∷ []))
    → P (gap_to i a k e)
gap_cases P i a k e f g =
    ⊎_elim (λ (t : eqb i k ≡ true). rw t (f (eqb-true i k t))) (λ (t : eqb i k ≡ false). rw t (g (eqb-false i k t))) (either (eqb i k))

-- what holds of the gap at the end m, and of the gaps from each place on where it holds of those after it, holds of all gaps
module _ (r : Held) (t m : ℕ) (P : ℕ → ℕ → ℕ → List Gap → Type 0)
    (last : (i a : ℕ) → P m i a (gap_to i a m t))
    (heard : (k i a : ℕ) (gs : List Gap) → k < m → is_heard r k ≡ true → P (suc k) (suc k) (r.elapsed k + r.size k) gs → P k i a (gap_to i a k (r.elapsed k) ++ gs))
    (unheard : (k i a : ℕ) (gs : List Gap) → k < m → is_heard r k ≡ false → P (suc k) i a gs → P k i a gs) where
  pub of_gaps : (n k i a : ℕ) → k + n ≡ m → P k i a (gaps_from r n k i a t)
  unfolding gaps_from
  of_gaps zero k i a e = let z : k ≡ m = omega arith in rw z (last i a)
  of_gaps (suc n) k i a e =
      ⊎_elim
      (λ (h : is_heard r k ≡ true).
      subst (P k i a) (sym (gaps_heard r n k i a t h)) (heard k i a _ (omega arith) h (of_gaps n (suc k) (suc k) _ (omega arith))))
      (λ (h : is_heard r k ≡ false).
      subst (P k i a) (sym (gaps_unheard r n k i a t h)) (unheard k i a _ (omega arith) h (of_gaps n (suc k) i a (omega arith))))
      (either (is_heard r k))

-- nothing was heard from i up to k
pub record Clear (r : Held) (i k : ℕ) : Type 0 where
  pub order : i ≤ k
  pub none : (j : ℕ) → i ≤ j → j < k → is_heard r j ≡ false

pub clear_start : (r : Held) (k : ℕ) → Clear r k k
clear_start r k = record { order = omega arith; none = λ j le lt. absurd (omega arith) }

pub clear_next : (r : Held) (i k : ℕ) → is_heard r k ≡ false → Clear r i k → Clear r i (suc k)
clear_next r i k h c =
    record {
      order = omega (arith, c.order);
      none = λ j le lt.
          ⊎_elim (λ (t : ltb j k ≡ true). c.none j le (ltb-true j k t))
          (λ (t : ltb j k ≡ false). let g = ltb-false j k t in let e : j ≡ k = omega arith in rw e h)
          (either (ltb j k));
    }

-- rising from i on is rising from every number below
rising_below : (i j : ℕ) {gs : List Gap} → i ≤ j → Rising j gs → Rising i gs
rising_below i j le none = none
rising_below i j le (more {g = g} from some rest) = more {i = i} {g = g} (omega (arith, le, from)) some rest

pub rising_from : (r : Held) (t m n k i a : ℕ) → k + n ≡ m → i ≤ k → Rising i (gaps_from r n k i a t)
rising_from r t m =
    of_gaps r t m (λ k i a gs. i ≤ k → Rising i gs)
    (λ i a le. gap_cases (Rising i) i a m t (λ _. none) (λ off. more {g = record { first = i; count = m - i; octets = t - a }} (omega arith) (omega (arith, off)) none))
    (λ k i a gs lt h up le.
    let reach : i + (k - i) ≡ k = omega arith in
    gap_cases (λ (xs : List Gap). Rising i (xs ++ gs)) i a k (r.elapsed k) (λ _. rising_below i (suc k) (omega arith) (up (omega arith)))
    (λ off. more {g = record { first = i; count = k - i; octets = r.elapsed k - a }} (omega arith) (omega (arith, off)) (rw reach (up (omega arith)))))
    (λ k i a gs lt h up le. up (omega arith))

-- an unheard number from i on, below m
pub record Unheard (r : Held) (i m j : ℕ) : Type 0 where
  pub from : i ≤ j
  pub below : j < m
  pub unheard : is_heard r j ≡ false

-- it lies in the first gap or in the rest
in_first : {X : Type 0} {j : ℕ} {g : Gap} {gs : List Gap} → InSome j (g ∷ gs) → (Inside g j → X) → (InSome j gs → X) → X
in_first (here x) f k = f x
in_first (there x) f k = k x

in_none : {X : Type 0} {j : ℕ} {gs : List Gap} → InSome j gs → gs ≡ [] → X
in_none (here x) e = let z : ◌≡◌ {A = ℕ} 0 1 = cc in absurd (omega (arith, z))
in_none (there x) e = let z : ◌≡◌ {A = ℕ} 0 1 = cc in absurd (omega (arith, z))

-- what lies in a gap was not heard
pub gap_unheard : (r : Held) (t m j n k i a : ℕ) → k + n ≡ m → Clear r i k → InSome j (gaps_from r n k i a t) → Unheard r i m j
gap_unheard r t m j =
    of_gaps r t m (λ k i a gs. Clear r i k → InSome j gs → Unheard r i m j)
    (λ i a c. gap_cases (λ (xs : List Gap). InSome j xs → Unheard r i m j) i a m t (λ _ x. in_none x refl)
    (λ _ x. in_first x (λ w. within m i c (omega (arith, c.order)) w.from (omega (arith, w.below, c.order))) (λ w. in_none w refl)))
    (λ k i a gs lt h up c. gap_cases (λ (xs : List Gap). InSome j (xs ++ gs) → Unheard r i m j) i a k (r.elapsed k) (λ _ x. lower i k c.order (up (clear_start r (suc k)) x))
    (λ _ x. in_first x (λ w. within k i c (omega (arith, lt)) w.from (omega (arith, w.below, c.order))) (λ w. lower i k c.order (up (clear_start r (suc k)) w))))
    (λ k i a gs lt h up c x. up (clear_next r i k h c) x)
  where
    within : (k i : ℕ) → Clear r i k → k ≤ m → i ≤ j → j < k → Unheard r i m j
    within k i c le from lt = record { from = from; below = omega arith; unheard = c.none j from lt }

    lower : (i k : ℕ) → i ≤ k → Unheard r (suc k) m j → Unheard r i m j
    lower i k le u = record { from = omega (arith, u.from); below = u.below; unheard = u.unheard }

-- and what was not heard lies in a gap
pub unheard_gap : (r : Held) (t m j n k i a : ℕ) → k + n ≡ m → i ≤ k → Unheard r i m j → InSome j (gaps_from r n k i a t)
unheard_gap r t m j =
    of_gaps r t m (λ k i a gs. i ≤ k → Unheard r i m j → InSome j gs)
    (λ i a le u. gap_cases (InSome j) i a m t (λ same. absurd (omega (arith, same, u.from, u.below))) (λ _. here (inside i m (t - a) le u.from u.below)))
    (λ k i a gs lt h up le u. ⊎_elim (before k i a gs le u) (after k i a gs h up u) (either (ltb j k)))
    (λ k i a gs lt h up le u. up (omega arith) u)
  where
    inside : (i k o : ℕ) → i ≤ k → i ≤ j → j < k → Inside (record { first = i; count = k - i; octets = o }) j
    inside i k o le from lt = record { from = from; below = omega arith }

    before : (k i a : ℕ) (gs : List Gap) → i ≤ k → Unheard r i m j → ltb j k ≡ true → InSome j (gap_to i a k (r.elapsed k) ++ gs)
    before k i a gs le u t =
        let lt = ltb-true j k t in
        gap_cases (λ (xs : List Gap). InSome j (xs ++ gs)) i a k (r.elapsed k) (λ same. absurd (omega (arith, same, u.from, lt)))
        (λ _. here (inside i k (r.elapsed k - a) le u.from lt))

    after : (k i a : ℕ) (gs : List Gap) → is_heard r k ≡ true → (suc k ≤ suc k → Unheard r (suc k) m j → InSome j gs) → Unheard r i m j → ltb j k ≡ false
        → InSome j (gap_to i a k (r.elapsed k) ++ gs)
    after k i a gs h up u f =
        let off : j ≡ k → ⊥ = λ same. true≢false (sym h ∙ ap (is_heard r) (sym same) ∙ u.unheard) in
        let ge = ltb-false j k f in
        let x = up (omega arith) (record { from = omega (arith, off, ge); below = u.below; unheard = u.unheard }) in
        gap_cases (λ (xs : List Gap). InSome j (xs ++ gs)) i a k (r.elapsed k) (λ _. x) (λ _. there x)

-- the packets heard, place by place
pub heard_one : (r : Held) (n : ℕ) → is_heard r n ≡ true → heard_to r (suc n) ≡ heard_to r n + 1
unfolding heard_to
heard_one r n h = rw h

pub heard_none : (r : Held) (n : ℕ) → is_heard r n ≡ false → heard_to r (suc n) ≡ heard_to r n
unfolding heard_to
heard_none r n h = rw h (omega arith)

packets_first : (i a k e : ℕ) (gs : List Gap) → packets_in (gap_to i a k e ++ gs) ≡ k - i + packets_in gs
unfolding packets_in
packets_first i a k e gs =
    gap_cases (λ (xs : List Gap). packets_in (xs ++ gs) ≡ k - i + packets_in gs) i a k e (λ same. omega (arith, same)) (λ _. refl)

-- the gaps' counts are all that was not heard
pub packets_from : (r : Held) (t m n k i a : ℕ) → k + n ≡ m → i ≤ k → packets_in (gaps_from r n k i a t) + heard_to r m + i ≡ m + heard_to r k
unfolding packets_in
packets_from r t m =
    of_gaps r t m (λ k i a gs. i ≤ k → packets_in gs + heard_to r m + i ≡ m + heard_to r k)
    (λ i a le. gap_cases (λ (xs : List Gap). packets_in xs + heard_to r m + i ≡ m + heard_to r m) i a m t (λ same. omega (arith, same)) (λ _. omega arith))
    (λ k i a gs lt h up le. omega (arith, up (omega arith), packets_first i a k (r.elapsed k) gs, heard_one r k h))
    (λ k i a gs lt h up le. omega (arith, up (omega arith), heard_none r k h))
