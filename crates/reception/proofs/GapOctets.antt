-- What a sending that explains a record has in the packets heard, in each gap and in all of them. Assumes nothing.
use Prim.Native.Nat.{ℕ, zero, suc, ◌+◌, ◌-◌, ◌≤◌, ◌<◌}
use mathlib.Core.Path.{◌≡◌, refl, sym, ap, ◌∙◌}
use mathlib.Core.Logic.{⊎_elim}
use mathlib.Core.Bool.{true, false}
use mathlib.Core.List.{List, ◌++◌}
use native.Mathlib.Decide.{le_ind}
use native.Mathlib.Omega.{arith}
use lib.ListN.{length, take, drop}
use lib.Seq.{take-add}
use borrow.Author.Tests.{eqb-true, ne_eqb}
use Rattle.fields.proofs.Tests.{either}
use Rattle.frame.specs.Counts.{sum_of}
use Rattle.reception.specs.Sendings.{Held, Sent, Explains}
use Rattle.reception.specs.Walk.{is_heard}
use Rattle.reception.specs.Reporting.{Gap, gap_to, gaps_from, heard_to, heard_octets_to}
use Rattle.reception.specs.Missing.{unheard_to, heard_sum, unheard_sum, octets_from, octets_in, Every}
use Rattle.reception.specs.Missing.Every.{none, more}
use Rattle.reception.proofs.SumsBefore.{before, before_next, before_end, sum_append, climb}
use Rattle.reception.proofs.Points.{all_short}
use Rattle.reception.proofs.GapsAreUnheard.{gap_cases, of_gaps, Clear}

-- what does not change at an unheard number does not change over numbers that were not heard
pub unchanged : (r : Held) (f : ℕ → ℕ) → ((n : ℕ) → is_heard r n ≡ false → f (suc n) ≡ f n) → (i j : ℕ) → Clear r i j → f j ≡ f i
unchanged r f stays i j c = go j c.order c
  where
    go : (j : ℕ) → i ≤ j → Clear r i j → f j ≡ f i
    go =
        le_ind (λ (j : ℕ). Clear r i j → f j ≡ f i) (λ _. refl)
        (λ m h same c.
        stays m (c.none m h (omega arith)) ∙ same (record { order = h; none = λ k le lt. c.none k le (omega arith) }))

pub octets_one : (r : Held) (n : ℕ) → is_heard r n ≡ true → heard_octets_to r (suc n) ≡ heard_octets_to r n + r.size n
unfolding heard_octets_to
octets_one r n h = rw h

pub octets_none : (r : Held) (n : ℕ) → is_heard r n ≡ false → heard_octets_to r (suc n) ≡ heard_octets_to r n
unfolding heard_octets_to
octets_none r n h = rw h (omega arith)

-- every packet was heard or not
pub packets_split : (r : Held) (n : ℕ) → heard_to r n + unheard_to r n ≡ n
unfolding heard_to unheard_to
packets_split r zero = refl
packets_split r (suc n) =
    let p = packets_split r n in
    ⊎_elim (λ (h : is_heard r n ≡ true). rw h (omega (arith, p))) (λ (h : is_heard r n ≡ false). rw h (omega (arith, p))) (either (is_heard r n))

pub octets_split : (r : Held) (s : List ℕ) (n : ℕ) → heard_sum r s n + unheard_sum r s n ≡ before s n
unfolding heard_sum unheard_sum sum_of
octets_split r s zero = refl
octets_split r s (suc n) =
    let p = octets_split r s n in
    let b = before_next s n in
    ⊎_elim (λ (h : is_heard r n ≡ true). rw h (omega (arith, p, b))) (λ (h : is_heard r n ≡ false). rw h (omega (arith, p, b)))
    (either (is_heard r n))

-- the octets of c packets from i on
pub before_more : (s : List ℕ) (i c : ℕ) → before s (i + c) ≡ before s i + octets_from s i c
before_more s i c = ap sum_of (take-add i c s) ∙ sum_append (take i s) (take c (drop i s))

-- of the packets from i up to k
between : (s : List ℕ) (i a k e : ℕ) → i ≤ k → before s i ≡ a → before s k ≡ e → e - a ≡ octets_from s i (k - i)
between s i a k e le p q =
    let up : i + (k - i) ≡ k = omega arith in
    let b = before_more s i (k - i) in
    let at : before s (i + (k - i)) ≡ before s k = ap (before s) up in
    omega (arith, p, q, b, at)

octets_first : (i a k e : ℕ) (gs : List Gap) → (i ≡ k → a ≡ e) → octets_in (gap_to i a k e ++ gs) ≡ e - a + octets_in gs
unfolding octets_in
octets_first i a k e gs z =
    gap_cases (λ (xs : List Gap). octets_in (xs ++ gs) ≡ e - a + octets_in gs) i a k e (λ same. omega (arith, z same)) (λ _. refl)

-- a sending that explains the record and ends within its capacity
pub record Covers (r : Held) (s : List ℕ) : Type 0 where
  pub explains : Explains r s
  pub room : length s ≤ r.capacity

module _ (r : Held) (s : List ℕ) (x : Covers r s) where
  pub heard_sent : (k : ℕ) → k < length s → is_heard r k ≡ true → Sent s k (r.elapsed k) (r.size k)
  heard_sent k lt h = x.explains.packets k (record { below = omega (arith, x.room); marked = eqb-true _ _ h })

  -- nothing was heard past its end
  pub clear_past : Clear r (length s) r.capacity
  clear_past =
      record {
        order = x.room;
        none = λ j le lt. ne_eqb (r.mark j) 1 (λ one. let w = (x.explains.packets j (record { below = lt; marked = one })).within in omega arith);
      }

  -- the octets held of the packets heard are those that the sending has
  pub octets_held : (n : ℕ) → n ≤ length s → heard_octets_to r n ≡ heard_sum r s n
  unfolding heard_octets_to heard_sum
  octets_held zero le = refl
  octets_held (suc n) le =
      let p = octets_held n (omega arith) in
      ⊎_elim (λ (h : is_heard r n ≡ true). let w = (heard_sent n le h).length_is in rw h (omega (arith, p, w)))
      (λ (h : is_heard r n ≡ false). rw h (omega (arith, p)))
      (either (is_heard r n))

  after_heard : (k : ℕ) → k < length s → is_heard r k ≡ true → before s (suc k) ≡ r.elapsed k + r.size k
  after_heard k lt h = let w = heard_sent k lt h in omega (arith, before_next s k, w.length_is, w.before_is)

  -- each gap has the octets of the sending's packets there
  pub each_gap : (n k i a : ℕ) → k + n ≡ length s → i ≤ k → before s i ≡ a
      → Every (λ (g : Gap). g.octets ≡ octets_from s g.first g.count) (gaps_from r n k i a (sum_of s))
  each_gap =
      of_gaps r (sum_of s) (length s) (λ k i a gs. i ≤ k → before s i ≡ a → Every (λ (g : Gap). g.octets ≡ octets_from s g.first g.count) gs)
      (λ i a le p.
      gap_cases (Every (λ (g : Gap). g.octets ≡ octets_from s g.first g.count)) i a (length s) (sum_of s) (λ _. none)
      (λ _. more (between s i a (length s) (sum_of s) le p (before_end s)) none))
      (λ k i a gs lt h rest le p.
      let w = (heard_sent k lt h).before_is in
      let more-gaps = rest (omega arith) (after_heard k lt h) in
      gap_cases (λ (xs : List Gap). Every (λ (g : Gap). g.octets ≡ octets_from s g.first g.count) (xs ++ gs)) i a k (r.elapsed k) (λ _. more-gaps)
      (λ _. more (between s i a k (r.elapsed k) le p w) more-gaps))
      (λ k i a gs lt h rest le p. rest (omega arith) p)

  -- and all gaps together what was not heard
  pub all_gaps : (n k i a : ℕ) → k + n ≡ length s → i ≤ k → before s i ≡ a
      → octets_in (gaps_from r n k i a (sum_of s)) + heard_octets_to r (length s) + a ≡ sum_of s + heard_octets_to r k
  unfolding octets_in
  all_gaps =
      of_gaps r (sum_of s) (length s) (λ k i a gs. i ≤ k → before s i ≡ a → octets_in gs + heard_octets_to r (length s) + a ≡ sum_of s + heard_octets_to r k)
      (λ i a le p.
      let up = (climb s (all_short s x.explains.sending) i (length s) le).0 in
      gap_cases (λ (xs : List Gap). octets_in xs + heard_octets_to r (length s) + a ≡ sum_of s + heard_octets_to r (length s)) i a (length s) (sum_of s)
      (λ same. omega (arith, p, before_end s, ap (before s) same))
      (λ _. omega (arith, p, before_end s, up)))
      (λ k i a gs lt h rest le p.
      let w = (heard_sent k lt h).before_is in
      let up = (climb s (all_short s x.explains.sending) i k le).0 in
      let f = octets_first i a k (r.elapsed k) gs (λ same. sym p ∙ ap (before s) same ∙ w) in
      omega (arith, rest (omega arith) (after_heard k lt h), f, octets_one r k h, p, w, up))
      (λ k i a gs lt h rest le p. omega (arith, rest (omega arith) p, octets_none r k h))
