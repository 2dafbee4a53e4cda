-- The gaps of an undamaged record that are still to be told, as a loop goes over the places of the packets sent. Assumes nothing.
use Prim.Native.Nat.{ℕ, suc, ◌+◌, ◌-◌, ◌≤◌, ◌<◌}
use mathlib.Core.Path.{◌≡◌, refl, sym, ap, ◌∙◌}
use mathlib.Core.Bool.{cond}
use mathlib.Core.List.{List, ◌++◌}
use native.Mathlib.Nat.{sub-zero}
use native.Mathlib.Numerals.{add-one}
use native.Mathlib.Omega.{arith}
use lib.ListN.{length}
use borrow.Author.Tests.{eq-eqb, ne_eqb}
use Rattle.units.specs.Limits.{most_capacity}
use Rattle.units.specs.declared.Octets.{Octets}
use Rattle.fields.proofs.Counting.{one_less}
use Rattle.reception.specs.Sendings.{Held}
use Rattle.reception.specs.Neighbours.{end_to, octets_to}
use Rattle.reception.specs.Reporting.{Gap, gap_to, gaps_from, gaps_of, sent_packets, sent_octets}
use Rattle.reception.proofs.SumsBefore.{before, before_end, climb}
use Rattle.reception.proofs.Points.{all_short}
use Rattle.reception.proofs.NeighboursDecide.{end_heard, end_unheard}
use Rattle.reception.proofs.GapsAreUnheard.{gaps_heard, gaps_unheard}
use Rattle.reception.proofs.GapOctets.{unchanged, heard_sent, clear_past}
use Rattle.reception.proofs.EndReached.{end_within, end_on}
use Rattle.reception.proofs.ReportAccounts.{SentAs}

-- the gaps that are still to be told, from place k on, of n packets sent
abbrev pub left : Held → ℕ → ℕ → ℕ → ℕ → List Gap
left r n k i a = gaps_from r (n - k) k i a (sent_octets r)

-- the loop is at place k, and the packets heard before it end before number i, at a octets
pub record Going (r : Held) (n i a k : ℕ) : Type 0 where
  pub sending : (s : List ℕ) × SentAs r s
  pub count_is : n ≡ sent_packets r
  pub fits : r.capacity ≤ most_capacity
  pub within : n ≤ r.capacity
  pub here : k ≤ n
  pub end_is : i ≡ end_to r k
  pub octets_are : a ≡ octets_to r k

module _ (r : Held) (n : ℕ) (e : n ≡ sent_packets r) where
  pub going_start : (s : List ℕ) × SentAs r s → r.capacity ≤ most_capacity → Going r n 0 0 0
  unfolding end_to octets_to
  going_start x fits =
      record {
        sending = x;
        count_is = e;
        fits = fits;
        within = omega (arith, e, x.1.packets, x.1.covers.room);
        here = omega arith;
        end_is = refl;
        octets_are = refl;
      }

  -- before the first place all are left
  pub all_left : left r n 0 0 0 ≡ gaps_of r
  all_left = ap (λ (m : ℕ). gaps_from r m 0 0 0 (sent_octets r)) (sub-zero n ∙ e)

-- the octets before a packet heard are not fewer than those before the end of the last one
rises : (r : Held) (s : List ℕ) → SentAs r s → (k m : ℕ) → k ≤ m → m ≤ length s → octets_to r k ≤ before s m
rises r s x k m le lt =
    let on = end_on r s x.covers.explains k (omega (arith, x.covers.room)) in
    let up = climb s (all_short s x.covers.explains.sending) (end_to r k) m (omega (arith, end_within r k)) in
    omega (arith, on.1, up.0)

module _ (r : Held) (n i a k : ℕ) (g : Going r n i a k) where
  pub back : i ≤ k
  back = omega (arith, g.end_is, end_within r k)

  module _ (lt : k < n) where
    -- packet k was heard
    module _ (t : r.mark k ≡ 1) (e l : ℕ) (el : e ≡ r.elapsed k) (ll : l ≡ r.size k) where
      pub up : a ≤ e
      up =
          let x = g.sending.1 in
          let sent = heard_sent r g.sending.0 x.covers k (omega (arith, lt, g.count_is, x.packets)) (eq-eqb _ _ t) in
          omega (arith, rises r g.sending.0 x k k (omega arith) (omega (arith, sent.within)), sent.before_is, g.octets_are, el)

      pub next : left r n k i a ≡ gap_to i a k e ++ left r n (k + 1) (k + 1) (e + l)
      next = rw (one_less n k lt, add-one k, el, ll) (gaps_heard r (n - suc k) k i a (sent_octets r) (eq-eqb _ _ t))

      pub going_heard : Going r n (k + 1) (e + l) (k + 1)
      going_heard =
          record {
            sending = g.sending;
            count_is = g.count_is;
            fits = g.fits;
            within = g.within;
            here = omega (arith, lt);
            end_is = rw (add-one k) (sym (end_heard r k (eq-eqb _ _ t)).0);
            octets_are = rw (add-one k, el, ll) (sym (end_heard r k (eq-eqb _ _ t)).1);
          }

    -- or not
    module _ (t : r.mark k ≡ 1 → ⊥) where
      pub same : left r n k i a ≡ left r n (k + 1) i a
      same = rw (one_less n k lt, add-one k) (gaps_unheard r (n - suc k) k i a (sent_octets r) (ne_eqb _ _ t))

      pub going_unheard : Going r n i a (k + 1)
      going_unheard =
          let un = end_unheard r k (ne_eqb _ _ t) in
          record {
            sending = g.sending;
            count_is = g.count_is;
            fits = g.fits;
            within = g.within;
            here = omega (arith, lt);
            end_is = rw (add-one k) (g.end_is ∙ sym un.0);
            octets_are = rw (add-one k) (g.octets_are ∙ sym un.1);
          }

  -- the loop is left: what remains is the gap before the end of what was sent
  module _ (le : n ≤ k) (total : Octets) (q : total ≡ record { 0 = cond r.closed r.total a }) where
    at_end : k ≡ length g.sending.0
    at_end = omega (arith, le, g.here, g.count_is, g.sending.1.packets)

    total_is : total.0 ≡ sent_octets r
    total_is =
        let past = unchanged r (octets_to r) (λ m h. (end_unheard r m h).1) (length g.sending.0) r.capacity (clear_past r g.sending.0 g.sending.1.covers) in
        ap (λ (x : Octets). x.0) q ∙ ap (λ (m : ℕ). cond r.closed r.total m) (g.octets_are ∙ ap (octets_to r) at_end ∙ sym past)

    pub last_left : left r n k i a ≡ gap_to i a n total.0
    unfolding gaps_from
    last_left =
        let z : n - k ≡ 0 = omega arith in
        let e : k ≡ n = omega (arith, le, g.here) in
        ap (λ (m : ℕ). gaps_from r m k i a (sent_octets r)) z ∙ ap (λ (m : ℕ). gap_to i a m (sent_octets r)) e ∙ ap (gap_to i a n) (sym total_is)

    pub last_back : i ≤ n
    last_back = omega (arith, back, g.here)

    pub last_up : a ≤ total.0
    last_up =
        let s = g.sending.0 in
        let x = g.sending.1 in
        omega (arith, rises r s x k (length s) (omega (arith, at_end)) (omega arith), before_end s, g.octets_are, total_is, x.octets)
