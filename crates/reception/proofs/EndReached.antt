-- How far the packets heard reach: not past a sending that explains the record, whose first packets up to there explain an open record
-- too. Assumes nothing.
use Prim.Native.Nat.{ℕ, zero, suc, ◌+◌, ◌≤◌, ◌<◌}
use mathlib.Core.Path.{◌≡◌, sym, ap, ◌∙◌}
use mathlib.Core.Logic.{⊎_elim}
use mathlib.Core.Bool.{true, false, false≢true}
use mathlib.Core.List.{List}
use native.Mathlib.Omega.{arith}
use lib.ListN.{length, get_or, take}
use lib.Seq.{length-take-le, get_or-take, take-take}
use borrow.Author.Tests.{eqb-true, eq-eqb}
use Rattle.fields.proofs.Tests.{either}
use Rattle.units.specs.Limits.{most_payload}
use Rattle.frame.specs.Counts.{sum_of}
use Rattle.reception.specs.Sendings.{Held, Heard, Sent, Explains}
use Rattle.reception.specs.Walk.{is_heard}
use Rattle.reception.specs.Neighbours.{end_to, octets_to}
use Rattle.reception.proofs.SumsBefore.{before, before_start}
use Rattle.reception.proofs.Points.{on_point}
use Rattle.reception.proofs.Points.Point.{leaves}
use Rattle.reception.proofs.NeighboursDecide.{end_heard, end_unheard}
use Rattle.reception.proofs.GapOctets.{Covers}

-- the last packet heard below n ends at n at most, and every one heard below n ends there or before
pub end_within : (r : Held) (n : ℕ) → end_to r n ≤ n
unfolding end_to
end_within r zero = omega arith
end_within r (suc n) =
    ⊎_elim (λ (h : is_heard r n ≡ true). omega (arith, (end_heard r n h).0)) (λ (h : is_heard r n ≡ false). omega (arith, (end_unheard r n h).0, end_within r n))
    (either (is_heard r n))

pub below_end : (r : Held) (n k : ℕ) → k < n → is_heard r k ≡ true → k < end_to r n
below_end r zero k lt h = absurd (omega arith)
below_end r (suc n) k lt h =
    ⊎_elim (λ (t : is_heard r n ≡ true). omega (arith, (end_heard r n t).0))
    (λ (t : is_heard r n ≡ false).
    let off : k ≡ n → ⊥ = λ same. false≢true (sym t ∙ ap (is_heard r) (sym same) ∙ h) in
    omega (arith, (end_unheard r n t).0, below_end r n k (omega (arith, off)) h))
    (either (is_heard r n))

-- whatever explains the record reaches that end, with the octets before it
pub end_on : (r : Held) (s : List ℕ) → Explains r s → (n : ℕ) → n ≤ r.capacity → (end_to r n ≤ length s) × (before s (end_to r n) ≡ octets_to r n)
unfolding end_to octets_to
end_on r s x zero le = (omega arith, before_start s)
end_on r s x (suc n) le =
    ⊎_elim
    (λ (h : is_heard r n ≡ true).
    let p = end_heard r n h in
    let w = on_point r s (suc n) (r.elapsed n + r.size n) x (leaves n (record { below = le; marked = eqb-true _ _ h })) in
    rw (p.0, p.1) w)
    (λ (h : is_heard r n ≡ false). let p = end_unheard r n h in rw (p.0, p.1) (end_on r s x n (omega arith)))
    (either (is_heard r n))

-- its first packets up to that end explain the record as well, while it is open
pub shortened : (r : Held) (s : List ℕ) → Explains r s → r.closed ≡ false → Covers r (take (end_to r r.capacity) s)
shortened r s x o =
    record {
      explains =
          record {
            sending = record { few = omega (arith, long, within, x.sending.few); short = λ k lt. short k lt };
            packets = λ k q. packet k q;
            closing = λ c. absurd (false≢true (sym o ∙ c));
          };
      room = omega (arith, long, end_within r r.capacity);
    }
  where
    within : end_to r r.capacity ≤ length s
    within = (end_on r s x r.capacity (omega arith)).0

    long : length (take (end_to r r.capacity) s) ≡ end_to r r.capacity
    long = length-take-le (end_to r r.capacity) s within

    short : (k : ℕ) → k < length (take (end_to r r.capacity) s) → get_or (take (end_to r r.capacity) s) k 0 ≤ most_payload
    short k lt =
        let e = get_or-take (end_to r r.capacity) s k 0 (omega (arith, long, lt)) in
        omega (arith, e, x.sending.short k (omega (arith, long, within, lt)))

    packet : (k : ℕ) → Heard r k → Sent (take (end_to r r.capacity) s) k (r.elapsed k) (r.size k)
    packet k q =
        let lt = below_end r r.capacity k q.below (eq-eqb _ _ q.marked) in
        let w = x.packets k q in
        record {
          within = omega (arith, long, lt);
          length_is = get_or-take (end_to r r.capacity) s k 0 lt ∙ w.length_is;
          before_is = ap sum_of (take-take k (end_to r r.capacity) s (omega (arith, lt))) ∙ w.before_is;
        }
