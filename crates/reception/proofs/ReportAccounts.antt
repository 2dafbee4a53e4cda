-- A report accounts for what was sent: of a closed record for every sending that explains it, of an open one for every such sending as far
-- as the last packet heard; and what it says adds up. Assumes nothing.
use Prim.Native.Nat.{ℕ, ◌≤◌}
use mathlib.Core.Path.{◌≡◌, sym, ap, ◌∙◌}
use mathlib.Core.Logic.{⊎_elim}
use mathlib.Core.Bool.{true, false}
use mathlib.Core.List.{List}
use native.Mathlib.Omega.{arith}
use lib.ListN.{length, take}
use lib.Seq.{length-take-le}
use borrow.Author.Tests.{ne_eqb, eqb-false}
use Rattle.fields.proofs.Choosing.{pick_yes, pick_no}
use Rattle.fields.proofs.Tests.{either}
use Rattle.frame.specs.Counts.{sum_of}
use Rattle.reception.specs.Sendings.{Held, Explains}
use Rattle.reception.specs.Damage.{Undamaged}
use Rattle.reception.specs.Neighbours.{end_to, octets_to}
use Rattle.reception.specs.Reporting.{gaps_from, gaps_of, heard_to, heard_octets_to, sent_packets, sent_octets, heard_packets, heard_octets}
use Rattle.reception.specs.Missing.{heard_sum, Accounts, AddsUp, GapsRight}
use Rattle.reception.proofs.SumsBefore.{before_start, before_end}
use Rattle.reception.proofs.GapsAreUnheard.{clear_start, rising_from, gap_unheard, unheard_gap, packets_from, heard_none}
use Rattle.reception.proofs.GapOctets.{Covers, unchanged, octets_none, packets_split, octets_split, clear_past, octets_held, each_gap, all_gaps}
use Rattle.reception.proofs.EndReached.{end_on, shortened}

-- the sending s explains the record, and ends where the report says that what was sent ends
pub record SentAs (r : Held) (s : List ℕ) : Type 0 where
  pub covers : Covers r s
  pub packets : sent_packets r ≡ length s
  pub octets : sent_octets r ≡ sum_of s

-- closed, it is every sending that explains the record
pub closed_sent : (stamp : ℕ) (r : Held) (s : List ℕ) → Undamaged stamp r → r.closed ≡ true → Explains r s → SentAs r s
closed_sent stamp r s u c x =
    let w = x.closing c in
    record {
      covers = record { explains = x; room = omega (arith, u.within, w.count_is) };
      packets = pick_yes r.closed r.count (end_to r r.capacity) c ∙ sym w.count_is;
      octets = pick_yes r.closed r.total (octets_to r r.capacity) c ∙ sym w.total_is;
    }

-- open, it is the first packets of every such sending, as far as one was heard
pub open_sent : (r : Held) (s : List ℕ) → r.closed ≡ false → Explains r s → SentAs r (take (sent_packets r) s)
open_sent r s o x =
    let p = pick_no r.closed r.count (end_to r r.capacity) o in
    let w = end_on r s x r.capacity (omega arith) in
    rw p
    (record {
      covers = shortened r s x o;
      packets = p ∙ sym (length-take-le (end_to r r.capacity) s w.0);
      octets = pick_no r.closed r.total (octets_to r r.capacity) o ∙ sym w.1;
    })

-- for an undamaged record there is one
pub undamaged_sent : (stamp : ℕ) (r : Held) → Undamaged stamp r → (s : List ℕ) × SentAs r s
undamaged_sent stamp r u =
    let x = u.explained in
    ⊎_elim (λ (c : r.closed ≡ true). (x.0, closed_sent stamp r x.0 u c x.1))
    (λ (o : r.closed ≡ false). (take (sent_packets r) x.0, open_sent r x.0 o x.1))
    (either r.closed)

module _ (r : Held) (s : List ℕ) (x : SentAs r s) where
  -- the gaps, by what was sent
  gaps_as : gaps_of r ≡ gaps_from r (length s) 0 0 0 (sum_of s)
  gaps_as = ap (λ (n : ℕ). gaps_from r n 0 0 0 (sent_octets r)) x.packets ∙ ap (λ (t : ℕ). gaps_from r (length s) 0 0 0 t) x.octets

  -- nothing was heard past it
  heard_as : heard_packets r ≡ heard_to r (length s)
  heard_as = unchanged r (heard_to r) (heard_none r) (length s) r.capacity (clear_past r s x.covers)

  octets_as : heard_octets r ≡ heard_octets_to r (length s)
  octets_as = unchanged r (heard_octets_to r) (octets_none r) (length s) r.capacity (clear_past r s x.covers)

  sum_as : heard_octets r ≡ heard_sum r s (length s)
  sum_as = octets_as ∙ octets_held r s x.covers (length s) (omega arith)

  pub accounts : Accounts r s
  accounts =
      record {
        sent = x.packets;
        sent_octets_fact = x.octets;
        heard = heard_as;
        heard_octets_fact = sum_as;
        missing = omega (arith, x.packets, heard_as, packets_split r (length s));
        missing_octets_fact = omega (arith, x.octets, sum_as, octets_split r s (length s), before_end s);
        gap_octets = rw gaps_as (each_gap r s x.covers (length s) 0 0 0 (omega arith) (omega arith) (before_start s));
      }

  pub sums_up : AddsUp r
  sums_up =
      record {
        packets = omega (arith, x.packets, heard_as, packets_split r (length s));
        octets = omega (arith, x.octets, sum_as, octets_split r s (length s), before_end s);
      }

  sent_within : sent_packets r ≤ r.capacity
  sent_within = omega (arith, x.packets, x.covers.room)

  pub gaps_are_right : GapsRight r
  unfolding heard_to heard_octets_to
  gaps_are_right =
      record {
        holds_missing = λ k lt off.
            unheard_gap r (sent_octets r) (sent_packets r) k (sent_packets r) 0 0 0 (omega arith) (omega arith)
            (record { from = omega arith; below = lt; unheard = ne_eqb _ _ (λ one. off (record { below = omega (arith, sent_within, lt); marked = one })) });
        holds_no_other = λ k g.
            let u = gap_unheard r (sent_octets r) (sent_packets r) k (sent_packets r) 0 0 0 (omega arith) (clear_start r 0) g in
            (u.below, λ h. eqb-false _ _ u.unheard h.marked);
        in_order = rising_from r (sent_octets r) (sent_packets r) (sent_packets r) 0 0 0 (omega arith) (omega arith);
        packets = let p = packets_from r (sum_of s) (length s) (length s) 0 0 0 (omega arith) (omega arith) in rw gaps_as (omega (arith, p, x.packets, heard_as));
        octets = let p = all_gaps r s x.covers (length s) 0 0 0 (omega arith) (omega arith) (before_start s) in rw gaps_as (omega (arith, p, x.octets, octets_as));
      }

-- for every sending that explains a closed record
pub closed_accounts : (stamp : ℕ) (r : Held) (s : List ℕ) → Undamaged stamp r → r.closed ≡ true → Explains r s → Accounts r s
closed_accounts stamp r s u c x = accounts r s (closed_sent stamp r s u c x)

-- for every sending that explains an open one, as far as the last packet heard
pub open_accounts : (r : Held) (s : List ℕ) → r.closed ≡ false → Explains r s → Accounts r (take (sent_packets r) s)
open_accounts r s o x = accounts r _ (open_sent r s o x)

-- heard and missing make up what was sent
pub adds_up : (stamp : ℕ) (r : Held) → Undamaged stamp r → AddsUp r
adds_up stamp r u = let x = undamaged_sent stamp r u in sums_up r x.0 x.1

-- the gaps are what was not heard
pub gaps_right : (stamp : ℕ) (r : Held) → Undamaged stamp r → GapsRight r
gaps_right stamp r u = let x = undamaged_sent stamp r u in gaps_are_right r x.0 x.1
