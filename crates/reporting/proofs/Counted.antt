-- What is counted over the places of a record, as a loop goes, and that it is what the report says. Assumes nothing.
use Prim.Native.Nat.{ℕ, suc, ◌+◌, ◌≤◌, ◌<◌}
use mathlib.Core.Path.{◌≡◌, refl, sym, ap, ◌∙◌}
use mathlib.Core.Logic.{⊎_elim}
use mathlib.Core.Bool.{true, false}
use mathlib.Core.List.{List, ◌++◌}
use native.Mathlib.Numerals.{add-one}
use native.Mathlib.Omega.{arith}
use lib.Dec.{eqb}
use lib.ListN.{length, get_or}
use borrow.Author.Tests.{eq-eqb, ne_eqb}
use Rattle.units.specs.Limits.{most_capacity}
use Rattle.fields.proofs.Tests.{either}
use Rattle.reception.specs.Sendings.{Held, held_in}
use Rattle.reception.specs.Walk.{is_heard}
use Rattle.reception.specs.declared.Head.{Head}
use Rattle.reception.specs.Neighbours.{NoneFrom, end_to, octets_to}
use Rattle.reception.specs.Reporting.{Gap, gap_to, gaps_from, gaps_of, heard_to, heard_octets_to, sent_packets, sent_octets}
use Rattle.reception.proofs.NeighboursDecide.{end_heard, end_unheard}
use Rattle.reception.proofs.GapsAreUnheard.{of_gaps, heard_one, heard_none}
use Rattle.reception.proofs.GapOctets.{unchanged, octets_one, octets_none, clear_past}
use Rattle.reception.proofs.ReportAccounts.{SentAs}
use Rattle.damage.specs.Judging.{gap_between, gaps_to}
use Rattle.damage.proofs.JudgedCounted.{gaps_one, gaps_none, ended_start, ended_heard, ended_unheard}
use Rattle.reporting.specs.Counting.{Tallied}

-- there is one gap more, or none
gap_first : (i a k e : ℕ) (gs : List Gap) → length (gap_to i a k e ++ gs) ≡ gap_between i k + length gs
gap_first i a k e gs =
    ⊎_elim (λ (t : eqb i k ≡ true). rw t (omega arith)) (λ (t : eqb i k ≡ false). rw t (omega arith)) (either (eqb i k))

gap_last : (i a k e : ℕ) → length (gap_to i a k e) ≡ gap_between i k
gap_last i a k e = ⊎_elim (λ (t : eqb i k ≡ true). rw t) (λ (t : eqb i k ≡ false). rw t) (either (eqb i k))

-- the gaps from place k on are those that are still to be counted
gaps_left : (r : Held) (t m n k i a : ℕ) → k + n ≡ m → i ≡ end_to r k
    → gaps_to r k + length (gaps_from r n k i a t) ≡ gaps_to r m + gap_between (end_to r m) m
gaps_left r t m =
    of_gaps r t m (λ k i a gs. i ≡ end_to r k → gaps_to r k + length gs ≡ gaps_to r m + gap_between (end_to r m) m)
    (λ i a e. let l = gap_last i a m t in let w : gap_between i m ≡ gap_between (end_to r m) m = ap (λ (x : ℕ). gap_between x m) e in omega (arith, l, w))
    (λ k i a gs lt h rest e.
    let l = gap_first i a k (r.elapsed k) gs in
    let w : gap_between i k ≡ gap_between (end_to r k) k = ap (λ (x : ℕ). gap_between x k) e in
    omega (arith, l, w, gaps_one r k h, rest (sym (end_heard r k h).0)))
    (λ k i a gs lt h rest e. omega (arith, gaps_none r k h, rest (e ∙ sym (end_unheard r k h).0)))

-- all of them: those before the packets heard, and one before the end of what was sent where the last packet heard does not end there
pub gaps_counted : (r : Held) (s : List ℕ) → SentAs r s → length (gaps_of r) ≡ gaps_to r r.capacity + gap_between (end_to r r.capacity) (sent_packets r)
unfolding gaps_to end_to
gaps_counted r s x =
    let c = clear_past r s x.covers in
    let g = unchanged r (gaps_to r) (gaps_none r) (length s) r.capacity c in
    let n = unchanged r (end_to r) (λ n h. (end_unheard r n h).0) (length s) r.capacity c in
    let p = gaps_left r (sent_octets r) (sent_packets r) (sent_packets r) 0 0 0 (omega arith) refl in
    let q : gap_between (end_to r (sent_packets r)) (sent_packets r) ≡ gap_between (end_to r r.capacity) (sent_packets r) =
    ap (λ (x : ℕ). gap_between x (sent_packets r)) (ap (end_to r) x.packets ∙ sym n)
    in
    omega (arith, p, q, g, ap (gaps_to r) x.packets)

-- before the first place nothing was counted
pub tally_start : (marks elapsed sizes : List ℕ) → length marks ≤ most_capacity → Tallied marks elapsed sizes 0 0 0 0 0 0
unfolding heard_to heard_octets_to
tally_start marks elapsed sizes fits =
    record {
      ended = ended_start marks elapsed sizes;
      heard_is = λ h. refl;
      octets_are = λ h. refl;
      here = omega arith;
      room = fits;
      heard_few = omega arith;
      octets_few = omega arith;
    }

module _ (marks elapsed sizes : List ℕ) (k heard octets end before gaps : ℕ) (t : Tallied marks elapsed sizes k heard octets end before gaps) (lt : k < length marks) where
  pub tally_heard : get_or marks k 0 ≡ 1 → (e l b : ℕ) → e ≡ get_or elapsed k 0 → (l ≡ get_or sizes k 0) × (l < 65536) → (b ≡ gap_between end k) × (b ≤ 1)
      → Tallied marks elapsed sizes (k + 1) (heard + 1) (octets + l) (k + 1) (e + l) (gaps + b)
  tally_heard m e l b el ll bl =
      record {
        ended = ended_heard marks elapsed sizes k end before gaps t.ended m e l b el ll.0 bl;
        heard_is = λ h. rw (add-one k) (omega (arith, t.heard_is h, heard_one (held_in h marks elapsed sizes) k (eq-eqb _ _ m)));
        octets_are = λ h. rw (add-one k) (omega (arith, t.octets_are h, ll.0, octets_one (held_in h marks elapsed sizes) k (eq-eqb _ _ m)));
        here = omega (arith, lt);
        room = t.room;
        heard_few = omega (arith, t.heard_few);
        octets_few = omega (arith, t.octets_few, ll.1);
      }

  pub tally_unheard : (get_or marks k 0 ≡ 1 → ⊥) → Tallied marks elapsed sizes (k + 1) heard octets end before gaps
  tally_unheard m =
      record {
        ended = ended_unheard marks elapsed sizes k end before gaps t.ended m;
        heard_is = λ h. rw (add-one k) (t.heard_is h ∙ sym (heard_none (held_in h marks elapsed sizes) k (ne_eqb _ _ m)));
        octets_are = λ h. rw (add-one k) (t.octets_are h ∙ sym (octets_none (held_in h marks elapsed sizes) k (ne_eqb _ _ m)));
        here = omega (arith, lt);
        room = t.room;
        heard_few = omega (arith, t.heard_few);
        octets_few = omega (arith, t.octets_few);
      }

-- from the place last on nothing was heard, so nothing is counted there
module _ (marks elapsed sizes : List ℕ) (last k heard octets end before gaps : ℕ) (o : NoneFrom marks last) (le : last ≤ k)
    (t : Tallied marks elapsed sizes k heard octets end before gaps) where
  -- what does not change at an unheard number
  past : (h : Head) (f : ℕ → ℕ) → ((n : ℕ) → is_heard (held_in h marks elapsed sizes) n ≡ false → f (suc n) ≡ f n) → f k ≡ f (length marks)
  past h f stays =
      sym (unchanged (held_in h marks elapsed sizes) f stays k (length marks) (record { order = t.here; none = λ j from lt. ne_eqb _ _ (o.none j (omega (arith, le, from))) }))

  pub tally_done : Tallied marks elapsed sizes (length marks) heard octets end before gaps
  tally_done =
      record {
        ended =
            record {
              end_is = λ h. t.ended.end_is h ∙ past h (end_to (held_in h marks elapsed sizes)) (λ n u. (end_unheard (held_in h marks elapsed sizes) n u).0);
              before_is = λ h. t.ended.before_is h ∙ past h (octets_to (held_in h marks elapsed sizes)) (λ n u. (end_unheard (held_in h marks elapsed sizes) n u).1);
              gaps_are = λ h. t.ended.gaps_are h ∙ past h (gaps_to (held_in h marks elapsed sizes)) (gaps_none (held_in h marks elapsed sizes));
              gaps_few = omega (arith, t.ended.gaps_few, t.here);
            };
        heard_is = λ h. t.heard_is h ∙ past h (heard_to (held_in h marks elapsed sizes)) (heard_none (held_in h marks elapsed sizes));
        octets_are = λ h. t.octets_are h ∙ past h (heard_octets_to (held_in h marks elapsed sizes)) (octets_none (held_in h marks elapsed sizes));
        here = omega arith;
        room = t.room;
        heard_few = omega (arith, t.heard_few, t.here);
        octets_few = omega (arith, t.octets_few, t.here);
      }
