-- Reports of records that heard little: nothing heard gives zeros, and a gap of no octets is a gap. Assumes nothing.
use Prim.Native.Nat.{ℕ, suc, ◌+◌, ◌-◌, ◌≤◌}
use mathlib.Core.Path.{◌≡◌, refl, sym, ap, ◌∙◌}
use mathlib.Core.Bool.{false, false≢true}
use mathlib.Core.List.{[], ◌∷◌}
use native.Mathlib.Nat.{sub-zero}
use native.Mathlib.Omega.{arith}
use lib.ListN.{length}
use borrow.Author.Tests.{ne_eqb}
use Rattle.fields.proofs.Choosing.{pick_no}
use Rattle.reception.specs.Sendings.{Held, Heard}
use Rattle.reception.specs.Adding.{empty_record, with_packet, with_closing}
use Rattle.reception.specs.Neighbours.{end_to, octets_to}
use Rattle.reception.specs.Reporting.{gap_to, gaps_from, gaps_of, heard_to, heard_octets_to, sent_packets, sent_octets, heard_packets, heard_octets, report_of}
use Rattle.reception.specs.Missing.{zero_report}
use Rattle.reception.proofs.NeighboursDecide.{end_unheard}
use Rattle.reception.proofs.GapsAreUnheard.{Clear, of_gaps, heard_none}
use Rattle.reception.proofs.GapOctets.{unchanged, octets_none}
use Rattle.reception.proofs.BenchExamples.{after_b}

-- nothing was heard up to its capacity
all_clear : (r : Held) → ((k : ℕ) → Heard r k → ⊥) → Clear r 0 r.capacity
all_clear r off = record { order = omega arith; none = λ j _ lt. ne_eqb _ _ (λ one. off j (record { below = lt; marked = one })) }

-- the four sums where nothing was heard
module _ (r : Held) (c : Clear r 0 r.capacity) where
  no_packets : heard_packets r ≡ 0
  unfolding heard_to
  no_packets = unchanged r (heard_to r) (heard_none r) 0 r.capacity c

  no_octets : heard_octets r ≡ 0
  unfolding heard_octets_to
  no_octets = unchanged r (heard_octets_to r) (octets_none r) 0 r.capacity c

  no_end : end_to r r.capacity ≡ 0
  unfolding end_to
  no_end = unchanged r (end_to r) (λ n h. (end_unheard r n h).0) 0 r.capacity c

  no_end_octets : octets_to r r.capacity ≡ 0
  unfolding octets_to
  no_end_octets = unchanged r (octets_to r) (λ n h. (end_unheard r n h).1) 0 r.capacity c

-- open, and nothing heard: no gaps, and zeros
module _ (r : Held) (o : r.closed ≡ false) (off : (k : ℕ) → Heard r k → ⊥) where
  none_sent : sent_packets r ≡ 0
  none_sent = pick_no r.closed r.count (end_to r r.capacity) o ∙ no_end r (all_clear r off)

  none_sent_octets : sent_octets r ≡ 0
  none_sent_octets = pick_no r.closed r.total (octets_to r r.capacity) o ∙ no_end_octets r (all_clear r off)

  pub nothing_no_gaps : gaps_of r ≡ []
  unfolding gaps_from
  nothing_no_gaps =
      ap (λ (n : ℕ). gaps_from r n 0 0 0 (sent_octets r)) none_sent ∙ ap (λ (t : ℕ). gaps_from r 0 0 0 0 t) none_sent_octets

  pub nothing_zeros : report_of r ≡ zero_report
  nothing_zeros =
      λ i.
      record {
        sent = record { 0 = none_sent i };
        sent_octets = record { 0 = none_sent_octets i };
        heard = record { 0 = no_packets r (all_clear r off) i };
        heard_octets = record { 0 = no_octets r (all_clear r off) i };
        missing = record { 0 = less (sent_packets r) (heard_packets r) none_sent i };
        missing_octets = record { 0 = less (sent_octets r) (heard_octets r) none_sent_octets i };
        gaps = ap length nothing_no_gaps i;
      }
    where
      less : (a b : ℕ) → a ≡ 0 → a - b ≡ 0
      less a b e = omega arith

-- an empty record
pub empty_zeros : (c : ℕ) → report_of (empty_record c) ≡ zero_report
empty_zeros c = nothing_zeros (empty_record c) refl (λ k h. let z : ◌≡◌ {A = ℕ} 0 1 = h.marked in omega (arith, z))

-- all that was sent is one gap where none of it was heard
gap_whole : (r : Held) (t m : ℕ) → Clear r 0 m → (n k i a : ℕ) → k + n ≡ m → gaps_from r n k i a t ≡ gap_to i a m t
gap_whole r t m c =
    of_gaps r t m (λ k i a gs. gs ≡ gap_to i a m t) (λ i a. refl)
    (λ k i a gs lt h _. absurd (false≢true (sym (c.none k (omega arith) lt) ∙ h)))
    (λ k i a gs lt h same. same)

-- packets without octets, none of them heard, are a gap of no octets
pub empty_packets : (c n : ℕ) → gaps_of (with_closing (empty_record c) (suc n) 0) ≡ record { first = 0; count = suc n; octets = 0 } ∷ []
empty_packets c n =
    gap_whole (with_closing (empty_record c) (suc n) 0) 0 (suc n) (record { order = omega arith; none = λ j _ _. refl }) (suc n) 0 0 0 (omega arith)
    ∙ rw (ne_eqb 0 (suc n) (λ e. omega (arith, e)), sub-zero (suc n))

-- number 1 between packets 0 and 2, before which is the one octet of packet 0 (bench example G), is a gap of no octets
pub empty_between : (c l : ℕ) → 3 ≤ c → gaps_of (with_packet (after_b c) 2 1 l) ≡ record { first = 1; count = 1; octets = 0 } ∷ []
unfolding gaps_from end_to octets_to
empty_between c l le =
    ap (λ (n : ℕ). gaps_from r n 0 0 0 (sent_octets r)) (unchanged r (end_to r) (λ n h. (end_unheard r n h).0) 3 c clear)
    ∙ ap (λ (t : ℕ). gaps_from r 3 0 0 0 t) (unchanged r (octets_to r) (λ n h. (end_unheard r n h).1) 3 c clear)
  where
    r : Held
    r = with_packet (after_b c) 2 1 l

    clear : Clear r 3 c
    clear = record { order = le; none = λ j from _. rw (ne_eqb j 2 (λ e. omega (arith, e, from)), ne_eqb j 0 (λ e. omega (arith, e, from))) }
