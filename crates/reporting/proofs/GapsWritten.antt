-- The gaps of an undamaged record put into three lent lists one after another, as a loop goes. Assumes nothing.
use Prim.Native.Nat.{ℕ, ◌+◌, ◌≤◌, ◌<◌}
use mathlib.Core.Path.{◌≡◌, ◌∙◌}
use mathlib.Core.Bool.{cond}
use mathlib.Core.List.{List, [], ◌∷◌, ◌++◌, map}
use native.Mathlib.Omega.{arith}
use lib.ListN.{length-append}
use Rattle.units.specs.Limits.{most_capacity}
use Rattle.units.specs.declared.Octets.{Octets}
use Rattle.fields.specs.Runs.{front}
use Rattle.reception.specs.Sendings.{Held}
use Rattle.reception.specs.Reporting.{Gap, gap_to, gaps_of, sent_packets}
use Rattle.reception.proofs.ReportAccounts.{SentAs}
use Rattle.reception.specs.Missing.{packets_in, octets_in}
use Rattle.reporting.specs.declared.writing.Filled.{Filled}
use Rattle.reporting.specs.Writing.{Room, Puts}
use Rattle.reporting.proofs.GapPut.{Laying, laying_start, laying_next}
use Rattle.reporting.proofs.GapsLeft.{left, Going, going_start, all_left, next, going_heard, same, going_unheard, last_left}

-- the packets, and the octets, of some gaps and of more
packets_more : (xs gs : List Gap) → packets_in (xs ++ gs) ≡ packets_in xs + packets_in gs
unfolding packets_in
packets_more [] gs = omega arith
packets_more (x ∷ xs) gs = let p = packets_more xs gs in omega (arith, p)

octets_more : (xs gs : List Gap) → octets_in (xs ++ gs) ≡ octets_in xs + octets_in gs
unfolding octets_in
octets_more [] gs = omega arith
octets_more (x ∷ xs) gs = let p = octets_more xs gs in omega (arith, p)

-- of the gaps in w and of the gaps gs to come, packets and octets are those of all gaps
pub record Missing (w : Filled) (i a : ℕ) (gs all : List Gap) : Type 0 where
  pub packets_few : w.packets.0 ≤ i
  pub octets_few : w.octets.0 ≤ a
  pub packets_all : w.packets.0 + packets_in gs ≡ packets_in all
  pub octets_all : w.octets.0 + octets_in gs ≡ octets_in all

-- the loop is at place k, and w is what was written
pub record Writing (r : Held) (n : ℕ) (firsts₀ counts₀ octets₀ firsts counts octets : List ℕ) (i a : ℕ) (w : Filled) (k : ℕ) : Type 0 where
  pub going : Going r n i a k
  pub missing : Missing w i a (left r n k i a) (gaps_of r)
  pub room : Room w.next (left r n k i a) firsts counts octets
  pub firsts_laid : Laying (λ (g : Gap). g.first) firsts₀ firsts w.next (left r n k i a) (gaps_of r)
  pub counts_laid : Laying (λ (g : Gap). g.count) counts₀ counts w.next (left r n k i a) (gaps_of r)
  pub octets_laid : Laying (λ (g : Gap). g.octets) octets₀ octets w.next (left r n k i a) (gaps_of r)

-- nothing was written yet
abbrev pub unfilled : Filled
unfilled = record { next = 0; packets = record { 0 = 0 }; octets = record { 0 = 0 } }

pub writing_start : (r : Held) (n : ℕ) (firsts counts octets : List ℕ) → (s : List ℕ) × SentAs r s → r.capacity ≤ most_capacity → n ≡ sent_packets r
    → Room 0 (gaps_of r) firsts counts octets → Writing r n firsts counts octets firsts counts octets 0 0 unfilled 0
writing_start r n firsts counts octets x fits e room =
    let all = all_left r n e in
    record {
      going = going_start r n e x fits;
      missing = rw all (record { packets_few = omega arith; octets_few = omega arith; packets_all = omega arith; octets_all = omega arith });
      room = rw all room;
      firsts_laid = rw all (laying_start _ _ _);
      counts_laid = rw all (laying_start _ _ _);
      octets_laid = rw all (laying_start _ _ _);
    }

module _ (r : Held) (n : ℕ) (firsts₀ counts₀ octets₀ firsts counts octets : List ℕ) (i a : ℕ) (w : Filled) (k : ℕ)
    (g : Writing r n firsts₀ counts₀ octets₀ firsts counts octets i a w k) where
  module _ (lt : k < n) where
    -- packet k was heard
    module _ (t : r.mark k ≡ 1) (e l : ℕ) (el : e ≡ r.elapsed k) (ll : l ≡ r.size k) where
      on : left r n k i a ≡ gap_to i a k e ++ left r n (k + 1) (k + 1) (e + l)
      on = next r n i a k g.going lt t e l el ll

      pub room_here : Room w.next (gap_to i a k e) firsts counts octets
      room_here =
          let x : Room w.next (gap_to i a k e ++ left r n (k + 1) (k + 1) (e + l)) firsts counts octets = rw on at g.room in
          let m = length-append (gap_to i a k e) (left r n (k + 1) (k + 1) (e + l)) in
          record { firsts_fit = omega (arith, x.firsts_fit, m); counts_fit = omega (arith, x.counts_fit, m); octets_fit = omega (arith, x.octets_fit, m) }

      pub heard_on : (v : Filled) (firsts' counts' octets' : List ℕ) → Puts w (gap_to i a k e) firsts counts octets v firsts' counts' octets'
          → (v.packets.0 ≤ k) × (v.octets.0 ≤ e) → Writing r n firsts₀ counts₀ octets₀ firsts' counts' octets' (k + 1) (e + l) v (k + 1)
      heard_on v firsts' counts' octets' p few =
          let rest = left r n (k + 1) (k + 1) (e + l) in
          let x : Room w.next (gap_to i a k e ++ rest) firsts counts octets = rw on at g.room in
          let m = length-append (gap_to i a k e) rest in
          let f = laying_next (λ (y : Gap). y.first) firsts₀ firsts w.next (gap_to i a k e) rest (gaps_of r) x.firsts_fit (rw on at g.firsts_laid) firsts' v.next p.firsts_are p.next in
          let c = laying_next (λ (y : Gap). y.count) counts₀ counts w.next (gap_to i a k e) rest (gaps_of r) x.counts_fit (rw on at g.counts_laid) counts' v.next p.counts_are p.next in
          let o = laying_next (λ (y : Gap). y.octets) octets₀ octets w.next (gap_to i a k e) rest (gaps_of r) x.octets_fit (rw on at g.octets_laid) octets' v.next p.octets_are p.next in
          record {
            going = going_heard r n i a k g.going lt t e l el ll;
            missing =
                let y : Missing w i a (gap_to i a k e ++ rest) (gaps_of r) = rw on at g.missing in
                record {
                  packets_few = omega (arith, few.0);
                  octets_few = omega (arith, few.1);
                  packets_all = omega (arith, y.packets_all, p.packets, packets_more (gap_to i a k e) rest);
                  octets_all = omega (arith, y.octets_all, p.octets_in_fact, octets_more (gap_to i a k e) rest);
                };
            room =
                record {
                  firsts_fit = omega (arith, x.firsts_fit, m, p.next, f.long, g.firsts_laid.long);
                  counts_fit = omega (arith, x.counts_fit, m, p.next, c.long, g.counts_laid.long);
                  octets_fit = omega (arith, x.octets_fit, m, p.next, o.long, g.octets_laid.long);
                };
            firsts_laid = f;
            counts_laid = c;
            octets_laid = o;
          }

    -- or not
    pub unheard_on : (r.mark k ≡ 1 → ⊥) → Writing r n firsts₀ counts₀ octets₀ firsts counts octets i a w (k + 1)
    unheard_on t =
        let q = same r n i a k g.going lt t in
        record {
          going = going_unheard r n i a k g.going lt t;
          missing = rw q at g.missing;
          room = rw q at g.room;
          firsts_laid = rw q at g.firsts_laid;
          counts_laid = rw q at g.counts_laid;
          octets_laid = rw q at g.octets_laid;
        }

  -- the loop is left: what remains is the gap before the end of what was sent
  module _ (le : n ≤ k) (total : Octets) (q : total ≡ record { 0 = cond r.closed r.total a }) where
    last : left r n k i a ≡ gap_to i a n total.0
    last = last_left r n i a k g.going le total q

    pub last_room : Room w.next (gap_to i a n total.0) firsts counts octets
    last_room = rw last at g.room

    pub all_missing : (v : Filled) (firsts' counts' octets' : List ℕ) → Puts w (gap_to i a n total.0) firsts counts octets v firsts' counts' octets'
        → (v.packets.0 ≡ packets_in (gaps_of r)) × (v.octets.0 ≡ octets_in (gaps_of r))
    all_missing v firsts' counts' octets' p =
        let y : Missing w i a (gap_to i a n total.0) (gaps_of r) = rw last at g.missing in
        (p.packets ∙ y.packets_all, p.octets_in_fact ∙ y.octets_all)

    pub all_written : (v : Filled) (firsts' counts' octets' : List ℕ) → Puts w (gap_to i a n total.0) firsts counts octets v firsts' counts' octets'
        → (firsts' ≡ front firsts₀ (map (λ (y : Gap). y.first) (gaps_of r))) × (counts' ≡ front counts₀ (map (λ (y : Gap). y.count) (gaps_of r))) × (octets' ≡ front octets₀ (map (λ (y : Gap). y.octets) (gaps_of r)))
    all_written v firsts' counts' octets' p =
        let f = rw last at g.firsts_laid in
        let c = rw last at g.counts_laid in
        let o = rw last at g.octets_laid in
        (p.firsts_are ∙ f.same, p.counts_are ∙ c.same, p.octets_are ∙ o.same)
