-- What was missed of a sending, and what a report of a record has to say if that sending is what was sent (document 01, "Missing octets
-- are those of the sending's unheard packets"). Assumes nothing.
use Rattle.std.specs.Prelude.{ℕ, zero, suc, ◌+◌, ◌-◌, ◌≤◌, ◌<◌, ◌≡◌, cond, List, [], ◌∷◌, length, get_or, take, drop}
use Rattle.frame.specs.Counts.{sum_of}
use Rattle.reception.specs.declared.Report.{Report}
use Rattle.reception.specs.Sendings.{Held, Heard}
use Rattle.reception.specs.Walk.{is_heard}
use Rattle.reception.specs.Reporting.{Gap, gaps_of, heard_to, sent_packets, sent_octets, heard_packets, heard_octets}

-- the packets not heard below n
unfoldable pub unheard_to : Held → ℕ → ℕ
unheard_to r zero = 0
unheard_to r (suc n) = unheard_to r n + cond (is_heard r n) 0 1

-- of the first n packets of the sending s, the octets of those that were heard
unfoldable pub heard_sum : Held → List ℕ → ℕ → ℕ
heard_sum r s zero = 0
heard_sum r s (suc n) = heard_sum r s n + cond (is_heard r n) (get_or s n 0) 0

-- and of those that were not
unfoldable pub unheard_sum : Held → List ℕ → ℕ → ℕ
unheard_sum r s zero = 0
unheard_sum r s (suc n) = unheard_sum r s n + cond (is_heard r n) 0 (get_or s n 0)

-- the octets of so many packets of s, from the first one on
abbrev pub octets_from : List ℕ → ℕ → ℕ → ℕ
octets_from s first count = sum_of (take count (drop first s))

-- the packets of some gaps
unfoldable pub packets_in : List Gap → ℕ
packets_in [] = 0
packets_in (g ∷ gs) = g.count + packets_in gs

-- and their octets
unfoldable pub octets_in : List Gap → ℕ
octets_in [] = 0
octets_in (g ∷ gs) = g.octets + octets_in gs

-- packet k lies in the gap g
pub record Inside (g : Gap) (k : ℕ) : Type 0 where
  pub from : g.first ≤ k
  pub below : k < g.first + g.count

-- it lies in one of them
pub data InSome (k : ℕ) : List Gap → Type 0 where
  here : {g : Gap} {gs : List Gap} → Inside g k → InSome k (g ∷ gs)
  there : {g : Gap} {gs : List Gap} → InSome k gs → InSome k (g ∷ gs)

-- each of them is so
pub data Every (P : Gap → Type 0) : List Gap → Type 0 where
  none : Every P []
  more : {g : Gap} {gs : List Gap} → P g → Every P gs → Every P (g ∷ gs)

-- gaps from number i on, in rising order: each has a packet, and at least one packet stands between one gap and the next
pub data Rising : ℕ → List Gap → Type 0 where
  none : {i : ℕ} → Rising i []
  more : {i : ℕ} {g : Gap} {gs : List Gap} → i ≤ g.first → 1 ≤ g.count → Rising (suc (g.first + g.count)) gs → Rising i (g ∷ gs)

-- what a report of r has to say if the packets of s are those that were sent
pub record Accounts (r : Held) (s : List ℕ) : Type 0 where
  pub sent : sent_packets r ≡ length s
  pub sent_octets_fact : sent_octets r ≡ sum_of s
  pub heard : heard_packets r ≡ heard_to r (length s)
  pub heard_octets_fact : heard_octets r ≡ heard_sum r s (length s)
  pub missing : sent_packets r - heard_packets r ≡ unheard_to r (length s)
  pub missing_octets_fact : sent_octets r - heard_octets r ≡ unheard_sum r s (length s)
  pub gap_octets : Every (λ (g : Gap). g.octets ≡ octets_from s g.first g.count) (gaps_of r)

-- the same of the numbers that an answer gives
pub record Says (t : Report) (r : Held) (s : List ℕ) : Type 0 where
  pub sent : t.sent.0 ≡ length s
  pub sent_octets_fact : t.sent_octets.0 ≡ sum_of s
  pub heard : t.heard.0 ≡ heard_to r (length s)
  pub heard_octets_fact : t.heard_octets.0 ≡ heard_sum r s (length s)
  pub missing : t.missing.0 ≡ unheard_to r (length s)
  pub missing_octets_fact : t.missing_octets.0 ≡ unheard_sum r s (length s)
  pub gaps : t.gaps ≡ length (gaps_of r)

-- that nothing is counted twice or left out: what was heard and what is missing make up what was sent
pub record AddsUp (r : Held) : Type 0 where
  pub packets : heard_packets r + (sent_packets r - heard_packets r) ≡ sent_packets r
  pub octets : heard_octets r + (sent_octets r - heard_octets r) ≡ sent_octets r

-- what the gaps of r have to be: the unheard numbers below what was sent and no others, in rising order, and all that is missing
pub record GapsRight (r : Held) : Type 0 where
  pub holds_missing : (k : ℕ) → k < sent_packets r → (Heard r k → ⊥) → InSome k (gaps_of r)
  pub holds_no_other : (k : ℕ) → InSome k (gaps_of r) → (k < sent_packets r) × (Heard r k → ⊥)
  pub in_order : Rising 0 (gaps_of r)
  pub packets : packets_in (gaps_of r) ≡ sent_packets r - heard_packets r
  pub octets : octets_in (gaps_of r) ≡ sent_octets r - heard_octets r

-- "nothing heard gives zeros"
abbrev pub zero_report : Report
zero_report =
    record {
      sent = record { 0 = 0 };
      sent_octets = record { 0 = 0 };
      heard = record { 0 = 0 };
      heard_octets = record { 0 = 0 };
      missing = record { 0 = 0 };
      missing_octets = record { 0 = 0 };
      gaps = 0;
    }
