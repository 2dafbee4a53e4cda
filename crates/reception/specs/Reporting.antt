-- What a report says of a record (document 01, "The report gives sent, heard and missing packets and octets, and the gaps in rising
-- order as first number, count, octets"). Assumes nothing.
use Rattle.std.specs.Prelude.{ℕ, zero, suc, ◌+◌, ◌-◌, min, ◌≡◌, cond, List, [], ◌∷◌, ◌++◌, map, ltb, eqb, length, Ok, Err}
use Rattle.units.specs.Refusals.{number_of, found_of, worked_of}
use Rattle.fields.specs.Choice.{◌when◌otherwise◌}
use Rattle.fields.specs.Runs.{front}
use Rattle.reception.specs.declared.Report.{Report}
use Rattle.reception.specs.Answers.{Reported}
use Rattle.reception.specs.Sendings.{Held}
use Rattle.reception.specs.Walk.{is_heard}
use Rattle.reception.specs.Neighbours.{end_to, octets_to}
use Rattle.reception.specs.Hearing.{Kept, held_by, unmatched, damaged_kept}
use Rattle.units.specs.declared.refusals.Refusal.TheVariants.{CapacitiesDiffer, NoRoom, RecordDamaged}

-- the packets heard below n
unfoldable pub heard_to : Held → ℕ → ℕ
heard_to r zero = 0
heard_to r (suc n) = heard_to r n + cond (is_heard r n) 1 0

-- and their octets
unfoldable pub heard_octets_to : Held → ℕ → ℕ
heard_octets_to r zero = 0
heard_octets_to r (suc n) = heard_octets_to r n + cond (is_heard r n) (r.size n) 0

-- packets sent: closed, the closing's N; "while open, sent reaches to the last packet heard and counts it; nothing heard gives zeros"
abbrev pub sent_packets : Held → ℕ
sent_packets r = cond r.closed r.count (end_to r r.capacity)

-- their octets: closed, the closing's T; while open, those to the end of the last packet heard
abbrev pub sent_octets : Held → ℕ
sent_octets r = cond r.closed r.total (octets_to r r.capacity)

-- packets heard
abbrev pub heard_packets : Held → ℕ
heard_packets r = heard_to r r.capacity

-- and their octets
abbrev pub heard_octets : Held → ℕ
heard_octets r = heard_octets_to r r.capacity

-- "first number, count, octets"
pub record Gap : Type 0 where
  pub first : ℕ
  pub count : ℕ
  pub octets : ℕ

-- between packets that end before number i, at a octets, and packet k, before which are e: a gap, of no octets too, unless k is i
abbrev pub gap_to : ℕ → ℕ → ℕ → ℕ → List Gap
gap_to i a k e = [] when eqb i k otherwise (record { first = i; count = k - i; octets = e - a } ∷ [])

-- the gaps among n places from k on, where the last packet heard ends before number i, at a octets, and all that was sent ends with t
unfoldable pub gaps_from : Held → ℕ → ℕ → ℕ → ℕ → ℕ → List Gap
gaps_from r zero k i a t = gap_to i a k t
gaps_from r (suc n) k i a t =
    cond (is_heard r k) (gap_to i a k (r.elapsed k)) []
    ++ gaps_from r n (suc k) (cond (is_heard r k) (suc k) i) (cond (is_heard r k) (r.elapsed k + r.size k) a) t

-- "the gaps in rising order as first number, count, octets"
abbrev pub gaps_of : Held → List Gap
gaps_of r = gaps_from r (sent_packets r) 0 0 0 (sent_octets r)

-- "Missing octets are those of the sending's unheard packets"
abbrev pub report_of : Held → Report
report_of r =
    record {
      sent = record { 0 = sent_packets r };
      sent_octets = record { 0 = sent_octets r };
      heard = record { 0 = heard_packets r };
      heard_octets = record { 0 = heard_octets r };
      missing = record { 0 = sent_packets r - heard_packets r };
      missing_octets = record { 0 = sent_octets r - heard_octets r };
      gaps = length (gaps_of r);
    }

-- "Report: 14, 13, 12", where room gaps can be written
unfoldable pub report_record : Kept → ℕ → Reported
report_record k room =
    Err CapacitiesDiffer when unmatched k otherwise
    Err RecordDamaged when damaged_kept k otherwise
    Err NoRoom when ltb room (length (gaps_of (held_by k))) otherwise
    Ok (report_of (held_by k))

-- document 01's number and values: "a refusal returns its number and zeros elsewhere", in the places of the checks too
pub record ReportPaper : Type 0 where
  pub number : ℕ
  pub found : ℕ
  pub worked : ℕ
  pub accepted : ℕ
  pub sent : ℕ
  pub sent_octets : ℕ
  pub heard : ℕ
  pub heard_octets : ℕ
  pub missing : ℕ
  pub missing_octets : ℕ
  pub gaps : ℕ

-- of a report, or why there is none
unfoldable pub reported_paper : Reported → ReportPaper
reported_paper (Ok r) =
    record {
      number = 0;
      found = 0;
      worked = 0;
      accepted = 1;
      sent = r.sent.0;
      sent_octets = r.sent_octets.0;
      heard = r.heard.0;
      heard_octets = r.heard_octets.0;
      missing = r.missing.0;
      missing_octets = r.missing_octets.0;
      gaps = r.gaps;
    }
reported_paper (Err r) =
    record {
      number = number_of r;
      found = found_of r;
      worked = worked_of r;
      accepted = 0;
      sent = 0;
      sent_octets = 0;
      heard = 0;
      heard_octets = 0;
      missing = 0;
      missing_octets = 0;
      gaps = 0;
    }

-- one of a gap's three numbers in a lent list: those of the gaps in front, and nothing beyond differs; refused, what it held
unfoldable pub gaps_after : Reported → (Gap → ℕ) → List Gap → List ℕ → List ℕ
gaps_after (Ok r) number gaps old = front old (map number gaps)
gaps_after (Err r) number gaps old = old

-- how many gaps three lent lists have room for
abbrev pub room_of : List ℕ → List ℕ → List ℕ → ℕ
room_of firsts counts octets = min (length firsts) (min (length counts) (length octets))

-- the promise: the answer, and all that the three lent lists hold after, for the record k
pub record Reports (k : Kept) (firsts counts octets : List ℕ) (r : Reported) (firsts' counts' octets' : List ℕ) : Type 0 where
  pub says : reported_paper r ≡ reported_paper (report_record k (room_of firsts counts octets))
  pub leaves_firsts : firsts' ≡ gaps_after (report_record k (room_of firsts counts octets)) (λ (g : Gap). g.first) (gaps_of (held_by k)) firsts
  pub leaves_counts : counts' ≡ gaps_after (report_record k (room_of firsts counts octets)) (λ (g : Gap). g.count) (gaps_of (held_by k)) counts
  pub leaves_octets : octets' ≡ gaps_after (report_record k (room_of firsts counts octets)) (λ (g : Gap). g.octets) (gaps_of (held_by k)) octets
