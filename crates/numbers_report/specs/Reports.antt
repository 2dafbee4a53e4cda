-- A report as C and Rust get it: seven figures in a lent list, beside the three lists of gaps. Assumes nothing.
use Rattle.std.specs.Prelude.{ℕ, ◌≡◌, List, [], ◌∷◌, ltb, length, Ok, Err}
use Rattle.units.specs.Refusals.{number_of, no_room, record_damaged, capacities_differ}
use Rattle.fields.specs.Choice.{◌when◌otherwise◌}
use Rattle.fields.specs.Runs.{front}
use Rattle.reception.specs.declared.Report.{Report}
use Rattle.reception.specs.Answers.{Reported}
use Rattle.reception.specs.Hearing.{Kept, held_by, unmatched, damaged_kept}
use Rattle.reception.specs.Reporting.{Gap, gaps_of, gaps_after, report_record, room_of}

-- sent packets and octets, heard, missing, and how many gaps
abbrev pub figures_of : Report → List ℕ
figures_of r =
    r.sent.0 ∷ r.sent_octets.0 ∷ r.heard.0 ∷ r.heard_octets.0 ∷ r.missing.0 ∷ r.missing_octets.0 ∷ r.gaps ∷ []

-- the number of the answer, where so many figures can be written
abbrev pub report_number : ℕ → Reported → ℕ
report_number room (Err x) = (number_of x)
report_number room (Ok r) = no_room when ltb room 7 otherwise 0

-- why there is no report where no figures can be written: "Report: 14, 13, 12"
unfoldable pub no_figures : Kept → ℕ
no_figures k =
    capacities_differ when unmatched k otherwise
    record_damaged when damaged_kept k otherwise
    no_room

-- the figures after: in front, where there is room and the report was made
abbrev pub figures_after : Reported → List ℕ → List ℕ
figures_after (Err x) old = old
figures_after (Ok r) old = old when ltb (length old) 7 otherwise front old (figures_of r)

-- one of a gap's three numbers after, where there was room for the figures
abbrev pub gaps_out : List ℕ → Reported → (Gap → ℕ) → List Gap → List ℕ → List ℕ
gaps_out figures t number gaps old = old when ltb (length figures) 7 otherwise gaps_after t number gaps old

-- the promise about a record k whose head stands in six numbers; 14 where it has fewer
pub record Figures (head : List ℕ) (k : Kept) (firsts counts octets figures : List ℕ) (r : ℕ) (firsts' counts' octets' figures' : List ℕ) : Type 0 where
  pub says : r ≡ (capacities_differ when ltb (length head) 6 otherwise report_number (length figures) (report_record k (room_of firsts counts octets)))
  pub leaves_figures : figures' ≡ (figures when ltb (length head) 6 otherwise figures_after (report_record k (room_of firsts counts octets)) figures)
  pub leaves_firsts : firsts' ≡ (firsts when ltb (length head) 6 otherwise gaps_out figures (report_record k (room_of firsts counts octets)) (λ (g : Gap). g.first) (gaps_of (held_by k)) firsts)
  pub leaves_counts : counts' ≡ (counts when ltb (length head) 6 otherwise gaps_out figures (report_record k (room_of firsts counts octets)) (λ (g : Gap). g.count) (gaps_of (held_by k)) counts)
  pub leaves_octets : octets' ≡ (octets when ltb (length head) 6 otherwise gaps_out figures (report_record k (room_of firsts counts octets)) (λ (g : Gap). g.octets) (gaps_of (held_by k)) octets)
