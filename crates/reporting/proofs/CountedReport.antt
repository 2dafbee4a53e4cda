-- What was counted over all places of an undamaged record, or the gaps that were written, make its report. Assumes nothing.
use Prim.Native.Nat.{ℕ, ◌+◌, ◌-◌, ◌≤◌}
use mathlib.Core.Path.{◌≡◌, ap, ap₂, ◌∙◌}
use mathlib.Core.Bool.{false, cond}
use mathlib.Core.List.{List}
use native.Mathlib.Omega.{arith}
use lib.ListN.{length}
use Rattle.units.specs.declared.Octets.{Octets}
use Rattle.units.specs.declared.Packets.{Packets}
use Rattle.reception.specs.declared.Head.{Head}
use Rattle.reception.specs.declared.Report.{Report}
use Rattle.reception.specs.Sendings.{held_in}
use Rattle.reception.specs.Damage.{Undamaged, Matched}
use Rattle.reception.specs.Neighbours.{end_to}
use Rattle.reception.specs.Hearing.{kept_in, damaged_kept}
use Rattle.reception.specs.Reporting.{gaps_of, sent_packets, sent_octets, heard_packets, heard_octets, report_of}
use Rattle.reception.specs.Missing.{packets_in, octets_in}
use Rattle.reception.proofs.DamagedExactly.{passed_undamaged}
use Rattle.reception.proofs.ReportAccounts.{undamaged_sent, adds_up, gaps_right}
use Rattle.reporting.specs.declared.writing.Filled.{Filled}
use Rattle.reporting.specs.Writing.{report_with}
use Rattle.damage.specs.Judging.{gap_between, Ended}
use Rattle.reporting.proofs.Counted.{gaps_counted}

-- a record whose lists match and that passes the test is undamaged
pub sound : (h : Head) (marks elapsed sizes : List ℕ) → Matched marks elapsed sizes → damaged_kept (kept_in h marks elapsed sizes) ≡ false
    → Undamaged h.stamp (held_in h marks elapsed sizes)
sound h marks elapsed sizes m d = passed_undamaged h.stamp (held_in h marks elapsed sizes) m.room d

module _ (h : Head) (marks elapsed sizes : List ℕ) (u : Undamaged h.stamp (held_in h marks elapsed sizes)) (end before gaps : ℕ)
    (t : Ended marks elapsed sizes (length marks) end before gaps) (sent : Packets) (total : Octets)
    (p : sent ≡ record { 0 = cond h.closed h.count.0 end }) (q : total ≡ record { 0 = cond h.closed h.total.0 before }) where
  pub sent_is : sent.0 ≡ sent_packets (held_in h marks elapsed sizes)
  sent_is = ap (λ (x : Packets). x.0) p ∙ ap (λ (n : ℕ). cond h.closed h.count.0 n) (t.end_is h)

  total_is : total.0 ≡ sent_octets (held_in h marks elapsed sizes)
  total_is = ap (λ (x : Octets). x.0) q ∙ ap (λ (n : ℕ). cond h.closed h.total.0 n) (t.before_is h)

  pub gaps_are : (b : ℕ) → b ≡ gap_between end sent.0 → gaps + b ≡ length (gaps_of (held_in h marks elapsed sizes))
  gaps_are b e =
      let x = undamaged_sent _ _ u in
      let w = gaps_counted (held_in h marks elapsed sizes) x.0 x.1 in
      let same : gap_between end sent.0 ≡ gap_between (end_to (held_in h marks elapsed sizes) (length marks)) (sent_packets (held_in h marks elapsed sizes)) = ap₂ gap_between (t.end_is h) sent_is in
      omega (arith, w, e, same, t.gaps_are h)

  -- by the packets heard
  module _ (heard octets : ℕ) (heard_is : heard ≡ heard_packets (held_in h marks elapsed sizes)) (octets_are : octets ≡ heard_octets (held_in h marks elapsed sizes)) where
    -- no more was heard than sent
    pub heard_sent : heard ≤ sent.0
    heard_sent = omega (arith, (adds_up _ _ u).packets, heard_is, sent_is)

    pub octets_sent : octets ≤ total.0
    octets_sent = omega (arith, (adds_up _ _ u).octets, octets_are, total_is)

    pub report_is : (b : ℕ) → b ≡ gap_between end sent.0
        → ◌≡◌ {A = Report}
        (record {
          sent = sent;
          sent_octets = total;
          heard = record { 0 = heard };
          heard_octets = record { 0 = octets };
          missing = record { 0 = sent.0 - heard };
          missing_octets = record { 0 = total.0 - octets };
          gaps = gaps + b;
        })
        (report_of (held_in h marks elapsed sizes))
    report_is b e =
        λ i.
        record {
          sent = record { 0 = sent_is i };
          sent_octets = record { 0 = total_is i };
          heard = record { 0 = heard_is i };
          heard_octets = record { 0 = octets_are i };
          missing = record { 0 = sent_is i - heard_is i };
          missing_octets = record { 0 = total_is i - octets_are i };
          gaps = gaps_are b e i;
        }

  -- by the gaps in which the others are
  module _ (w : Filled) (packets-in : w.packets.0 ≡ packets_in (gaps_of (held_in h marks elapsed sizes))) (octets_in_fact : w.octets.0 ≡ octets_in (gaps_of (held_in h marks elapsed sizes))) where
    missing_is : w.packets.0 ≡ sent_packets (held_in h marks elapsed sizes) - heard_packets (held_in h marks elapsed sizes)
    missing_is = packets-in ∙ (gaps_right _ _ u).packets

    missing_octets_are : w.octets.0 ≡ sent_octets (held_in h marks elapsed sizes) - heard_octets (held_in h marks elapsed sizes)
    missing_octets_are = octets_in_fact ∙ (gaps_right _ _ u).octets

    -- no more is missing than was sent
    pub missing_sent : (w.packets.0 ≤ sent.0) × (w.octets.0 ≤ total.0)
    missing_sent = (omega (arith, missing_is, sent_is), omega (arith, missing_octets_are, total_is))

    pub report_with_fact : (g : ℕ) → g ≡ length (gaps_of (held_in h marks elapsed sizes)) → report_with sent total w g ≡ report_of (held_in h marks elapsed sizes)
    report_with_fact g e =
        let heard_is : sent.0 - w.packets.0 ≡ heard_packets (held_in h marks elapsed sizes) = omega (arith, (adds_up _ _ u).packets, missing_is, sent_is) in
        let octets_are : total.0 - w.octets.0 ≡ heard_octets (held_in h marks elapsed sizes) = omega (arith, (adds_up _ _ u).octets, missing_octets_are, total_is) in
        λ i.
        record {
          sent = record { 0 = sent_is i };
          sent_octets = record { 0 = total_is i };
          heard = record { 0 = heard_is i };
          heard_octets = record { 0 = octets_are i };
          missing = record { 0 = missing_is i };
          missing_octets = record { 0 = missing_octets_are i };
          gaps = e i;
        }
