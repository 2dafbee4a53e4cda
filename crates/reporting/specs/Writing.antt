-- What writing a gap, where there is one, leaves in three lent lists, and the report by the gaps that were written. Assumes nothing.
use Rattle.std.specs.Prelude.{ℕ, ◌+◌, ◌-◌, ◌≤◌, ◌≡◌, List, map, length}
use Rattle.fields.specs.Runs.{laid}
use Rattle.units.specs.declared.Octets.{Octets}
use Rattle.units.specs.declared.Packets.{Packets}
use Rattle.reception.specs.declared.Report.{Report}
use Rattle.reception.specs.Reporting.{Gap}
use Rattle.reception.specs.Missing.{packets_in, octets_in}
use Rattle.reporting.specs.declared.writing.Filled.{Filled}

-- a list has room for the gaps gs from place w on
pub record Room (w : ℕ) (gs : List Gap) (firsts counts octets : List ℕ) : Type 0 where
  pub firsts_fit : w + length gs ≤ length firsts
  pub counts_fit : w + length gs ≤ length counts
  pub octets_fit : w + length gs ≤ length octets

-- behind what was written already, w, the gaps gs stand in the lists, nothing else differs, and n is what was written then
pub record Puts (w : Filled) (gs : List Gap) (firsts counts octets : List ℕ) (n : Filled) (firsts' counts' octets' : List ℕ) : Type 0 where
  pub next : n.next ≡ w.next + length gs
  pub packets : n.packets.0 ≡ w.packets.0 + packets_in gs
  pub octets_in_fact : n.octets.0 ≡ w.octets.0 + octets_in gs
  pub firsts_are : firsts' ≡ laid firsts w.next (map (λ (g : Gap). g.first) gs)
  pub counts_are : counts' ≡ laid counts w.next (map (λ (g : Gap). g.count) gs)
  pub octets_are : octets' ≡ laid octets w.next (map (λ (g : Gap). g.octets) gs)

-- the report by what was sent, and by the gaps in which the missing packets are
abbrev pub report_with : Packets → Octets → Filled → ℕ → Report
report_with sent total w gaps =
    record {
      sent = sent;
      sent_octets = total;
      heard = record { 0 = sent.0 - w.packets.0 };
      heard_octets = record { 0 = total.0 - w.octets.0 };
      missing = w.packets;
      missing_octets = w.octets;
      gaps = gaps;
    }
