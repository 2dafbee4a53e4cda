-- What a caller may rely on where the reader accepts a frame. Assumes nothing.
use Prim.Native.Nat.{ℕ, ◌+◌, ◌-◌, ◌*◌, ◌≤◌, ◌<◌}
use mathlib.Core.Path.{◌≡◌, refl, sym, ap, ◌∙◌}
use mathlib.Core.List.{List}
use mathlib.Core.Bool.{false, not}
use native.Mathlib.Omega.{arith}
use lib.ListN.{length, get_or, take, drop}
use lib.Dec.{ltb, leb, eqb}
use borrow.Author.Tests.{ltb-false, leb-false, eqb-true, not-false}
use Rattle.units.specs.Limits.{most_payload, most_in_sequence, last_stamp}
use Rattle.fields.proofs.ReadAgain.{be_lt}
use Rattle.fields.proofs.Tests.{or_false}
use Rattle.frame.specs.declared.Read.TheVariants.{Closing, Data, ClosingWithLengths}
use Rattle.frame.specs.declared.DataPdu.{DataPdu}
use Rattle.frame.specs.declared.ClosingPdu.{ClosingPdu}
use Rattle.frame.specs.Layout.{number_of, elapsed_of, payload_of, payload_length, filled, sum_lengths, data_of, closing_of}
use Rattle.frame.specs.Counts.{data_wrong, closing_wrong, lengths_wrong}
use Rattle.frame.specs.Reading.{read_frame, length_wrong}
use Rattle.frame.proofs.Accepted.{read_data, read_closing, read_with_lengths}
use Rattle.frame.proofs.Payloads.{payload_within, payload_length_lem}

-- counts that are possible, of a data PDU
pub data_right : (n e : ℕ) → data_wrong n e ≡ false → (n < most_in_sequence) × (e ≤ most_payload * n)
unfolding data_wrong
data_right n e w =
    let p = or_false (leb most_in_sequence n) (ltb (most_payload * n) e) w in
    (leb-false most_in_sequence n p.0, ltb-false (most_payload * n) e p.1)

-- and of a closing PDU
pub record Possible (c : ClosingPdu) : Type 0 where
  pub elapsed : c.elapsed.0 ≤ most_payload * c.number.0
  pub packets : c.number.0 ≤ c.packets.0
  pub octets : c.elapsed.0 ≤ c.octets.0
  pub others : c.octets.0 - c.elapsed.0 ≤ most_payload * (c.packets.0 - c.number.0)

pub closing_right : (c : ClosingPdu) → closing_wrong c ≡ false → Possible c
unfolding closing_wrong
closing_right c w =
    let p1 = or_false (ltb (most_payload * c.number.0) c.elapsed.0) _ w in
    let p2 = or_false (ltb c.packets.0 c.number.0) _ p1.1 in
    let p3 = or_false (ltb c.octets.0 c.elapsed.0) (ltb (most_payload * (c.packets.0 - c.number.0)) (c.octets.0 - c.elapsed.0)) p2.1 in
    record {
      elapsed = ltb-false (most_payload * c.number.0) c.elapsed.0 p1.0;
      packets = ltb-false c.packets.0 c.number.0 p2.0;
      octets = ltb-false c.octets.0 c.elapsed.0 p3.0;
      others = ltb-false (most_payload * (c.packets.0 - c.number.0)) (c.octets.0 - c.elapsed.0) p3.1;
    }

-- an accepted data PDU
pub record DataSaid (s : List ℕ) (d : DataPdu) : Type 0 where
  pub fields : d ≡ data_of s
  pub stamp : d.stamp ≤ last_stamp
  pub number : d.number.0 < most_in_sequence
  pub elapsed : d.elapsed.0 ≤ most_payload * d.number.0
  pub least : 11 + d.length.0 ≤ length s
  pub most : length s ≤ 15 + d.length.0
  pub short : d.length.0 ≤ most_payload

data_said_of : (s : List ℕ) → read_frame s ≡ Data (data_of s) → DataSaid s (data_of s)
data_said_of s e =
    let r = read_data s (data_of s) e in
    let l = payload_within s (rw r.1 at r.0.long) in
    let z : payload_length s ≤ most_payload = ltb-false most_payload (payload_length s) (rw r.1 at r.0.sized) in
    let w : data_wrong (number_of s) (elapsed_of s) ≡ false = rw r.1 at r.0.counted in
    let n = data_right (number_of s) (elapsed_of s) w in
    record { fields = refl; stamp = r.0.stamped; number = n.0; elapsed = n.1; least = l.0; most = l.1; short = z }

pub data_said : (s : List ℕ) (d : DataPdu) → read_frame s ≡ Data d → DataSaid s d
data_said s d e =
    let q = (read_data s d e).2 in
    rw q at (data_said_of s (e ∙ ap Data (sym q)))

-- the part that code hands on, from 11 to 11 and the length that was read, is the payload, and has that length
pub payload_handed : (s : List ℕ) (d : DataPdu) → DataSaid s d → take (11 + d.length.0 - 11) (drop 11 s) ≡ payload_of s
payload_handed s d h =
    let e : 11 + d.length.0 - 11 ≡ payload_length s = omega (arith, ap (λ (x : DataPdu). x.length.0) h.fields) in
    rw e

pub length_handed : (s : List ℕ) (d : DataPdu) → DataSaid s d → d.length.0 ≡ length (take (11 + d.length.0 - 11) (drop 11 s))
length_handed s d h = ap (λ (x : DataPdu). x.length.0) h.fields ∙ sym (payload_length_lem s) ∙ ap length (sym (payload_handed s d h))

-- an accepted closing PDU, of Type 0 or 3
pub record ClosingSaid (s : List ℕ) (c : ClosingPdu) : Type 0 where
  pub fields : c ≡ closing_of s
  pub stamp : c.stamp ≤ last_stamp
  pub number : c.number.0 < 65536
  pub counts : Possible c

closing_said_of : (s : List ℕ) → ((i : ℕ) → get_or s i 0 < 256) → read_frame s ≡ Closing (closing_of s) → ClosingSaid s (closing_of s)
closing_said_of s o e =
    let r = read_closing s (closing_of s) e in
    let w : closing_wrong (closing_of s) ≡ false = rw r.1 at r.0.counted in
    record { fields = refl; stamp = r.0.stamped; number = be_lt s o 2 3; counts = closing_right (closing_of s) w }

pub closing_said : (s : List ℕ) (c : ClosingPdu) → ((i : ℕ) → get_or s i 0 < 256) → read_frame s ≡ Closing c → ClosingSaid s c
closing_said s c o e =
    let q = (read_closing s c e).2 in
    rw q at (closing_said_of s o (e ∙ ap Closing (sym q)))

-- an accepted closing PDU with its lengths
pub record LengthsSaid (s : List ℕ) (c : ClosingPdu) : Type 0 where
  pub closing : ClosingSaid s c
  pub there : 19 + filled c.number.0 ≤ length s
  pub sum : sum_lengths s c.number.0 ≡ c.elapsed.0

lengths_said_of : (s : List ℕ) → ((i : ℕ) → get_or s i 0 < 256) → read_frame s ≡ ClosingWithLengths (closing_of s) → LengthsSaid s (closing_of s)
unfolding lengths_wrong
lengths_said_of s o e =
    let r = read_with_lengths s (closing_of s) e in
    let z : length_wrong 3 s ≡ false = rw r.1 at r.0.sized in
    let l = or_false (ltb (length s) (19 + filled (number_of s))) (ltb (19 + filled (number_of s) + 4) (length s)) z in
    let w : lengths_wrong s (closing_of s) ≡ false = rw r.1 at r.0.counted in
    let p = or_false (closing_wrong (closing_of s)) (not (eqb (sum_lengths s (number_of s)) (elapsed_of s))) w in
    record {
      closing = record { fields = refl; stamp = r.0.stamped; number = be_lt s o 2 3; counts = closing_right (closing_of s) p.0 };
      there = ltb-false (length s) (19 + filled (number_of s)) l.0;
      sum = eqb-true (sum_lengths s (number_of s)) (elapsed_of s) (not-false (eqb (sum_lengths s (number_of s)) (elapsed_of s)) p.1);
    }

pub lengths_said : (s : List ℕ) (c : ClosingPdu) → ((i : ℕ) → get_or s i 0 < 256) → read_frame s ≡ ClosingWithLengths c → LengthsSaid s c
lengths_said s c o e =
    let q = (read_with_lengths s c e).2 in
    rw q at (lengths_said_of s o (e ∙ ap ClosingWithLengths (sym q)))
