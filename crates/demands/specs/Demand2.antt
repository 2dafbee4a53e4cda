-- Demand 2: "Frames are written and read as TS 25.446 v17.0.0 says, with both checksums. Reading what we wrote gives back what went in;
-- writing again what was read gives the same octets (spare bits and padding zero, no extension)." Of any outcomes that meet the promises.
-- What a payload is, document 02's request 2 says, and is quoted so. Assumes nothing.
use Rattle.std.specs.Prelude.{ℕ, ◌+◌, ◌%◌, ◌≤◌, ◌<◌, ◌≡◌, ◌⊎◌, false, List, ◌++◌, length, get_or, take, drop, Ok}
use Rattle.units.specs.Limits.{most_payload, last_stamp}
use Rattle.fields.specs.Runs.{front}
use Rattle.checks.specs.Check.{header_check, payload_check}
use Rattle.frame.specs.declared.ClosingPdu.{ClosingPdu}
use Rattle.frame.specs.declared.DataPdu.{DataPdu}
use Rattle.frame.specs.declared.Read.{Read}
use Rattle.frame.specs.declared.Read.TheVariants.{Closing, Data, ClosingWithLengths}
use Rattle.frame.specs.Answers.{Written}
use Rattle.frame.specs.Layout.{type_of, stamp_of, control, header_check_in, payload_check_in, payload_part, payload_length, payload_of, data_pdu, filled, lengths_of}
use Rattle.frame.specs.Paper.{read_paper}
use Rattle.frame.specs.Payloads.{payload_kept, AllPayload, IpPacket, Extended}
use Rattle.frame.specs.Counts.{data_wrong}
use Rattle.frame.specs.Reading.{refuse, header_wrong, said, read_frame}
use Rattle.frame.specs.Sizes.{short_control, long_control, data_head, lengths_head}
use Rattle.frame.specs.Writing.{write_data, write_closing, write_lengths, data_frame, closing_frame, lengths_frame}
use Rattle.writer.specs.Promise.{Wrote}
use Rattle.units.specs.declared.refusals.Refusal.TheVariants.{SizeWrong}

-- r is what reading the octets s answers
abbrev pub ReadAs : List ℕ → Read → Type 0
ReadAs s r = read_paper r ≡ read_paper (read_frame s)

-- "with both checksums": the header check is that of the control part, and beyond Type 0 the payload check that of the payload part
pub record BothChecks (s : List ℕ) : Type 0 where
  pub header : header_check (take (control (type_of s)) s) ≡ header_check_in (control (type_of s)) s
  pub payload : (type_of s ≡ 0 → ⊥) → payload_check (payload_part (control (type_of s)) s) ≡ payload_check_in (control (type_of s)) s

-- octets, with "spare bits … zero"
pub record SpareZero (s : List ℕ) : Type 0 where
  pub octet : (i : ℕ) → get_or s i 0 < 256
  pub spare : get_or s 0 0 % 16 ≡ 0

-- the demand
pub record Demand2 : Type 0 where
  -- what is accepted has both checks, and says what its octets say at their places
  pub checked : (s : List ℕ) (r : Read) → ReadAs s r → ((read_paper r).kind ≡ 0 → ⊥) → BothChecks s × (r ≡ said (type_of s) s)
  -- the payload of an accepted data PDU: as many octets as it says, "from the frame's twelfth octet"
  pub payload_told : (s : List ℕ) (d : DataPdu) → ReadAs s (Data d) → payload_of s ≡ take d.length.0 (drop data_head s)
  -- request 2: of an IP packet with one to four octets behind it the packet
  pub extension_dropped : (s : List ℕ) (d : DataPdu) (n : ℕ) → ReadAs s (Data d) → Extended (drop data_head s) n → d.length.0 ≡ n
  -- and nothing else is dropped
  pub nothing_else : (s : List ℕ) (d : DataPdu) → ReadAs s (Data d) → (length s ≡ data_head + d.length.0) ⊎ Extended (drop data_head s) d.length.0
  -- "refusal 6 judges the payload after dropping": not what is there, which may be 4,099 octets
  pub extended_back : (stamp n e : ℕ) (p x : List ℕ) (r : Read) → stamp ≤ last_stamp → length p ≤ most_payload → data_wrong n e ≡ false → IpPacket p → length x ≤ 4
      → ReadAs (data_frame stamp n e (p ++ x)) r → r ≡ Data (data_pdu stamp n e (length p))
  -- and where that is above 4,095 octets it applies, whatever the payload check
  pub too_long : (s : List ℕ) (r : Read) → type_of s ≡ 1 → data_head ≤ length s → header_wrong short_control s ≡ false → stamp_of s ≤ last_stamp
      → most_payload < payload_length s → ReadAs s r → r ≡ refuse SizeWrong
  -- "Reading what we wrote gives back what went in": all of the payload stands in the frame, and what the rule keeps of it is read
  pub data_back : (stamp n e : ℕ) (p old : List ℕ) (k : ℕ) (new : List ℕ) (r : Read)
      → Wrote (write_data stamp n e (length p) (length old)) (data_frame stamp n e p) old (Ok k) new → ReadAs (take k new) r
      → (r ≡ Data (data_pdu stamp n e (payload_kept p))) × (drop data_head (take k new) ≡ p)
  -- which is all of it with "payloads from which this rule drops nothing"
  pub data_back_whole : (stamp n e : ℕ) (p old : List ℕ) (k : ℕ) (new : List ℕ) (r : Read) → AllPayload p
      → Wrote (write_data stamp n e (length p) (length old)) (data_frame stamp n e p) old (Ok k) new → ReadAs (take k new) r
      → (r ≡ Data (data_pdu stamp n e (length p))) × (payload_of (take k new) ≡ p)
  pub closing_back : (c : ClosingPdu) (old : List ℕ) (k : ℕ) (new : List ℕ) (r : Read)
      → Wrote (write_closing c (length old)) (closing_frame c) old (Ok k) new → ReadAs (take k new) r → r ≡ Closing c
  pub lengths_back : (c : ClosingPdu) (ls old : List ℕ) (k : ℕ) (new : List ℕ) (r : Read)
      → Wrote (write_lengths c ls (length old)) (lengths_frame c ls) old (Ok k) new → ReadAs (take k new) r
      → (r ≡ ClosingWithLengths c) × (lengths_of (take k new) 0 c.number.0 ≡ ls)
  -- "writing again what was read gives the same octets", in front of memory that has room for them
  pub data_again : (s : List ℕ) (d : DataPdu) (old : List ℕ) (r : Written) (new : List ℕ) → SpareZero s → length s ≡ data_head + d.length.0
      → ReadAs s (Data d) → length s ≤ length old
      → Wrote (write_data d.stamp d.number.0 d.elapsed.0 (length (payload_of s)) (length old)) (data_frame d.stamp d.number.0 d.elapsed.0 (payload_of s)) old r new
      → (r ≡ Ok (length s)) × (new ≡ front old s)
  pub closing_again : (s : List ℕ) (c : ClosingPdu) (old : List ℕ) (r : Written) (new : List ℕ) → SpareZero s → get_or s long_control 0 % 4 ≡ 0
      → ReadAs s (Closing c) → length s ≤ length old → Wrote (write_closing c (length old)) (closing_frame c) old r new
      → (r ≡ Ok (length s)) × (new ≡ front old s)
  pub lengths_again : (s : List ℕ) (c : ClosingPdu) (old : List ℕ) (r : Written) (new : List ℕ) → SpareZero s → length s ≡ lengths_head + filled c.number.0
      → (c.number.0 % 2 ≡ 1 → get_or s (18 + filled c.number.0) 0 % 16 ≡ 0) → ReadAs s (ClosingWithLengths c) → length s ≤ length old
      → Wrote (write_lengths c (lengths_of s 0 c.number.0) (length old)) (lengths_frame c (lengths_of s 0 c.number.0)) old r new
      → (r ≡ Ok (length s)) × (new ≡ front old s)
