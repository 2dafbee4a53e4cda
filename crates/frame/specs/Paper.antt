-- Document 01's number and values for each case of an answer: "a refusal returns its number and zeros elsewhere"; and the checks of
-- document 02, request 6, with it, in each paper `found` and `worked`. The promises are about these. Assumes nothing.
use Rattle.std.specs.Prelude.{ℕ, Ok, Err}
use Rattle.units.specs.Refusals.{number_of, found_of, worked_of}
use Rattle.frame.specs.declared.Read.{Read}
use Rattle.frame.specs.declared.Read.TheVariants.{Closing, Data, ClosingWithLengths, Refused as NotRead}
use Rattle.frame.specs.Answers.{Written, Listed}
use Rattle.frame.specs.declared.ClosingPdu.{ClosingPdu}

-- of reading: the refusal's number and both checks, or zeros; one more than the PDU type; the fields; and the payload's length
pub record ReadPaper : Type 0 where
  pub number : ℕ
  pub found : ℕ
  pub worked : ℕ
  pub kind : ℕ
  pub stamp : ℕ
  pub packet : ℕ
  pub elapsed : ℕ
  pub packets : ℕ
  pub octets : ℕ
  pub payload : ℕ

-- of a closing PDU of either type: it has no payload
abbrev closing_paper : ℕ → ClosingPdu → ReadPaper
closing_paper kind c =
    record {
      number = 0;
      found = 0;
      worked = 0;
      kind = kind;
      stamp = c.stamp;
      packet = c.number.0;
      elapsed = c.elapsed.0;
      packets = c.packets.0;
      octets = c.octets.0;
      payload = 0;
    }

-- "closing, data, closing with lengths, or a refusal number, each with its fields"
unfoldable pub read_paper : Read → ReadPaper
read_paper (Closing c) = closing_paper 1 c
read_paper (Data d) =
    record {
      number = 0;
      found = 0;
      worked = 0;
      kind = 2;
      stamp = d.stamp;
      packet = d.number.0;
      elapsed = d.elapsed.0;
      packets = 0;
      octets = 0;
      payload = d.length.0;
    }
read_paper (ClosingWithLengths c) = closing_paper 4 c
read_paper (NotRead r) =
    record { number = number_of r; found = found_of r; worked = worked_of r; kind = 0; stamp = 0; packet = 0; elapsed = 0; packets = 0; octets = 0; payload = 0 }

-- of writing and listing: the refusal's number and both checks, or zeros; 1 where accepted; and how many were written
pub record CountPaper : Type 0 where
  pub number : ℕ
  pub found : ℕ
  pub worked : ℕ
  pub accepted : ℕ
  pub count : ℕ

-- of writing: how many octets
unfoldable pub written_paper : Written → CountPaper
written_paper (Ok n) = record { number = 0; found = 0; worked = 0; accepted = 1; count = n }
written_paper (Err r) = record { number = number_of r; found = found_of r; worked = worked_of r; accepted = 0; count = 0 }

-- of reading lengths into a lent list: how many lengths
unfoldable pub listed_paper : Listed → CountPaper
listed_paper (Ok n) = record { number = 0; found = 0; worked = 0; accepted = 1; count = n.0 }
listed_paper (Err r) = record { number = number_of r; found = found_of r; worked = worked_of r; accepted = 0; count = 0 }
