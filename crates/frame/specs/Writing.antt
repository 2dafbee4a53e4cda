-- The frames that are written, and what writing answers and leaves (document 01, "Frame layouts" and "Writing a frame from given
-- fields, without a sender: 5, 20, 8, 22, 12"). Assumes nothing.
use Rattle.std.specs.Prelude.{ℕ, ◌+◌, ◌*◌, List, [], ◌∷◌, ◌++◌, length, ltb, Ok, Err}
use Rattle.units.specs.Limits.{most_payload, last_stamp}
use Rattle.units.specs.declared.refusals.Refusal.{Refusal}
use Rattle.fields.specs.Choice.{◌when◌otherwise◌}
use Rattle.fields.specs.Numbers.{octets}
use Rattle.fields.specs.Runs.{front}
use Rattle.checks.specs.Check.{header_check, payload_check}
use Rattle.frame.specs.declared.ClosingPdu.{ClosingPdu}
use Rattle.frame.specs.Answers.{Written}
use Rattle.frame.specs.Sizes.{data_head, closing_size, lengths_head}
use Rattle.frame.specs.Layout.{filled}
use Rattle.frame.specs.Counts.{data_wrong, given_wrong, list_wrong}
use Rattle.units.specs.declared.refusals.Refusal.TheVariants.{CountsImpossible, LengthsWrong, NoRoom, PayloadTooLong, StampTooHigh}

-- "type octet (1), Time Stamp (2), Packet Number (2), Elapsed Octet Counter (4)"; the spare bits are "written zero"
abbrev pub control_part : ℕ → ℕ → ℕ → ℕ → List ℕ
control_part t stamp n e = octets 1 (t * 16) ++ octets 2 stamp ++ octets 2 n ++ octets 4 e

-- "Types 0 and 3 go on: Total Number Of Packet (3), Total Number Of Octet (5)"
abbrev pub closing_control : ℕ → ClosingPdu → List ℕ
closing_control t c =
    control_part t c.stamp c.number.0 c.elapsed.0 ++ octets 3 c.packets.0 ++ octets 5 c.octets.0

-- "six bits of header check and then ten of payload check. Then the payload part"
abbrev pub sealed : List ℕ → List ℕ → List ℕ
sealed head part = head ++ octets 2 (header_check head * 1024 + payload_check part) ++ part

-- a Type 1 frame
unfoldable pub data_frame : ℕ → ℕ → ℕ → List ℕ → List ℕ
data_frame stamp n e payload = sealed (control_part 1 stamp n e) payload

-- a Type 0 frame: "header check in bits 7 to 2, two padding bits"
unfoldable pub closing_frame : ClosingPdu → List ℕ
closing_frame c = closing_control 0 c ++ octets 1 (header_check (closing_control 0 c) * 4)

-- "lengths of 12 bits ... packed without gaps; four padding bits end them if N is odd"
unfoldable pub packed : List ℕ → List ℕ
packed [] = []
packed (a ∷ []) = octets 2 (a * 16)
packed (a ∷ b ∷ ls) = octets 3 (a * 4096 + b) ++ packed ls

-- a Type 3 frame
unfoldable pub lengths_frame : ClosingPdu → List ℕ → List ℕ
lengths_frame c ls = sealed (closing_control 3 c) (packed ls)

-- a refusal
abbrev pub refuse_write : Refusal → Written
refuse_write r = Err r

-- "5, 20, 8, 12": a data PDU with a payload of l octets, into room octets
unfoldable pub write_data : ℕ → ℕ → ℕ → ℕ → ℕ → Written
write_data stamp n e l room =
    refuse_write StampTooHigh when ltb last_stamp stamp otherwise
    refuse_write PayloadTooLong when ltb most_payload l otherwise
    refuse_write CountsImpossible when data_wrong n e otherwise
    refuse_write NoRoom when ltb room (data_head + l) otherwise
    Ok (data_head + l)

-- "5, 8, 12": a closing PDU of Type 0
unfoldable pub write_closing : ClosingPdu → ℕ → Written
write_closing c room =
    refuse_write StampTooHigh when ltb last_stamp c.stamp otherwise
    refuse_write CountsImpossible when given_wrong c otherwise
    refuse_write NoRoom when ltb room closing_size otherwise
    Ok closing_size

-- "5, 8, 22, 12": a closing PDU of Type 3
unfoldable pub write_lengths : ClosingPdu → List ℕ → ℕ → Written
write_lengths c ls room =
    refuse_write StampTooHigh when ltb last_stamp c.stamp otherwise
    refuse_write CountsImpossible when given_wrong c otherwise
    refuse_write LengthsWrong when list_wrong ls c.number.0 c.elapsed.0 otherwise
    refuse_write NoRoom when ltb room (lengths_head + filled (length ls)) otherwise
    Ok (lengths_head + filled (length ls))

-- what lent memory holds after: the frame in front, and behind it what stood there; or, refused, what it held
unfoldable pub after : Written → List ℕ → List ℕ → List ℕ
after (Ok n) frame old = front old frame
after (Err r) frame old = old
