-- A frame for each clause of the rule of a Type 1 payload (document 02, request 2): the octets behind an IP packet are dropped, and where
-- its header is not as it should be, "all of it is payload". Assumes nothing.
use Prim.Native.Nat.{ℕ}
use mathlib.Core.Path.{◌≡◌, refl}
use mathlib.Core.List.{List, [], ◌∷◌, ◌++◌}
use lib.ListN.{replicate}
use Rattle.fields.specs.Numbers.{be}
use Rattle.checks.specs.Check.{divide, low_digits, bits_of, check}
use Rattle.frame.specs.declared.Read.TheVariants.{Data}
use Rattle.frame.specs.Counts.{data_wrong}
use Rattle.frame.specs.Payloads.{starts_v4, starts_v6, payload_kept}
use Rattle.frame.specs.Reading.{read_frame, read_headed, read_body}
use Rattle.frame.proofs.BenchExamples.{first}

-- a first packet, with its two octets of checks and all that stands behind them
abbrev pub frame_with : ℕ → ℕ → List ℕ → List ℕ
frame_with a b part = 0x10 ∷ replicate 8 0 ++ (a ∷ b ∷ part)

-- an IPv4 header of twenty octets by its first octet and its total length, and what stands behind it
abbrev pub ipv4 : ℕ → ℕ → ℕ → List ℕ → List ℕ
ipv4 begin upper lower behind = begin ∷ 0 ∷ upper ∷ lower ∷ replicate 16 0 ++ behind

-- an IPv6 header by the lower octet of its payload length
abbrev ipv6 : ℕ → List ℕ → List ℕ
ipv6 lower behind = 0x60 ∷ 0 ∷ 0 ∷ 0 ∷ 0 ∷ lower ∷ replicate 34 0 ++ behind

abbrev pub two : List ℕ
two = 0xAA ∷ 0xBB ∷ []

-- two octets behind an IPv4 packet of twenty
pub two_dropped : read_frame (frame_with 0x3B 0x98 (ipv4 0x45 0 20 two)) ≡ Data (first 20)
unfolding be divide low_digits bits_of check read_frame read_headed read_body data_wrong payload_kept starts_v4 starts_v6
two_dropped = refl

-- three octets behind an IPv6 packet of 41
three_dropped : read_frame (frame_with 0x3A 0xC9 (ipv6 1 (0x77 ∷ 0xAA ∷ 0xBB ∷ 0xCC ∷ []))) ≡ Data (first 41)
unfolding be divide low_digits bits_of check read_frame read_headed read_body data_wrong payload_kept starts_v4 starts_v6
three_dropped = refl

-- four octets behind an IPv4 packet of twenty, the most
four_dropped : read_frame (frame_with 0x3B 0xB9 (ipv4 0x45 0 20 (0xAA ∷ 0xBB ∷ 0xCC ∷ 0xDD ∷ []))) ≡ Data (first 20)
unfolding be divide low_digits bits_of check read_frame read_headed read_body data_wrong payload_kept starts_v4 starts_v6
four_dropped = refl

-- two behind a packet of 24 that is all header
header_of_six_words : read_frame (frame_with 0x3B 0x75 (ipv4 0x46 0 24 (0 ∷ 0 ∷ 0 ∷ 0 ∷ two))) ≡ Data (first 24)
unfolding be divide low_digits bits_of check read_frame read_headed read_body data_wrong payload_kept starts_v4 starts_v6
header_of_six_words = refl

-- two behind an IPv6 packet with a payload length of 0
six_of_nothing : read_frame (frame_with 0x39 0x19 (ipv6 0 two)) ≡ Data (first 40)
unfolding be divide low_digits bits_of check read_frame read_headed read_body data_wrong payload_kept starts_v4 starts_v6
six_of_nothing = refl

-- "incomplete": 19 octets with 15 stated, and 39 of IPv6
incomplete : read_frame (frame_with 0x39 0x2D (0x45 ∷ 0 ∷ 0 ∷ 15 ∷ replicate 15 0)) ≡ Data (first 19)
unfolding be divide low_digits bits_of check read_frame read_headed read_body data_wrong payload_kept starts_v4 starts_v6
incomplete = refl

six_incomplete : read_frame (frame_with 0x3A 0xEF (0x60 ∷ replicate 38 0)) ≡ Data (first 39)
unfolding be divide low_digits bits_of check read_frame read_headed read_body data_wrong payload_kept starts_v4 starts_v6
six_incomplete = refl

-- "states less than its own header": 19
less_than_header : read_frame (frame_with 0x3A 0x70 (ipv4 0x45 0 19 two)) ≡ Data (first 22)
unfolding be divide low_digits bits_of check read_frame read_headed read_body data_wrong payload_kept starts_v4 starts_v6
less_than_header = refl

-- "IHL under 5"
ihl_of_four : read_frame (frame_with 0x3B 0x74 (ipv4 0x44 0 20 two)) ≡ Data (first 22)
unfolding be divide low_digits bits_of check read_frame read_headed read_body data_wrong payload_kept starts_v4 starts_v6
ihl_of_four = refl

-- "another version"
version_five : read_frame (frame_with 0x39 0x3E (ipv4 0x55 0 20 two)) ≡ Data (first 22)
unfolding be divide low_digits bits_of check read_frame read_headed read_body data_wrong payload_kept starts_v4 starts_v6
version_five = refl

-- "more than is there": 23, and 5,120, which is 20 with the least significant octet first
more_than_there : read_frame (frame_with 0x3A 0x2D (ipv4 0x45 0 23 two)) ≡ Data (first 22)
unfolding be divide low_digits bits_of check read_frame read_headed read_body data_wrong payload_kept starts_v4 starts_v6
more_than_there = refl

octets_exchanged : read_frame (frame_with 0x3A 0x21 (ipv4 0x45 20 0 two)) ≡ Data (first 22)
unfolding be divide low_digits bits_of check read_frame read_headed read_body data_wrong payload_kept starts_v4 starts_v6
octets_exchanged = refl

-- "over 4 octets less": five octets behind
five_behind : read_frame (frame_with 0x39 0x00 (ipv4 0x45 0 20 (0xAA ∷ 0xBB ∷ 0xCC ∷ 0xDD ∷ 0xEE ∷ []))) ≡ Data (first 25)
unfolding be divide low_digits bits_of check read_frame read_headed read_body data_wrong payload_kept starts_v4 starts_v6
five_behind = refl
