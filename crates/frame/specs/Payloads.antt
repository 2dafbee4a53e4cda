-- How much of the part behind the checks of a Type 1 frame is payload (document 02, request 2; TS 25.446, 5.5.3.14): "a Type 1 payload
-- that starts as IPv4 or IPv6 has the length its IP header states …, and the 0 to 4 octets after it are dropped". Assumes nothing.
use Rattle.std.specs.Prelude.{ℕ, ◌+◌, ◌*◌, ◌/◌, ◌%◌, ◌≤◌, ◌<◌, ◌≡◌, Bool, true, ◌&&◌, List, length, get_or, take, leb, eqb}
use Rattle.fields.specs.Choice.{◌when◌otherwise◌}
use Rattle.fields.specs.Numbers.{be}

-- the version of an IP header: the upper four bits of its first octet (RFC 791, RFC 8200)
abbrev pub version_of : List ℕ → ℕ
version_of p = get_or p 0 0 / 16

-- the IHL of an IPv4 header: the lower four bits (RFC 791)
abbrev pub ihl_of : List ℕ → ℕ
ihl_of p = get_or p 0 0 % 16

-- "IPv4 total length, RFC 791"
abbrev pub stated_v4 : List ℕ → ℕ
stated_v4 p = be 2 p 2

-- "IPv6 payload length plus 40, RFC 8200"
abbrev pub stated_v6 : List ℕ → ℕ
stated_v6 p = be 2 p 4 + 40

-- starts as IPv4: none of "incomplete", "another version", "IHL under 5", "states less than its own header"
unfoldable pub starts_v4 : List ℕ → Bool
starts_v4 p = leb 20 (length p) && (eqb (version_of p) 4 && (leb 5 (ihl_of p) && leb (4 * ihl_of p) (stated_v4 p)))

-- starts as IPv6: neither "incomplete" nor "another version"; it always states its own 40 octets
unfoldable pub starts_v6 : List ℕ → Bool
starts_v6 p = leb 40 (length p) && eqb (version_of p) 6

-- of l octets that are there with n stated: "more than is there or over 4 octets less, all of it is payload as before"
abbrev pub kept_of : ℕ → ℕ → ℕ
kept_of l n = n when leb n l && leb l (n + 4) otherwise l

-- how many octets of the part behind the checks are payload
unfoldable pub payload_kept : List ℕ → ℕ
payload_kept p =
    kept_of (length p) (stated_v4 p) when starts_v4 p otherwise
    kept_of (length p) (stated_v6 p) when starts_v6 p otherwise
    length p

-- "payloads from which this rule drops nothing"
abbrev pub AllPayload : List ℕ → Type 0
AllPayload p = payload_kept p ≡ length p

-- an IP packet: it starts as IPv4 or as IPv6, and states as many octets as it has
pub data IpPacket (p : List ℕ) : Type 0 where
  v4 : starts_v4 p ≡ true → stated_v4 p ≡ length p → IpPacket p
  v6 : starts_v6 p ≡ true → stated_v6 p ≡ length p → IpPacket p

-- one to four octets behind an IP packet of n octets
pub record Extended (p : List ℕ) (n : ℕ) : Type 0 where
  pub packet : IpPacket (take n p)
  pub some : n < length p
  pub few : length p ≤ n + 4
