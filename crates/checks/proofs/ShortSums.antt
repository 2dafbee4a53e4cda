-- The two generators, and the powers of D that are short sums modulo each: closed facts that the checker computes.
-- Assumes nothing.
use mathlib.Core.Path.{refl}
use mathlib.Core.List.{[], ◌∷◌}
use lib.Dec.{lit<}
use Rattle.checks.specs.Check.{divide, low_digits}
use Rattle.checks.specs.Inside.{Generator, SameAs}

pub header : Generator 0x6F 6
header = record { lower = 0x2F; whole = refl; below = lit< tt; degree = lit< tt }

pub payload : Generator 0x633 10
payload = record { lower = 0x233; whole = refl; below = lit< tt; degree = lit< tt }

pub header_64 : SameAs 0x6F 6 64 (2 ∷ 2 ∷ 2 ∷ [])
unfolding divide low_digits
header_64 = refl

pub header_31 : SameAs 0x6F 6 31 (0 ∷ 0 ∷ 0 ∷ [])
unfolding divide low_digits
header_31 = refl

pub header_22 : SameAs 0x6F 6 22 (4 ∷ 2 ∷ 0 ∷ [])
unfolding divide low_digits
header_22 = refl

pub header_11 : SameAs 0x6F 6 11 (2 ∷ 1 ∷ 0 ∷ [])
unfolding divide low_digits
header_11 = refl

pub header_8 : SameAs 0x6F 6 8 (3 ∷ 2 ∷ 0 ∷ [])
unfolding divide low_digits
header_8 = refl

pub payload_512 : SameAs 0x633 10 512 (1 ∷ [])
unfolding divide low_digits
payload_512 = refl

pub payload_256 : SameAs 0x633 10 256 (4 ∷ 16 ∷ 24 ∷ [])
unfolding divide low_digits
payload_256 = refl

pub payload_128 : SameAs 0x633 10 128 (2 ∷ 8 ∷ 12 ∷ [])
unfolding divide low_digits
payload_128 = refl

pub payload_64 : SameAs 0x633 10 64 (1 ∷ 4 ∷ 6 ∷ [])
unfolding divide low_digits
payload_64 = refl

pub payload_38 : SameAs 0x633 10 38 (8 ∷ 2 ∷ 0 ∷ [])
unfolding divide low_digits
payload_38 = refl

pub payload_19 : SameAs 0x633 10 19 (4 ∷ 1 ∷ 0 ∷ [])
unfolding divide low_digits
payload_19 = refl

-- the header's generator, with what brings a row into one word
pub ruleset header_sums = (header, header_64, header_31)

-- and the payload's
pub ruleset payload_sums = (payload, payload_512, payload_64, payload_38)
