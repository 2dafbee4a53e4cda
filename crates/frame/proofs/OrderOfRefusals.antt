-- The order of refusals, where two apply: a frame for each pair that can meet. Assumes nothing.
use mathlib.Core.Path.{◌≡◌, refl}
use mathlib.Core.List.{[], ◌∷◌}
use Rattle.fields.specs.Numbers.{be}
use Rattle.checks.specs.Check.{divide, low_digits, bits_of, check}
use Rattle.frame.specs.Payloads.{starts_v4, starts_v6, payload_kept}
use Rattle.frame.specs.Counts.{data_wrong, closing_wrong}
use Rattle.frame.specs.Reading.{refuse, read_frame, read_headed, read_body}
use Rattle.units.specs.declared.refusals.Refusal.TheVariants.{SizeWrong, StampTooHigh, TooShort, TypeTwo}
use Rattle.units.specs.Refusals.{header_refusal, payload_refusal}

-- 2 before 1: Type 2, and too short for any type
two_before_short : read_frame (0x20 ∷ []) ≡ refuse TypeTwo
unfolding read_frame
two_before_short = refl

-- 1 before 4: Type 1 of ten octets, and a header check that is wrong
short_before_header : read_frame (0x10 ∷ 0 ∷ 0 ∷ 0 ∷ 0 ∷ 0 ∷ 0 ∷ 0 ∷ 0 ∷ 0 ∷ []) ≡ refuse TooShort
unfolding read_frame
short_before_header = refl

-- 4 before 5: a wrong header check, and stamp 65,535
header_before_stamp : read_frame (0x10 ∷ 0xFF ∷ 0xFF ∷ 0 ∷ 0 ∷ 0 ∷ 0 ∷ 0 ∷ 0 ∷ 0 ∷ 0 ∷ []) ≡ refuse (header_refusal 0 19)
unfolding be divide low_digits bits_of check read_frame read_headed
header_before_stamp = refl

-- 5 before 6: stamp 65,535, and Type 0 of nineteen octets
stamp_before_size : read_frame (0 ∷ 0xFF ∷ 0xFF ∷ 0 ∷ 0 ∷ 0 ∷ 0 ∷ 0 ∷ 0 ∷ 0 ∷ 0 ∷ 0 ∷ 0 ∷ 0 ∷ 0 ∷ 0 ∷ 0 ∷ 0x6C ∷ 0 ∷ []) ≡ refuse StampTooHigh
unfolding be divide low_digits bits_of check read_frame read_headed
stamp_before_size = refl

-- 6 before 7: Type 3 without its length, and a payload check that is wrong
size_before_payload : read_frame (0x30 ∷ 0 ∷ 0 ∷ 0 ∷ 0x01 ∷ 0 ∷ 0 ∷ 0 ∷ 0x01 ∷ 0 ∷ 0 ∷ 0x01 ∷ 0 ∷ 0 ∷ 0 ∷ 0 ∷ 0x01 ∷ 0 ∷ 0x05 ∷ []) ≡ refuse SizeWrong
unfolding be divide low_digits bits_of check read_frame read_headed read_body closing_wrong
size_before_payload = refl

-- 7 before 8: a payload check that is wrong, and packet number 65,535
payload_before_counts : read_frame (0x10 ∷ 0 ∷ 0 ∷ 0xFF ∷ 0xFF ∷ 0 ∷ 0 ∷ 0 ∷ 0 ∷ 0x1C ∷ 0x01 ∷ []) ≡ refuse (payload_refusal 1 0)
unfolding be divide low_digits bits_of check read_frame read_headed read_body data_wrong payload_kept starts_v4 starts_v6
payload_before_counts = refl
