-- What reading does not judge (document 01: spare bits "not judged when read (padding too), yet covered by the header check";
-- extension "dropped when read"): a frame for each, accepted. Assumes nothing.
use mathlib.Core.Path.{◌≡◌, refl}
use mathlib.Core.List.{[], ◌∷◌}
use Rattle.fields.specs.Numbers.{be}
use Rattle.checks.specs.Check.{divide, low_digits, bits_of, check}
use Rattle.frame.specs.declared.Read.TheVariants.{Closing, Data, ClosingWithLengths}
use Rattle.frame.specs.Layout.{length_at, sum_lengths}
use Rattle.frame.specs.Payloads.{starts_v4, starts_v6, payload_kept}
use Rattle.frame.specs.Counts.{data_wrong, closing_wrong, lengths_wrong}
use Rattle.frame.specs.Reading.{read_frame, read_headed, read_body}
use Rattle.frame.proofs.BenchExamples.{first, after}

-- example A with all spare bits set, and the header check of that
spare_bits : read_frame (0x1F ∷ 0 ∷ 0 ∷ 0 ∷ 0 ∷ 0 ∷ 0 ∷ 0 ∷ 0 ∷ 0xA8 ∷ 0 ∷ []) ≡ Data (first 0)
unfolding be divide low_digits bits_of check read_frame read_headed read_body data_wrong payload_kept starts_v4 starts_v6
spare_bits = refl

-- example C with both padding bits set
padding_bits : read_frame (0 ∷ 0 ∷ 0 ∷ 0 ∷ 0x01 ∷ 0 ∷ 0 ∷ 0 ∷ 0x01 ∷ 0 ∷ 0 ∷ 0x01 ∷ 0 ∷ 0 ∷ 0 ∷ 0 ∷ 0x01 ∷ 0x9F ∷ []) ≡ Closing (after 1)
unfolding be divide low_digits bits_of check read_frame read_headed read_body closing_wrong
padding_bits = refl

-- example D with the four padding bits set, and the payload check of that
padding_of_lengths : read_frame (0x30 ∷ 0 ∷ 0 ∷ 0 ∷ 0x01 ∷ 0 ∷ 0 ∷ 0 ∷ 0x01 ∷ 0 ∷ 0 ∷ 0x01 ∷ 0 ∷ 0 ∷ 0 ∷ 0 ∷ 0x01 ∷ 0x01 ∷ 0xCF ∷ 0 ∷ 0x1F ∷ []) ≡ ClosingWithLengths (after 1)
unfolding be divide low_digits bits_of check read_frame read_headed read_body closing_wrong lengths_wrong length_at sum_lengths
padding_of_lengths = refl

-- example D with four octets of extension, and the payload check of all
extension : read_frame (0x30 ∷ 0 ∷ 0 ∷ 0 ∷ 0x01 ∷ 0 ∷ 0 ∷ 0 ∷ 0x01 ∷ 0 ∷ 0 ∷ 0x01 ∷ 0 ∷ 0 ∷ 0 ∷ 0 ∷ 0x01 ∷ 0x03 ∷ 0xF4 ∷ 0 ∷ 0x10 ∷ 0xAA ∷ 0xBB ∷ 0xCC ∷ 0xDD ∷ []) ≡ ClosingWithLengths (after 1)
unfolding be divide low_digits bits_of check read_frame read_headed read_body closing_wrong lengths_wrong length_at sum_lengths
extension = refl
