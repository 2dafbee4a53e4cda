-- `numbers_frames::closing_with_lengths_in_one` meets its contract. Assumes nothing.
use Rattle.numbers.proofs.InOne.{as_few}
use native.Mathlib.Omega.{arith}
use Rattle.numbers_frames.proofs.FramesCounted.{few_lengths, wrote}
use Rattle.numbers_frames.proofs.closing_with_lengths_in_one.Goals as goal

pub in_one-requires : goal.in_one-requires
in_one-requires c = omega (arith, as_few _ _ c.write_closing_with_lengths.ensures.says (few_lengths _ _ _))

pub returns : goal.returns
returns c =
    wrote _ _ _ _ _ _ (rw c.closing_given-given.ensures at c.write_closing_with_lengths.ensures) c.in_one.ensures
