-- `numbers_frames::closing_in_one` meets its contract. Assumes nothing.
use Rattle.numbers.proofs.InOne.{as_few}
use native.Mathlib.Omega.{arith}
use Rattle.numbers_frames.proofs.FramesCounted.{few_closing, wrote}
use Rattle.numbers_frames.proofs.closing_in_one.Goals as goal

pub in_one-requires : goal.in_one-requires
in_one-requires c = omega (arith, as_few _ _ c.write_closing.ensures.says (few_closing _ _))

pub returns : goal.returns
returns c =
    wrote _ _ _ _ _ _ (rw c.closing_given-c.ensures at c.write_closing.ensures) c.in_one.ensures
