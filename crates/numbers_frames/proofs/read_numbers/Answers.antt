-- `numbers_frames::read_numbers` meets its contract. Assumes nothing.
use mathlib.Core.Path.{refl, ◌∙◌}
use Rattle.frame.specs.Paper.{read_paper}
use Rattle.numbers_frames.proofs.ReadTold.{values_put}
use Rattle.numbers_frames.proofs.read_numbers.Goals as goal
use Rattle.numbers_frames.proofs.read_numbers.Goals.{in-Data, in-Closing, in-ClosingWithLengths}

pub returns-in-Refused : goal.returns-in-Refused
unfolding read_paper
returns-in-Refused c = rw (← c.read_frame.ensures, c.in-Refused.is) (record { says = c.in_one.ensures; leaves = refl })

pub returns : goal.returns
unfolding read_paper
returns c =
    let p = c.put_in_front.ensures in
    let n = c.from-2.ensures ∙ c.number_of.ensures in
    rw (← c.read_frame.ensures) (
    elim c.match-read_frame.branch [
      | in-Data w ↦ rw w.in-Data.is (values_put _ _ _ _ _ _ refl (rw (w.values-is, w.from.ensures, w.from-in-Data.ensures) refl) p.says n p.leaves)
      | in-Closing w ↦ rw w.in-Closing.is (values_put _ _ _ _ _ _ refl (rw (w.values-is, w.closing_values-values.ensures) refl) p.says n p.leaves)
      | in-ClosingWithLengths w ↦ rw w.in-ClosingWithLengths.is (values_put _ _ _ _ _ _ refl (rw (w.values-is, w.closing_values-values-in-ClosingWithLengths.ensures) refl) p.says n p.leaves)
    ])
