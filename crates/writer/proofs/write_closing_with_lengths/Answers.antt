-- `writer::write_closing_with_lengths` meets its contract. Assumes nothing.
use mathlib.Core.Path.{◌≡◌, sym, ◌∙◌}
use mathlib.Core.List.{List}
use mathlib.Core.Bool.{false}
use Prim.Native.Nat.{ℕ, ◌<◌}
use native.Mathlib.Omega.{arith}
use lib.ListN.{length}
use Rattle.frame.specs.declared.ClosingPdu.{ClosingPdu}
use Rattle.frame.specs.Counts.{any_above, given_wrong, list_wrong}
use Rattle.frame.proofs.Fitting.{given_fits, list_right}
use Rattle.writer.proofs.write_closing_with_lengths.Goals as goal

-- counts and lengths that are not refused: there are fewer than 65,536 lengths, and none is above
passed : (c : ClosingPdu) (ls : List ℕ) → given_wrong c ≡ false → list_wrong ls c.number.0 c.elapsed.0 ≡ false → (length ls < 65536) × (any_above ls ≡ false)
passed c ls g l =
    let right = list_right ls c.number.0 c.elapsed.0 l in
    (omega (arith, (given_fits c g).number, right.0), right.1)

pub filled_octets-size-requires : goal.filled_octets-size-requires
filled_octets-size-requires c =
    (passed c.args.c _ (sym c.given_wrong.ensures ∙ c.if-given_wrong.false) (sym c.list_wrong.ensures ∙ c.if-list_wrong.false)).0

pub put_with_lengths-requires : goal.put_with_lengths-requires
put_with_lengths-requires c =
    let p = passed c.args.c c.args.lengths.now (sym c.given_wrong.ensures ∙ c.if-given_wrong.false) (sym c.list_wrong.ensures ∙ c.if-list_wrong.false) in
    record { short = p.1; few = p.0; room = omega arith }
