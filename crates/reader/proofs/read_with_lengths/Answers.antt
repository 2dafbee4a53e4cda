-- `reader::read_with_lengths` meets its contract. Assumes nothing.
use mathlib.Core.Path.{ap}
use native.Mathlib.Omega.{arith}
use Rattle.fields.proofs.ReadAgain.{be_lt}
use Rattle.frame.specs.declared.ClosingPdu.{ClosingPdu}
use Rattle.reader.proofs.read_with_lengths.Goals as goal

pub lengths_wrong-requires : goal.lengths_wrong-requires
lengths_wrong-requires c =
    let n = ap (λ (x : ClosingPdu). x.number.0) c.closing_of-c.ensures in
    let b = be_lt c.args.frame.now (λ i. (c.type_inv.frame i).fits) 2 3 in
    record { few = omega (arith, n, b); there = omega arith }
