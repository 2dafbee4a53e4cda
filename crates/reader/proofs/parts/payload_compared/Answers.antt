-- `reader::parts::payload_compared` meets its contract: ten bits of two octets. Assumes nothing.
use Prim.Native.Nat.{◌+◌}
use mathlib.Core.Path.{◌∙◌}
use lib.ListN.{get_or}
use Rattle.fields.proofs.ReadAgain.{be_two}
use Rattle.fields.proofs.ShiftsAndMasks.{low_bits}
use native.Mathlib.Omega.{arith}
use Rattle.reader.proofs.parts.payload_compared.Goals as goal

pub returns : goal.returns
returns c =
    let a = c.args in
    let s = a.frame.now in
    let o = c.type_inv.frame (a.n + 1) in
    let v = low_bits 16 2 (get_or s a.n 0) (get_or s (a.n + 1) 0) (omega arith) (omega (arith, o)) in
    (rw (c.from.ensures, c.from-2.ensures) (v ∙ rw (be_two s a.n)), rw (c.payload_check.ensures, c.requires.1))
