-- `writer::frames::put_with_lengths` meets its contract. Assumes nothing.
use borrow.Author.Rules.{rules}
use mathlib.Core.Path.{◌≡◌, refl, ap, ◌∙◌}
use mathlib.Core.List.{List}
use Prim.Native.Nat.{◌+◌, ◌-◌}
use native.Mathlib.Omega.{arith}
use lib.ListN.{length, take, drop}
use Rattle.fields.specs.Numbers.{octets}
use Rattle.fields.proofs.Laying.{part_laid}
use Rattle.checks.specs.Check.{payload_check}
use Rattle.frame.specs.Writing.{closing_control, packed, lengths_frame}
use Rattle.frame.proofs.Fitting.{length_packed}
use Rattle.writer.proofs.Sealing.{ten_bits, sealing}
use Rattle.writer.proofs.frames.put_with_lengths.Goals as goal

pub put_checks-requires : goal.put_checks-requires
put_checks-requires c = (ten_bits _ c.payload_check-check.ensures, search rules)

pub returns : goal.returns
unfolding octets lengths_frame
returns c =
    let a = c.args in
    let old = a.out.now in
    let ls = a.lengths.now in
    let m = 19 + c.filled_octets-end.result - 19 in
    let l : length (packed ls) ≡ 19 + c.filled_octets-end.result - 19 = omega (arith, length_packed ls, c.filled_octets-end.ensures) in
    let q : take m (drop 19 c.put_lengths.new.out) ≡ packed ls = ap (λ (o : List _). take m (drop 19 o)) c.put_lengths.ensures ∙ part_laid old (packed ls) 19 m (omega arith) l in
    sealing old (closing_control 3 a.c) (packed ls) 17 refl (omega arith) (c.payload_check-check.ensures ∙ ap payload_check q) c.put_lengths.ensures c.put_closing_control.ensures c.put_checks.ensures
