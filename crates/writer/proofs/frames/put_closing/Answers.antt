-- `writer::frames::put_closing` meets its contract. Assumes nothing.
use mathlib.Core.Path.{◌≡◌, refl, ap, ◌∙◌}
use Prim.Native.Nat.{◌*◌, ◌%◌}
use native.Mathlib.Omega.{arith}
use lib.ListN.{take}
use Rattle.fields.specs.Numbers.{octets}
use Rattle.fields.proofs.Laying.{laid_on, stored, take_front}
use Rattle.checks.specs.Check.{header_check}
use Rattle.checks.proofs.Rows.{check_lt}
use Rattle.checks.proofs.ShortSums.{header}
use Rattle.frame.specs.Writing.{closing_control, closing_frame}
use Rattle.writer.proofs.frames.put_closing.Goals as goal

pub returns : goal.returns
unfolding octets closing_frame
returns c =
    let h = c.header_check-header in
    let o = c.put_closing_control in
    let a = c.args in
    let k = closing_control 0 a.c in
    let t : take 17 o.new.out ≡ k = ap (take 17) o.ensures ∙ take_front a.out.now k 17 refl in
    let v : h.result * 4 % 256 ≡ header_check k * 4 = omega (arith, check_lt header k, h.ensures ∙ ap header_check t) in
    let w : header_check k * 4 % 256 ≡ header_check k * 4 = omega (arith, check_lt header k) in
    laid_on a.out.now k (octets 1 (header_check k * 4)) 17 refl o.ensures (stored o.new.out 17 (h.result * 4 % 256) (omega arith) ∙ rw (v, w))
