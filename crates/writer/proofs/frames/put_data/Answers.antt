-- `writer::frames::put_data` meets its contract. Assumes nothing.
use borrow.Author.Rules.{rules}
use mathlib.Core.Path.{refl}
use native.Mathlib.Omega.{arith}
use Rattle.fields.specs.Numbers.{octets}
use Rattle.frame.specs.Writing.{control_part, data_frame}
use Rattle.writer.proofs.Sealing.{ten_bits, sealing}
use Rattle.writer.proofs.frames.put_data.Goals as goal

pub put_checks-requires : goal.put_checks-requires
put_checks-requires c =
    (ten_bits _ c.put_payload-check.ensures.1, search rules)

pub returns : goal.returns
unfolding octets data_frame
returns c =
    let a = c.args in
    sealing a.out.now (control_part 1 a.stamp a.number.0 a.elapsed.0) a.payload.now 9 refl (omega arith) c.put_payload-check.ensures.1 c.put_payload-check.ensures.0 c.put_control.ensures c.put_checks.ensures
