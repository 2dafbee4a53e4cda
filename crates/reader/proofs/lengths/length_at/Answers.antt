-- `reader::lengths::length_at` meets its contract: shifts and masks of two octets. Assumes nothing.
use mathlib.Core.Path.{◌≡◌}
use Prim.Native.Nat.{ℕ, ◌+◌, ◌*◌, ◌/◌, ◌%◌, ◌^◌, ◌<◌}
use lib.Bits.{bit_or}
use lib.ListN.{get_or}
use Rattle.fields.proofs.ReadAgain.{be_two}
use Rattle.fields.proofs.ShiftsAndMasks.{beside, low_bits}
use Rattle.frame.specs.Layout.{length_at}
use native.Mathlib.Omega.{arith}
use Rattle.reader.proofs.lengths.length_at.Goals as goal

-- all of one octet, and the four high bits of the next
upper : (x y : ℕ) → x < 256 → y < 256 → bit_or (x * 2 ^ 4 % 2 ^ 64) (y / 2 ^ 4) ≡ (x * 256 + y) / 16
upper x y hx hy =
    let b = beside 64 x 4 (y / 16) (omega arith) (omega arith) in
    omega (arith, b)

pub overflow_cast-upper : goal.overflow_cast-upper
overflow_cast-upper c = omega (arith, c.type_inv.frame (19 + 3 * c.args.i / 2))

pub overflow_cast-lower : goal.overflow_cast-lower
overflow_cast-lower c = omega (arith, c.type_inv.frame (19 + 3 * c.args.i / 2 + 1))

pub returns-then-i-eq0 : goal.returns-then-i-eq0
unfolding length_at
returns-then-i-eq0 c =
    let a = c.args in
    let s = a.frame.now in
    let at = 19 + 3 * a.i / 2 in
    let o = c.type_inv.frame in
    let v = upper (get_or s at 0) (get_or s (at + 1) 0) (omega (arith, o at)) (omega (arith, o (at + 1))) in
    (rw (c.if-i-eq0.true, be_two s at) v, omega (arith, v, o at, o (at + 1)))

pub returns : goal.returns
unfolding length_at
returns c =
    let a = c.args in
    let s = a.frame.now in
    let at = 19 + 3 * a.i / 2 in
    let odd : a.i % 2 ≡ 1 = omega arith in
    let v = low_bits 64 4 (get_or s at 0) (get_or s (at + 1) 0) (omega arith) (omega (arith, c.type_inv.frame (at + 1))) in
    (rw (odd, be_two s at) v, omega (arith, v))
