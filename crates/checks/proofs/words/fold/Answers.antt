-- `checks::words::fold` meets its contract: x cut to 38 digits has room for 26 more. Assumes nothing.
use mathlib.Core.Path.{◌≡◌, ap, subst, ◌∙◌}
use Prim.Native.Nat.{ℕ, ◌+◌, ◌-◌, ◌^◌, ◌<◌}
use native.Mathlib.Omega.{arith}
use lib.Bits.{bit_xor}
use Rattle.checks.specs.Exponents.{exponents}
use Rattle.checks.specs.Inside.{leaves}
use Rattle.checks.proofs.Folding.{carried, within_three}
use Rattle.checks.proofs.words.fold.Goals as goal

pub returns : goal.returns
returns c =
    let a = c.args in
    let p = c.requires in
    let es = exponents a.by in
    let x = c.reduce.result in
    let e : 64 ≡ 64 - a.short.n + a.short.n = omega arith in
    let room = subst (λ (m : ℕ). a.x < 2 ^ m) e c.ranges.x.fits in
    let h = c.reduce.ensures.short (64 - a.short.n) 38 room (omega arith) (omega arith) (omega arith) (omega arith) in
    let up = ap (λ (m : ℕ). bit_xor m a.y) c.shifted_up.ensures in
    record {
      same = λ G d. ap (leaves _ _) up ∙ carried G es a.x x a.y h (within_three p.0.0 p.0.1 p.0.2) (c.reduce.ensures.same G d);
    }
