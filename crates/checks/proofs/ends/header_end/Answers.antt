-- `checks::ends::header_end` meets its contract: each step leaves the same and is shorter, and the shift brings six zeros down.
-- Assumes nothing.
use mathlib.Core.Path.{refl, sym, ap, ◌∙◌}
use Prim.Native.Nat.{ℕ}
use native.Mathlib.Omega.{arith}
use lib.Dec.{lit≤}
use Rattle.checks.specs.Inside.{feed}
use Rattle.checks.proofs.Folding.{shift_small}
use Rattle.checks.proofs.ShortSums.{header, header_31, header_22, header_11, header_8}
use Rattle.checks.proofs.ends.header_end.Goals as goal

pub header_rest-requires : goal.header_rest-requires
header_rest-requires c =
    let first = c.reduce-a.ensures.short 33 33 c.ranges.x.fits (lit≤ tt) (lit≤ tt) (lit≤ tt) (lit≤ tt) in
    let second = c.reduce-b.ensures.short 17 22 (omega (arith, first)) (lit≤ tt) (lit≤ tt) (lit≤ tt) (lit≤ tt) in
    let third = c.reduce-c.ensures.short 11 13 second (lit≤ tt) (lit≤ tt) (lit≤ tt) (lit≤ tt) in
    c.reduce.ensures.short 5 8 third (lit≤ tt) (lit≤ tt) (lit≤ tt) (lit≤ tt)

pub returns : goal.returns
returns c =
    let r = c.reduce-a.result in
    let h = c.reduce-a.ensures.short 33 33 c.ranges.x.fits (lit≤ tt) (lit≤ tt) (lit≤ tt) (lit≤ tt) in
    c.header_rest.ensures
    ∙ c.reduce.ensures.same header header_8
    ∙ c.reduce-c.ensures.same header header_11
    ∙ c.reduce-b.ensures.same header header_22
    ∙ sym (shift_small header 6 58 r refl (omega (arith, h)) (omega (arith, h)))
    ∙ ap (λ (m : ℕ). feed 0x6F 6 6 m 0) (c.reduce-a.ensures.same header header_31)
