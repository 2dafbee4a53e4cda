-- `checks::ends::payload_end` meets its contract: each step leaves the same and is shorter, and the shift brings ten zeros down.
-- Assumes nothing.
use mathlib.Core.Path.{refl, sym, ap, ◌∙◌}
use Prim.Native.Nat.{ℕ}
use native.Mathlib.Omega.{arith}
use lib.Dec.{lit≤}
use Rattle.checks.specs.Inside.{feed}
use Rattle.checks.proofs.Folding.{shift_small}
use Rattle.checks.proofs.ShortSums.{payload, payload_38, payload_19}
use Rattle.checks.proofs.ends.payload_end.Goals as goal

pub payload_rest-requires : goal.payload_rest-requires
payload_rest-requires c =
    let first = c.reduce-a.ensures.short 26 38 c.ranges.x.fits (lit≤ tt) (lit≤ tt) (lit≤ tt) (lit≤ tt) in
    let second = c.reduce-b.ensures.short 19 23 first (lit≤ tt) (lit≤ tt) (lit≤ tt) (lit≤ tt) in
    c.reduce.ensures.short 14 19 (omega (arith, second)) (lit≤ tt) (lit≤ tt) (lit≤ tt) (lit≤ tt)

pub returns : goal.returns
returns c =
    let r = c.reduce-b.result in
    let first = c.reduce-a.ensures.short 26 38 c.ranges.x.fits (lit≤ tt) (lit≤ tt) (lit≤ tt) (lit≤ tt) in
    let h = c.reduce-b.ensures.short 19 23 first (lit≤ tt) (lit≤ tt) (lit≤ tt) (lit≤ tt) in
    c.payload_rest.ensures
    ∙ c.reduce.ensures.same payload payload_19
    ∙ sym (shift_small payload 10 54 r refl (omega (arith, h)) (omega (arith, h)))
    ∙ ap (λ (m : ℕ). feed 0x633 10 10 m 0)
    (c.reduce-b.ensures.same payload payload_19
    ∙ c.reduce-a.ensures.same payload payload_38)
