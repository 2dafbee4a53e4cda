-- `checks::powers::Power::reduce` meets its contract: digits from n on come back as the sum that D^n is. Assumes nothing.
use mathlib.Core.Path.{sym, ap, subst, ◌∙◌}
use Prim.Native.Nat.{ℕ, ◌%◌, ◌^◌, ◌<◌}
use native.Mathlib.Omega.{arith}
use lib.Bits.{bit_xor}
use Rattle.std.specs.List.{slice_index}
use Rattle.fields.proofs.ShiftsAndMasks.{masked}
use Rattle.checks.specs.Exponents.{exponents}
use Rattle.checks.specs.Inside.{leaves}
use Rattle.checks.proofs.Folding.{reduced, reduced_lt, within_three}
use Rattle.checks.proofs.powers.Power.reduce.Goals as goal

pub returns : goal.returns
returns c =
    let x = c.args.x in
    let p = c.args.self in
    let to = p.lower.1 in
    let e = ap (bit_xor c.shifted_up.result) (masked 64 x p.n p.lower.0) ∙ ap (λ (m : ℕ). bit_xor m (x % 2 ^ p.n)) c.shifted_up.ensures in
    record {
      same = λ G d. ap (leaves _ _) e ∙ reduced G p.n (exponents p.sum) x (omega arith) c.ranges.x.fits (within_three to.0 to.1 to.2) d;
      short = λ m u hx hn h0 h1 h2.
          subst (λ (r : ℕ). r < 2 ^ u) (sym e) (reduced_lt p.n (slice_index p.sum 0) (slice_index p.sum 1) (slice_index p.sum 2) x m u hx hn h0 h1 h2);
    }
