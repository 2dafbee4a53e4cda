-- `checks::words::in_one_word` meets its contract: x stands for the octets so far. Assumes nothing.
use mathlib.Core.Path.{◌≡◌, ap, ◌∙◌}
use Prim.Native.Nat.{ℕ, ◌+◌, ◌*◌, ◌%◌, ◌≤◌}
use native.Mathlib.Omega.{arith}
use lib.ListN.{length}
use Rattle.checks.specs.Exponents.{exponents}
use Rattle.checks.specs.Inside.{passed}
use Rattle.checks.proofs.Folding.{next_word}
use Rattle.checks.proofs.words.in_one_word.Goals as goal

pub loop-k-preserved : goal.loop-k-preserved
loop-k-preserved c =
    let a = c.args in
    let l = c.loop-k in
    let i : ℕ = a.m % 8 + 8 * l.k in
    let known = c.type_inv.s in
    let h : i + 8 ≤ length a.s.now = omega arith in
    let e : i + 8 ≡ a.m % 8 + 8 * (l.k + 1) = omega arith in
    record {
      same = λ {g} {k} G d b.
          next_word G a.s.now (λ j. (known j).fits) (exponents a.by) i l.x c.word.result c.fold-x.result d h
          (l.invariant.same G d b) c.word.ensures (c.fold-x.ensures.same G b) ∙ ap (passed g k a.s.now) e;
    }
