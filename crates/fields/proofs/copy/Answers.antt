-- `fields::copy` meets its contract: the first j octets are in their place. Assumes nothing.
use borrow.Author.Rules.{rules}
use mathlib.Core.Path.{◌≡◌, refl}
use Prim.Native.Nat.{◌+◌, ◌<◌}
use native.Mathlib.Omega.{arith}
use native.Mathlib.Numerals.{add-one}
use lib.ListN.{length, length-set}
use lib.Seq.{paste-zero, paste-suc, take-length}
use Rattle.fields.specs.Runs.{laid}
use Rattle.fields.proofs.copy.Goals as goal

pub loop-j-init : goal.loop-j-init
loop-j-init c = (search rules, refl, paste-zero c.args.out.now c.args.at c.args.src.now)

pub loop-j-preserved : goal.loop-j-preserved
loop-j-preserved c =
    let a = c.args in
    let l = c.loop-j in
    let h : a.at + l.j < length a.out.now = omega arith in (
      omega arith,
      simp length-set l.invariant.1,
      rw (add-one, l.invariant.2) (paste-suc a.out.now a.at a.src.now l.j 0 h (omega arith)),
    )

pub shape_of-out : goal.shape_of-out
shape_of-out c = c.loop-j.invariant.1

pub returns : goal.returns
unfolding laid
returns c =
    let e : c.loop-j.j ≡ length c.args.src.now = omega arith in
    rw (e, take-length) at c.loop-j.invariant.2
