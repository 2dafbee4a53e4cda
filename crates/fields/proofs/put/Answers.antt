-- `fields::put` meets its contract: the octets from k on are written, and those before are as they were. Assumes nothing.
use mathlib.Core.List.{append_assoc}
use mathlib.Core.Path.{◌≡◌, sym, ◌∙◌}
use mathlib.Core.List.{◌++◌}
use Prim.Native.Nat.{suc, ◌+◌, ◌-◌, ◌%◌, ◌<◌}
use native.Mathlib.Omega.{arith}
use native.Mathlib.Nat.{add-zero}
use lib.ListN.{length, take, drop, take-append-drop}
use lib.Seq.{take-set-le}
use Rattle.fields.specs.Numbers.{octets}
use Rattle.fields.specs.Runs.{laid}
use Rattle.fields.proofs.Laying.{octet_below, take_less}
use Rattle.fields.proofs.ReadAgain.{length_octets}
use Rattle.fields.proofs.put.Goals as goal

pub loop-k-preserved : goal.loop-k-preserved
loop-k-preserved c =
    let a = c.args in
    let l = c.loop-k in
    let i = a.at + (l.k - 1) in
    let ek : suc (l.k - 1) ≡ l.k = omega arith in
    let ei : suc (a.at + (l.k - 1)) ≡ a.at + l.k = omega arith in
    let h : a.at + (l.k - 1) < length l.out = omega arith in (
      take-set-le i l.out i (l.rest % 256) (omega arith) ∙ take_less l.out a.out.now i (a.at + l.k) (omega arith) l.invariant.0,
      octet_below l.out i (l.k - 1) l.rest h ∙ rw (ek, ei) l.invariant.1,
    )

pub returns : goal.returns
unfolding laid octets
returns c =
    let a = c.args in
    let l = c.loop-k in
    let z : l.k ≡ 0 = omega arith in
    let t : take a.at l.out ≡ take a.at a.out.now = rw (z, add-zero) at l.invariant.0 in
    let d : drop a.at l.out ≡ octets a.w a.v ++ drop (a.at + a.w) a.out.now = rw (z, add-zero) at l.invariant.1 in
    sym (take-append-drop a.at l.out) ∙ rw (t, d, length_octets) (sym (append_assoc (take a.at a.out.now) (octets a.w a.v) (drop (a.at + a.w) a.out.now)))
