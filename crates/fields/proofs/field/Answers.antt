-- `fields::field` meets its contract: v is the number in the octets so far. Assumes nothing.
use mathlib.Core.Path.{◌≡◌, ◌∙◌}
use Prim.Native.Nat.{◌+◌, ◌<◌}
use native.Mathlib.Omega.{arith}
use native.Mathlib.Numerals.{add-one}
use lib.ListN.{get_or}
use Rattle.std.proofs.lemmas.List.Edits.{get_or-between}
use Rattle.fields.specs.Numbers.{be}
use Rattle.fields.proofs.ReadAgain.{octet_behind}
use Rattle.fields.proofs.field.Goals as goal

pub loop-x-preserved : goal.loop-x-preserved
unfolding be
loop-x-preserved c =
    let a = c.args in
    let l = c.loop-x in
    let e : c.from.result ≡ get_or a.s.now (a.at + l.x-index) 0 = c.from.ensures ∙ get_or-between a.s.now a.at (a.at + a.w) l.x-index 0 (omega arith) in
    let o : c.from.result < 256 = omega (arith, e, (c.type_inv.s (a.at + l.x-index)).fits) in
    (rw (add-one, e, l.invariant.0), rw add-one (octet_behind l.x-index l.v c.from.result l.invariant.1 o))
