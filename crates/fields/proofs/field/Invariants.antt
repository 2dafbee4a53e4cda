-- `fields::field` meets its contract: v is the number in the octets so far. Assumes nothing.
use Prim.Native.Nat.{◌<◌, ◌^◌}
use mathlib.Core.Path.{◌≡◌}
use Rattle.fields.specs.Numbers.{be}
use Rattle.fields.proofs.field.Given as goal

abbrev pub invariant-loop-x : goal.invariant-loop-x
invariant-loop-x l = (l.v ≡ be l.x-index l.s l.at) × (l.v < 256 ^ l.x-index)
