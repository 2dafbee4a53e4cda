-- `passing::pass_items` meets its contract. Assumes nothing.
use Prim.Native.Nat.{◌+◌}
use mathlib.Core.Bool.{cond}
use Rattle.printout.specs.Stepping.{between_in, Placed, UnbegunKept}
use Rattle.passing.proofs.OneMore.{PassingWith}
use Rattle.passing.proofs.pass_items.Given as goal

abbrev pub invariant-loop-stops : goal.invariant-loop-stops
invariant-loop-stops l = record {
  passing : PassingWith Placed (between_in l.initial.going l.initial.marks l.initial.elapsed l.initial.sizes) l.input l.ended l.initial.marks l.initial.elapsed l.initial.sizes l.initial.text l.marks l.elapsed l.sizes l.text l.going l.left l.stops;
  unbegun : UnbegunKept (between_in l.initial.going l.initial.marks l.initial.elapsed l.initial.sizes) l.going l.marks l.elapsed l.sizes;
}

abbrev pub decreases-loop-stops : goal.decreases-loop-stops
decreases-loop-stops l =
    cond l.stops 0 (1 + l.left)
