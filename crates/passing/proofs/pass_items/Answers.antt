-- `passing::pass_items` meets its contract. Assumes nothing.
use mathlib.Core.Path.{sym, ◌∙◌}
use Rattle.fields.proofs.Laying.{to_end}
use Rattle.passing.proofs.OneMore.{goes_on_means, passing_start, passing_done, used_less, passing_on, passes_less, unbegun_start, unbegun_on}
use native.Mathlib.Omega.{arith}
use Rattle.passing.proofs.pass_items.Goals as goal

pub loop-stops-init : goal.loop-stops-init
loop-stops-init c = record { passing = passing_start _ _ _ _ _ _ _ c.requires; unbegun = unbegun_start _ _ _ _ }

pub step-w-requires : goal.step-w-requires
step-w-requires c =
    let i = c.loop-stops.invariant in
    let o = goes_on_means _ _ _ _ (sym c.goes_on.ensures ∙ c.loop-stops-test.true) in
    record { placed = i.passing.ready; most_text_in_bounds = omega (arith, o.1, c.room.ensures) }

pub overflow_sub-left : goal.overflow_sub-left
overflow_sub-left c =
    let i = c.loop-stops.invariant in
    let l = to_end _ c.args.input.now in
    used_less _ _ _ _ _ _ _ _ _ _ _ _ _ _ i.passing _ _ _ _ _ _ l c.step-w.ensures.steps

pub loop-stops-smaller : goal.loop-stops-smaller
loop-stops-smaller c =
    let i = c.loop-stops.invariant in
    let l = to_end _ c.args.input.now in
    passes_less _ _ _ _ _ _ _ _ _ _ _ _ _ _ i.passing _ _ _ _ _ _ l c.step-w.ensures.steps _ (sym c.goes_on.ensures ∙ c.loop-stops-test.true)

pub loop-stops-preserved : goal.loop-stops-preserved
loop-stops-preserved c =
    let i = c.loop-stops.invariant in
    let l = to_end _ c.args.input.now in
    let k = c.step-w.auto in
    record {
      passing = passing_on _ _ _ _ _ _ _ _ _ _ _ _ _ _ i.passing _ _ _ _ _ _ l c.step-w.ensures.steps _ (sym c.goes_on.ensures ∙ c.loop-stops-test.true) k.marks k.elapsed k.sizes;
      unbegun = unbegun_on _ _ _ _ _ _ _ _ _ _ _ _ i.unbegun c.step-w.ensures.steps;
    }

pub shape_of-marks : goal.shape_of-marks
shape_of-marks c = c.loop-stops.invariant.passing.marks_same

pub shape_of-elapsed : goal.shape_of-elapsed
shape_of-elapsed c = c.loop-stops.invariant.passing.elapsed_same

pub shape_of-sizes : goal.shape_of-sizes
shape_of-sizes c = c.loop-stops.invariant.passing.sizes_same

pub returns : goal.returns
returns c =
    let p = passing_done _ _ _ _ _ _ _ _ _ _ _ _ _ _ c.loop-stops.invariant.passing (rw c.room.ensures at (sym c.goes_on.ensures ∙ c.loop-stops-test.false)) in
    record { passed = p.0; unbegun = c.loop-stops.invariant.unbegun; stops_after = p.1 }
