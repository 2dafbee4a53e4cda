-- `damage::judging::walk` meets its contract. Assumes nothing.
use mathlib.Core.Path.{sym, ap, ◌∙◌}
use mathlib.Core.Bool.{not}
use Rattle.damage.proofs.Walking.{start, misfit, heard, wrong, unheard, left_over}
use Rattle.damage.proofs.JudgedCounted.{ended_start, ended_heard, ended_unheard, judged_off, judged_fit, ended_all}
use Rattle.damage.proofs.judging.walk.Goals as goal
use Rattle.damage.proofs.judging.walk.Goals.{then-marks-k-eq1+else-not-is_fit, else-marks-k-eq1+else-place_wrong}

pub loop-k-init : goal.loop-k-init
loop-k-init c = (start _, ended_start _ _ _)

pub returns-then-not-is_fit : goal.returns-then-not-is_fit
returns-then-not-is_fit c =
    judged_off _ _ _
    (misfit _ _ _ _ c.loop-k.invariant.0 c.loop-k-test.true c.if-marks-k-eq1.true _ _ c.from-e.ensures c.from-l.ensures _ c.is_fit.ensures c.if-not-is_fit.true)

pub returns-then-place_wrong : goal.returns-then-place_wrong
returns-then-place_wrong c =
    judged_off _ _ _ (wrong _ _ _ _ c.loop-k.invariant.0 c.loop-k-test.true _ c.place_wrong.ensures c.if-place_wrong.true)

pub loop-k-preserved : goal.loop-k-preserved
loop-k-preserved c =
    let g = c.loop-k.invariant in
    let lt = c.loop-k-test.true in
    elim c.if-marks-k-eq1.branch [
      | then-marks-k-eq1+else-not-is_fit w ↦ rw (w.i-is, w.a-is, w.gaps-is) (
        heard _ _ _ _ g.0 lt w.if-marks-k-eq1.true _ _ w.from-e.ensures w.from-l.ensures _ w.is_fit.ensures w.if-not-is_fit.false,
        ended_heard _ _ _ _ _ _ _ g.1 w.if-marks-k-eq1.true _ _ _ w.from-e.ensures w.from-l.ensures w.gap_between-gaps.ensures,
      )
      | else-marks-k-eq1+else-place_wrong w ↦
          rw (w.i-is, w.a-is, w.gaps-is) (unheard _ _ _ _ g.0 lt _ w.place_wrong.ensures w.if-marks-k-eq1.false w.if-place_wrong.false, ended_unheard _ _ _ _ _ _ _ g.1 w.if-marks-k-eq1.false)
    ]

pub returns-then-not-may_end : goal.returns-then-not-may_end
returns-then-not-may_end c =
    judged_off _ _ _
    (ap not (sym c.if-not-may_end.true) ∙ left_over _ _ _ _ c.loop-k.invariant.0 c.loop-k-test.false _ c.may_end.ensures)

pub returns : goal.returns
returns c =
    let g = c.loop-k.invariant in
    let le = c.loop-k-test.false in
    judged_fit _ _ _ _ (ap not (sym c.if-not-may_end.false) ∙ left_over _ _ _ _ g.0 le _ c.may_end.ensures)
    (ended_all _ _ _ _ _ _ _ le g.0.here g.1)
