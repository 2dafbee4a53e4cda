-- `printout::step` meets its contract. Assumes nothing.
use Rattle.std.proofs.Common.{◌≡◌, ◌+◌, ◌-◌, length, take, drop, sym, ap, ◌∙◌, arith, rules}
use Rattle.std.specs.Prelude.{is_some}
use Rattle.items.proofs.Enough.{frame_there, key_there}
use Rattle.printout.specs.Stepping.{between_in}
use Rattle.printout.proofs.StaysReady.{steps_placed}
use Rattle.printout.proofs.Stepped.{steps_key, steps_frame, steps_early, steps_none, bad_stepped, body_is, body_long, steps_body}
use Rattle.printout.proofs.step.Goals as goal

pub begin-requires : goal.begin-requires
begin-requires c =
    let p = c.requires in
    let k = key_there _ _ (rw c.in-Ok-Begins.field-0-is at (sym c.next_item.ensures ∙ c.in-Ok-Begins.is)) in
    record { placed = p.placed; stamp_bound = k.1; most_text_in_bounds = p.most_text_in_bounds }

pub overflow_add-body : goal.overflow_add-body
overflow_add-body c =
    let n = frame_there _ _ (rw c.in-Ok-Frame.field-0-is at (sym c.next_item.ensures ∙ c.in-Ok-Frame.is)) in
    record { fits = omega (arith, n.0) }

pub slice_bounds-body-end : goal.slice_bounds-body-end
slice_bounds-body-end c =
    let n = frame_there _ _ (rw c.in-Ok-Frame.field-0-is at (sym c.next_item.ensures ∙ c.in-Ok-Frame.is)) in
    search (rules, n.1)

pub hear_frame-requires : goal.hear_frame-requires
hear_frame-requires c =
    let n = frame_there _ _ (rw c.in-Ok-Frame.field-0-is at (sym c.next_item.ensures ∙ c.in-Ok-Frame.is)) in
    let p = c.requires in
    let s = c.args.input.now in
    let l : length (take (4 + c.in-Ok-Frame.n - 4) (drop 4 s)) ≡ c.in-Ok-Frame.n = ap length (body_is c.in-Ok-Frame.n s) ∙ body_long c.in-Ok-Frame.n s n.1 in
    record { placed = p.placed; most_text_in_bounds = (p.most_text_in_bounds, omega (arith, l, n.0)); begun = c.in-Some.is }

pub returns-in-Some : goal.returns-in-Some
returns-in-Some c =
    let e = rw c.in-Ok-Frame.field-0-is at (sym c.next_item.ensures ∙ c.in-Ok-Frame.is) in
    let a = c.args in
    let b = between_in a.g a.marks.now a.elapsed.now a.sizes.now in
    let s = steps_frame b _ _ e (ap is_some c.in-Some.is) (steps_body b c.in-Ok-Frame.n _ a.input.now (body_is c.in-Ok-Frame.n a.input.now) (frame_there _ _ e).1 (rw c.in-Ok-Frame.field-0-is at c.hear_frame.ensures)) in
    record { steps = steps_placed s; ready = λ _. s.ready }

pub returns-in-Ok-Begins : goal.returns-in-Ok-Begins
returns-in-Ok-Begins c =
    let s = steps_key _ _ _ (rw c.in-Ok-Begins.field-0-is at (sym c.next_item.ensures ∙ c.in-Ok-Begins.is)) c.begin.ensures in
    record { steps = steps_placed s; ready = λ _. s.ready }

pub returns-in_default : goal.returns-in_default
returns-in_default c =
    let y = c.requires.placed in
    let p = c.bad.ensures in
    record {
      steps = steps_early _ _ _ (rw c.in-Ok-Frame.field-0-is at (sym c.next_item.ensures ∙ c.in-Ok-Frame.is)) (ap is_some c.in_default.is) (bad_stepped _ _ _ _ _ _ _ y p.0 p.1 p.2 p.3);
      ready = λ was. rw p.1 was;
    }

pub returns-in-Err : goal.returns-in-Err
returns-in-Err c =
    let y = c.requires.placed in
    let p = c.bad-in-Err.ensures in
    record {
      steps = steps_none _ _ _ (sym c.next_item.ensures ∙ c.in-Err.is) (bad_stepped _ _ _ _ _ _ _ y p.0 p.1 p.2 p.3);
      ready = λ was. rw p.1 was;
    }
