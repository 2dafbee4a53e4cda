-- `printout::hear_frame` meets its contract. Assumes nothing.
use Rattle.std.proofs.Common.{refl, ◌≡◌, ap}
use Rattle.printout.specs.Stepping.{begun_of}
use Rattle.printout.proofs.StaysReady.{placed_lists}
use Rattle.printout.proofs.Stepped.{heard_step}
use Rattle.printout.proofs.hear_frame.Goals as goal

pub hear_next-t-requires : goal.hear_next-t-requires
hear_next-t-requires c =
    let y = c.requires.placed in
    let h = rw c.requires.begun at y.heard in
    record { cases = placed_lists _ _ _ _ y; none_before = h.before; none_from = h.from_end; sizes_value = h.undamaged }

pub returns : goal.returns
returns c =
    let y = c.requires.placed in
    let h = rw c.requires.begun at y.heard in
    let s : begun_of c.args.g.begun ≡ c.args.b = ap begun_of c.requires.begun in
    heard_step c.args.g _ _ _ _ _ _ _ _ _ _ _ _ y (rw (← s) at h.undamaged) (rw (← s) at c.hear_next-t.ensures) c.hear_next-t.auto.marks c.hear_next-t.auto.elapsed c.hear_next-t.auto.sizes refl refl c.put_answer.ensures
