-- `account::run`: the first turn starts where the program's text does, and each goes on where the one before ended.
use Rattle.std.proofs.Common.{refl, ◌∙◌, arith}
use Rattle.printout.proofs.StaysReady.{ready_placed}
use Rattle.account.proofs.Started.{started, starts}
use Rattle.account.proofs.WholeRun.{none_so_far, one_turn_more, all_told, front_told, written, did_write}
use Rattle.account.proofs.run.Goals as goal

pub loop-init : goal.loop-init
loop-init g c =
    let n = c.requires.0 in
    let z = c.clear.ensures in
    let m = rw n at z.0 in
    let e = rw n at z.1 in
    let s = rw n at z.2 in
    record {
      kept = record {
        turns = record { ready = started _ _ _ _ _ m e s; within = omega arith };
        marks_same = refl;
        elapsed_same = refl;
        sizes_same = refl;
        input_same = refl;
        out_same = refl;
      };
      so_far = none_so_far _ _ _ _ (starts _ _ _ m e s) refl;
    }

pub turn-t-requires : goal.turn-t-requires
turn-t-requires g c =
    let i = c.loop.invariant.kept.turns in
    record { ready = ready_placed _ _ _ _ i.ready; within = i.within }

pub loop-preserved : goal.loop-preserved
loop-preserved g c =
    let i = c.loop.invariant in
    let t = c.turn-t.ensures in
    let k = c.turn-t.auto in
    let w = c.write_all in
    let r = c.ran_by.ensures in
    record {
      kept = record {
        turns = record { ready = t.ready i.kept.turns.ready; within = t.turned.turns.within };
        marks_same = k.marks ∙ i.kept.marks_same;
        elapsed_same = k.elapsed ∙ i.kept.elapsed_same;
        sizes_same = k.sizes ∙ i.kept.sizes_same;
        input_same = k.input ∙ i.kept.input_same;
        out_same = k.out ∙ i.kept.out_same;
      };
      so_far = one_turn_more _ _ _ _ _ _ _ _ _ _ t.turned _ _ _ _ i.so_far (written w.result (did_write w.result _ c.in_ok-ran.ran c.in_ok-ran.was r.whole r.front) w.ensures.bytes) c.if-t.false;
    }

pub returns-then-t-clause-whole : goal.returns-then-t-clause-whole
returns-then-t-clause-whole g c =
    λ all.
    let m = c.ran_by.ensures.whole (c.in_ok-ran.was ∙ all) in
    all_told _ _ _ _ _ _ _ _ _ _ c.turn-t.ensures.turned _ _ _ _ c.loop.invariant.so_far (written c.write_all.result m.1 c.write_all.ensures.bytes) m.0

pub returns-then-t-clause-front : goal.returns-then-t-clause-front
returns-then-t-clause-front g c =
    λ f.
    let m = c.ran_by.ensures.front (c.in_ok-ran.was ∙ f) in
    front_told _ _ _ _ _ _
    (one_turn_more _ _ _ _ _ _ _ _ _ _ c.turn-t.ensures.turned _ _ _ _ c.loop.invariant.so_far (written c.write_all.result m.1 c.write_all.ensures.bytes) m.0)

pub returns-clause-front : goal.returns-clause-front
returns-clause-front g c = λ f. front_told _ _ _ _ _ _ c.loop.invariant.so_far
