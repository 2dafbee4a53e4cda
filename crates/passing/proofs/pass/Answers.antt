-- `passing::pass` meets its contract. Assumes nothing.
use mathlib.Core.Path.{refl}
use native.Mathlib.Omega.{arith}
use Rattle.printout.proofs.StaysReady.{still_ready}
use Rattle.passing.proofs.LastAccount.{over_waits, room_waits, read_waits, last_told}
use Rattle.passing.proofs.pass.Goals as goal
use Rattle.passing.proofs.pass.Goals.{then-w-via-then-w, then-w-via-else-w+then-more_may_come, then-w-via-else-w+else-more_may_come+then-room-lt-MOST_TEXT}

pub returns-then-w-clause-waits : goal.returns-then-w-clause-waits
returns-then-w-clause-waits c =
    elim c.then-w.branch [
      | then-w-via-then-w w ↦ over_waits _ _ _ _ w.if-w.true
      | then-w-via-else-w+then-more_may_come w ↦ read_waits _ _ _ _ w.if-w.false w.if-more_may_come.true c.pass_items-w.ensures.stops_after
      | then-w-via-else-w+else-more_may_come+then-room-lt-MOST_TEXT w ↦ room_waits _ _ _ _ (omega (arith, w.room.ensures, w.if-room-lt-MOST_TEXT.true))
    ]

pub returns-then-w-clause-ready : goal.returns-then-w-clause-ready
returns-then-w-clause-ready c = let w = c.pass_items-w.ensures in still_ready _ _ _ _ _ _ _ _ w.unbegun w.passed.ready

pub returns : goal.returns
returns c =
    let w = c.pass_items-w.ensures in
    record {
      passed = last_told _ _ _ _ _ _ _ _ _ _ w.passed c.if-w.false c.if-more_may_come.false (omega arith) w.stops_after c.account_before.ensures;
      unbegun = w.unbegun;
      ready = still_ready _ _ _ _ _ _ _ _ w.unbegun w.passed.ready;
      waits = over_waits _ _ _ _ refl;
    }
