-- `account::turn` meets its contract. Assumes nothing.
use Rattle.std.proofs.Common.{refl, sym, rules}
use Rattle.account.proofs.OneTurn.{turn_done}
use Rattle.account.proofs.turn.Goals as goal

pub returns : goal.returns
returns g c =
    let f = c.read_on-fed.ensures in
    let w = c.pass-w.ensures in
    let p = w.passed in
    let same = sym p.adds.same in
    record {
      turned = turn_done _ _ _ _ _ f.read_on _ c.is_over.ensures _ _ _ _ _ _ p refl _ c.move_down.auto.input c.move_down.ensures _ (search (rules, same)) _ _ f.bytes f.end;
      unbegun = w.unbegun;
      ready = w.ready;
    }
