-- `reporting::writing::put` meets its contract. Assumes nothing.
use Rattle.reporting.proofs.GapPut.{put_none, room_one, put_one}
use native.Mathlib.Omega.{arith}
use Rattle.reporting.proofs.writing.put.Goals as goal

pub returns-then-i-k : goal.returns-then-i-k
returns-then-i-k c =
    let p = c.requires in
    let t = c.if-i-k.true in
    record { puts = put_none _ _ _ _ _ _ _ _ t; packets_le_k = (omega (arith, p.packets_le_i.0, t), omega (arith, p.packets_le_i.1, p.i_le_k.1)) }

pub bounds-firsts-w : goal.bounds-firsts-w
bounds-firsts-w c = (room_one c.args.t _ _ _ _ _ _ _ c.if-i-k.false c.requires.room).0

pub bounds-counts-w : goal.bounds-counts-w
bounds-counts-w c = (room_one c.args.t _ _ _ _ _ _ _ c.if-i-k.false c.requires.room).1

pub bounds-octets-w : goal.bounds-octets-w
bounds-octets-w c = (room_one c.args.t _ _ _ _ _ _ _ c.if-i-k.false c.requires.room).2

pub overflow_add-result : goal.overflow_add-result
overflow_add-result c = let x = room_one c.args.t _ _ _ _ _ _ _ c.if-i-k.false c.requires.room in omega (arith, x.0)

pub returns : goal.returns
returns c =
    let p = c.requires in
    record { puts = put_one _ _ _ _ _ _ _ _ c.if-i-k.false p.room; packets_le_k = (omega (arith, p.packets_le_i.0, p.i_le_k.0), omega (arith, p.packets_le_i.1, p.i_le_k.1)) }
