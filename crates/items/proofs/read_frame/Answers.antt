-- `items::read_frame` meets its contract. Assumes nothing.
use native.Mathlib.Omega.{arith}
use Rattle.items.proofs.Cases.{read_as, frame_as, too_long, frame_cut, frame}
use Rattle.items.proofs.read_frame.Goals as goal

pub returns-then-n-gt-MOST_BODY : goal.returns-then-n-gt-MOST_BODY
returns-then-n-gt-MOST_BODY c =
    let p = c.requires in
    read_as (too_long p.0 p.1 (omega arith))

pub returns-then-s-body : goal.returns-then-s-body
returns-then-s-body c =
    let p = c.requires in
    read_as (frame_cut p.0 p.1 (omega arith) (omega arith))

pub returns : goal.returns
returns c =
    let p = c.requires in
    frame_as p.2 (frame p.1 (omega arith) (omega arith))
