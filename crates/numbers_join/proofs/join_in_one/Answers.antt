-- `numbers_join::join_in_one` meets its contract. Assumes nothing.
use Rattle.numbers_join.proofs.JoinsKept.{named_fits, joined}
use Rattle.numbers_join.proofs.join_in_one.Goals as goal

pub in_one-requires : goal.in_one-requires
in_one-requires c = named_fits _ _ _ _ _ _ _ c.join-t.ensures c.keep.ensures.value

pub returns : goal.returns
returns c =
    let p = rw (c.head_of-h.ensures, c.head_of-g.ensures) at c.join-t.ensures in
    joined _ _ _ _ _ _ _ _ c.if-head-lt6.false c.if-r_head-lt6.false p _ _ _ c.in_one.ensures c.keep.ensures.value c.keep.ensures.head_after
