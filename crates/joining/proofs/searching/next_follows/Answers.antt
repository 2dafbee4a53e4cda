-- `joining::searching::next_follows` meets its contract. Assumes nothing.
use Rattle.joining.proofs.BesideFound.{by_packet, by_closing}
use Rattle.joining.proofs.searching.next_follows.Goals as goal

pub returns-then-next-r : goal.returns-then-next-r
returns-then-next-r c =
    let r = c.args.r.now in
    by_packet r.head r.marks.now r.elapsed.now r.sizes.now _ _ _ _ c.requires c.if-next-r.true _ _ c.from.ensures c.from-then-next-r.ensures _ c.is_fit.ensures

pub returns : goal.returns
returns c =
    let r = c.args.r.now in
    by_closing r.head r.marks.now r.elapsed.now r.sizes.now _ _ _ _ c.requires c.if-next-r.false _ c.may_end.ensures
