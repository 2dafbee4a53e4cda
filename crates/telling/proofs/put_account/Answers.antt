-- `telling::put_account` meets its contract. Assumes nothing.
use native.Mathlib.Omega.{arith}
use Rattle.lines.proofs.Added.{adds_in}
use Rattle.telling.proofs.AccountMade.{sent_fits, sent_is, adds_account}
use Rattle.telling.proofs.put_account.Goals as goal

pub put_gaps-requires-clause-n_in_bounds : goal.put_gaps-requires-clause-n_in_bounds
put_gaps-requires-clause-n_in_bounds c =
    let p = c.requires in
    let n = sent_is _ _ c.count-figures.ensures in
    let f = sent_fits c.args.r.now.head _ _ _ c.args.r.now.matched p.undamaged in
    omega (arith, n, f)

pub put_close-requires : goal.put_close-requires
put_close-requires c =
    let p = c.requires in
    let n = sent_is _ _ c.count-figures.ensures in
    let f = sent_fits c.args.r.now.head _ _ _ c.args.r.now.matched p.undamaged in
    omega (arith, n, f)

pub returns : goal.returns
returns c =
    let p = c.requires in
    let n = sent_is _ _ c.count-figures.ensures in
    let f = sent_fits c.args.r.now.head _ _ _ c.args.r.now.matched p.undamaged in
    adds_in _ (omega (arith, n, f))
    (adds_account c.args.r.now.head _ _ _ _ c.count-figures.ensures c.put_sequence.ensures c.put_figures.ensures c.put_gaps.ensures c.put_close.ensures)
