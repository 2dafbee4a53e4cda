-- `sender::closed` meets its contract. Assumes nothing.
use mathlib.Core.Path.{◌≡◌, sym, ap, ◌∙◌}
use mathlib.Core.Bool.{false, not}
use borrow.Author.Tests.{le-ltb}
use lib.ListN.{length}
use Prim.Native.Nat.{◌≤◌}
use Rattle.frame.specs.Answers.{Written}
use Rattle.frame.specs.Paper.{written_paper}
use Rattle.frame.specs.Writing.{after, closing_frame}
use Rattle.sender.specs.State.{damaged, is_open, closing_by}
use Rattle.sender.specs.Calls.{close_call}
use Rattle.sender.proofs.Answering.{written}
use Rattle.sender.proofs.Undamaged.{undamaged}
use Rattle.sender.proofs.Written.{closing_written}
use Rattle.sender.proofs.closed.Goals as goal

pub returns : goal.returns
unfolding close_call
returns c =
    let s = c.args.s in
    let g : damaged s ≡ false = sym c.is_damaged.ensures ∙ c.if-is_damaged.false in
    let o : not (is_open s.phase) ≡ false = ap not (sym c.is_open.ensures ∙ c.if-not-is_open.false) in
    let out = c.args.out.now in
    let h : 18 ≤ length out = c.if-out-lt-CLOSING_SIZE.false in
    let w = closing_written s (undamaged s g) (length out) h in
    let e = rw c.closing.ensures at c.write_closing-answer.ensures in
    written
    (simp (g, o, le-ltb _ _ h))
    (e.says ∙ ap written_paper w)
    c.at_rest-sender.ensures
    (e.leaves ∙ ap (λ (x : Written). after x (closing_frame (closing_by s)) out) w)
