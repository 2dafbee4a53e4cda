-- `sender::sent` meets its contract. Assumes nothing.
use mathlib.Core.Path.{◌≡◌, sym, ap, ◌∙◌}
use mathlib.Core.Bool.{false, not}
use native.Mathlib.Omega.{arith}
use borrow.Author.Tests.{le-ltb, lt-leb}
use lib.ListN.{length}
use Prim.Native.Nat.{◌+◌, ◌≤◌, ◌<◌}
use Rattle.frame.specs.Answers.{Written}
use Rattle.frame.specs.Paper.{written_paper}
use Rattle.frame.specs.Writing.{after, data_frame}
use Rattle.sender.specs.State.{damaged, is_open}
use Rattle.sender.specs.Calls.{data_call}
use Rattle.sender.proofs.Answering.{written}
use Rattle.sender.proofs.Undamaged.{undamaged, few_octets}
use Rattle.sender.proofs.Written.{data_written}
use Rattle.sender.proofs.sent.Goals as goal

pub with_packet-sender-requires : goal.with_packet-sender-requires
with_packet-sender-requires c =
    let s = c.args.s in
    let u = undamaged s (sym c.is_damaged.ensures ∙ c.if-is_damaged.false) in
    let p = u.possible in
    (omega (arith, u.number), omega (arith, u.number, p.elapsed), omega (arith, u.packets), omega (arith, few_octets s u, u.packets), omega (arith, c.if-l-gt-MOST_PAYLOAD.false))

pub returns : goal.returns
unfolding data_call
returns c =
    let s = c.args.s in
    let g : damaged s ≡ false = sym c.is_damaged.ensures ∙ c.if-is_damaged.false in
    let o : not (is_open s.phase) ≡ false = ap not (sym c.is_open.ensures ∙ c.if-not-is_open.false) in
    let l = length c.args.payload.now in
    let out = c.args.out.now in
    let frame = data_frame s.stamp s.number.0 s.elapsed.0 c.args.payload.now in
    let few : s.number.0 < 65535 = c.if-s-ge-MOST_IN_SEQUENCE.false in
    let short : l ≤ 4095 = c.if-l-gt-MOST_PAYLOAD.false in
    let room : 11 + l ≤ length out = c.if-out-payload.false in
    let w = data_written s (undamaged s g) l (length out) few short room in
    let e = c.write_data-answer.ensures in
    written
    (simp (g, o, le-ltb _ _ short, lt-leb _ _ few, lt-leb _ _ c.if-s-ge-MOST_PERIOD_PACKETS.false, le-ltb _ _ room))
    (e.says ∙ ap written_paper w)
    c.with_packet-sender.ensures
    (e.leaves ∙ ap (λ (x : Written). after x frame out) w)
