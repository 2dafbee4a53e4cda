-- `items::read_key` meets its contract. Assumes nothing.
use native.Mathlib.Omega.{arith}
use mathlib.Core.Path.{sym, ◌∙◌}
use Rattle.items.proofs.Cases.{read_as, key_as, other_length, key_cut, late_stamp, key}
use Rattle.items.proofs.read_key.Goals as goal

pub returns-then-n-ne10 : goal.returns-then-n-ne10
returns-then-n-ne10 c =
    let p = c.requires in
    read_as (other_length p.0 p.1 (λ e. c.if-n-ne10.true (p.2 ∙ e)))

pub returns-then-s-lt14 : goal.returns-then-s-lt14
returns-then-s-lt14 c =
    let p = c.requires in
    read_as (key_cut p.0 p.1 (sym p.2 ∙ c.if-n-ne10.false) c.if-s-lt14.true)

pub returns-then-stamp-gt-LAST_STAMP : goal.returns-then-stamp-gt-LAST_STAMP
returns-then-stamp-gt-LAST_STAMP c =
    let p = c.requires in
    let t = c.two-stamp.ensures in
    read_as (late_stamp p.1 (sym p.2 ∙ c.if-n-ne10.false) c.if-s-lt14.false (omega arith))

pub returns : goal.returns
returns c =
    let p = c.requires in
    let t = c.two-stamp.ensures in
    key_as c.four.ensures c.four-2.ensures t.0 (key p.1 (sym p.2 ∙ c.if-n-ne10.false) c.if-s-lt14.false (omega arith))
