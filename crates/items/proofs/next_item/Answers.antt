-- `items::next_item` meets its contract. Assumes nothing.
use mathlib.Core.Path.{◌∙◌}
use native.Mathlib.Omega.{arith}
use Rattle.items.proofs.Cases.{read_as, no_head_fact, other_kind}
use Rattle.items.proofs.next_item.Goals as goal

pub returns-then-input-lt4 : goal.returns-then-input-lt4
returns-then-input-lt4 c = read_as (no_head_fact c.if-input-lt4.true)

pub returns-in_default : goal.returns-in_default
returns-in_default c =
    let k = c.two-kind.ensures.0 in
    let n = c.in_default in
    read_as (other_kind c.if-input-lt4.false (λ q. let e = k ∙ q in absurd (omega arith)) (λ q. let e = k ∙ q in absurd (omega arith)))
