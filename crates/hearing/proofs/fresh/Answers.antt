-- `hearing::fresh` meets its contract. Assumes nothing.
use mathlib.Core.Path.{refl, sym, ◌∙◌}
use lib.ListN.{length}
use Rattle.hearing.proofs.Answered.{refused_as}
use Rattle.reception.proofs.KeptAsHeld.{lists_matched}
use Rattle.hearing.proofs.Judged.{fresh_unmatched, fresh_high, fresh_taken, empty_as}
use Rattle.hearing.proofs.fresh.Goals as goal

pub returns-then-lists_differ : goal.returns-then-lists_differ
returns-then-lists_differ c =
    refused_as _ _ (fresh_unmatched _ _ _ _ _ _ (sym c.lists_differ.ensures ∙ c.if-lists_differ.true)) (c.refused.ensures ∙ rw c.open_head.ensures refl)

pub returns-then-stamp-gt-LAST_STAMP : goal.returns-then-stamp-gt-LAST_STAMP
returns-then-stamp-gt-LAST_STAMP c =
    refused_as _ _ (fresh_high _ _ _ _ _ _ (sym c.lists_differ.ensures ∙ c.if-lists_differ.false) c.if-stamp-gt-LAST_STAMP.true) (c.refused-then-stamp-gt-LAST_STAMP.ensures ∙ rw c.open_head-then-stamp-gt-LAST_STAMP.ensures refl)

pub clear-requires : goal.clear-requires
clear-requires c =
    lists_matched _ _ _ (sym c.lists_differ.ensures ∙ c.if-lists_differ.false)

pub returns : goal.returns
returns c =
    let z = c.clear.ensures in
    let a = c.args in
    empty_as _ _ _ (length a.marks.now) (fresh_taken _ _ _ _ _ _ (sym c.lists_differ.ensures ∙ c.if-lists_differ.false) c.if-stamp-gt-LAST_STAMP.false) (rw c.open_head-2.ensures refl) z.0 z.1 z.2
