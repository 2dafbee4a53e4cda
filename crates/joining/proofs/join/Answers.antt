-- `joining::join` meets its contract. Assumes nothing.
use mathlib.Core.Path.{sym, ◌∙◌}
use Rattle.reception.specs.Hearing.{kept_in}
use Rattle.joining.proofs.Answered.{refused_as}
use Rattle.joining.proofs.Judged.{join_unmatched, right_matched}
use Rattle.joining.proofs.join.Goals as goal

pub returns-then-capacities_off : goal.returns-then-capacities_off
returns-then-capacities_off c =
    let a = c.args in
    refused_as _ _
    (join_unmatched _ (kept_in a.g a.other_marks.now a.other_elapsed.now a.other_sizes.now) (sym c.capacities_off.ensures ∙ c.if-capacities_off.true)) c.refused.ensures

pub join_matched-requires : goal.join_matched-requires
join_matched-requires c = sym c.capacities_off.ensures ∙ c.if-capacities_off.false

pub invariant_of-right : goal.invariant_of-right
invariant_of-right c =
    let a = c.args in
    record {
      matched = right_matched (kept_in a.h a.marks.now a.elapsed.now a.sizes.now) (kept_in a.g a.other_marks.now a.other_elapsed.now a.other_sizes.now)
          (sym c.capacities_off.ensures ∙ c.if-capacities_off.false);
    }
