-- `damage::judging::judge` meets its contract. Assumes nothing.
use mathlib.Core.Path.{◌∙◌, sym}
use borrow.Author.Tests.{lt-ltb, le-ltb}
use Rattle.reception.specs.Damage.{damaged_record}
use Rattle.damage.proofs.JudgedCounted.{judged_off, same_judged}
use Rattle.damage.proofs.judging.judge.Goals as goal
use Rattle.damage.proofs.judging.judge.Goals.{then-r-gt-LAST_STAMP-via-then-r-gt-LAST_STAMP, then-r-gt-LAST_STAMP-via-else-r-gt-LAST_STAMP+then-closing_off}

pub returns-then-r-gt-LAST_STAMP : goal.returns-then-r-gt-LAST_STAMP
unfolding damaged_record
returns-then-r-gt-LAST_STAMP c =
    elim c.then-r-gt-LAST_STAMP.branch [
      | then-r-gt-LAST_STAMP-via-then-r-gt-LAST_STAMP w ↦ judged_off _ _ _ (simp (lt-ltb _ _ w.if-r-gt-LAST_STAMP.true))
      | then-r-gt-LAST_STAMP-via-else-r-gt-LAST_STAMP+then-closing_off w ↦
          judged_off _ _ _ (simp (le-ltb _ _ w.if-r-gt-LAST_STAMP.false, sym w.closing_off.ensures ∙ w.if-closing_off.true))
    ]

pub returns : goal.returns
unfolding damaged_record
returns c =
    same_judged (simp (le-ltb _ _ c.if-r-gt-LAST_STAMP.false, sym c.closing_off.ensures ∙ c.if-closing_off.false)) c.walk.ensures
