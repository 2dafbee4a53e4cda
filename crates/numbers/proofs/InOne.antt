-- That what a frame counts is few enough for one number. Assumes nothing.
use Prim.Native.Nat.{ℕ, ◌+◌, ◌≤◌}
use mathlib.Core.Path.{◌≡◌, sym, subst}
use mathlib.Core.Bool.{false, not, ◌||◌}
use mathlib.Core.List.{List}
use native.Mathlib.Omega.{arith}
use lib.ListN.{length}
use lib.Dec.{eqb}
use borrow.Author.Tests.{eqb-true, not-false}
use Rattle.fields.proofs.Tests.{or_false}
use Rattle.frame.specs.Answers.{Written}
use Rattle.frame.specs.Counts.{any_above, sum_of, list_wrong}
use Rattle.frame.specs.Layout.{filled}
use Rattle.frame.specs.Paper.{CountPaper, written_paper}
use Rattle.numbers.specs.Answers.{most_counted}

abbrev pub Few : Written → Type 0
Few w = (written_paper w).count ≤ most_counted

-- an answer with the same paper has as few, whatever the limit
pub as_few : {most : ℕ} (a r : Written) → written_paper r ≡ written_paper a → (written_paper a).count ≤ most → (written_paper r).count ≤ most
as_few {most} a r e h = subst (λ (p : CountPaper). p.count ≤ most) (sym e) h

-- as many lengths as Packet Number can say
pub lengths_few : (ls : List ℕ) (n e : ℕ) → list_wrong ls n e ≡ false → n ≤ 65535 → 19 + filled (length ls) ≤ most_counted
unfolding list_wrong
lengths_few ls n e w h =
    let p = (or_false (not (eqb (length ls) n)) (any_above ls || not (eqb (sum_of ls) e)) w).0 in
    let q = eqb-true (length ls) n (not-false (eqb (length ls) n) p) in
    omega (arith, q, h)
