-- The lists of demand 1 have only numbers of the table. Refusal 19, which document 02, request 9, took out of it: demand 1 allows no call to
-- answer it, and none of its lists has it. Assumes nothing.
use Prim.Native.Nat.{ℕ}
use mathlib.Core.Path.{◌≡◌, refl, ◌∙◌, ap}
use mathlib.Core.Bool.{Bool, true, false, cond, ◌&&◌}
use mathlib.Core.List.{List, [], ◌∷◌, ◌++◌}
use lib.Dec.{eqb}
use Rattle.units.specs.Refusals.{refusals}
use Rattle.fields.proofs.Choosing.{pick_same}
use Rattle.fields.proofs.Tests.{and_false}
use Rattle.demands.specs.Demand1.{among, carries, of_reading, of_lengths, of_writing_data, of_writing_closing, of_writing_lengths, of_opening, of_new_period, of_data, of_closing, of_closing_lengths, of_stamp, of_due, of_fresh, of_hearing, of_hearing_many, of_joining, of_report}

-- whatever the call's list: it carries 19 neither as a refusal nor with what it took
pub retired : (numbers : List ℕ) (found worked taken : ℕ) → carries numbers 19 found worked taken ≡ false
unfolding among
retired numbers found worked taken =
    let n : cond (eqb taken 0) (among numbers 19 && among refusals 19) false ≡ false =
    ap (λ (t : Bool). cond (eqb taken 0) t false) (and_false (among numbers 19)) ∙ pick_same (eqb taken 0) false
    in
    ap (λ (t : Bool). t && (eqb found 0 && eqb worked 0)) n

-- the numbers of all lists; that of a new call goes here too
abbrev every_list : List ℕ
every_list =
    of_reading ++ of_lengths ++ of_writing_data ++ of_writing_closing ++ of_writing_lengths ++ of_opening ++ of_new_period ++ of_data ++ of_closing ++ of_closing_lengths ++ of_stamp ++ of_due ++ of_fresh ++ of_hearing ++ of_hearing_many ++ of_joining ++ of_report

-- each of the first is one of the second
unfoldable pub all_among : List ℕ → List ℕ → Bool
all_among [] ms = true
all_among (n ∷ ns) ms = among ms n && all_among ns ms

-- no list has a number that the table does not have
pub tabled : all_among every_list refusals ≡ true
unfolding among all_among
tabled = refl

pub unlisted : among every_list 19 ≡ false
unfolding among
unlisted = refl
