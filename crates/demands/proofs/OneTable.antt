-- The starred bench examples: one computed test of the whole table, and from it each row. Assumes nothing.
use Prim.Native.Nat.{ℕ}
use mathlib.Core.Path.{◌≡◌, refl, ap, ◌∙◌}
use mathlib.Core.Bool.{true, false≢true}
use mathlib.Core.List.{List, [], ◌∷◌}
use lib.Dec.{eqb}
use borrow.Author.Tests.{eqb-true}
use Rattle.fields.specs.Numbers.{be, octets}
use Rattle.fields.proofs.Tests.{both}
use Rattle.checks.specs.Check.{divide, low_digits, bits_of, check}
use Rattle.clock.specs.Clock.{past, due_at, nearest, late}
use Rattle.clock.specs.Paper.{due_paper}
use Rattle.frame.specs.Counts.{some_of, sum_of, data_wrong, closing_wrong, lengths_wrong}
use Rattle.frame.specs.Payloads.{starts_v4, starts_v6, payload_kept}
use Rattle.frame.specs.Layout.{length_at, sum_lengths}
use Rattle.frame.specs.Paper.{read_paper}
use Rattle.frame.specs.Reading.{read_frame, read_headed, read_body}
use Rattle.frame.specs.Writing.{data_frame, closing_frame, lengths_frame, packed}
use Rattle.sender.specs.State.{damaged}
use Rattle.sender.specs.Calls.{open_call, data_call}
use Rattle.reception.specs.Adding.{packet_contradicts}
use Rattle.reception.specs.Damage.{place_wrong, places_wrong, closing_off, walk_fails, damaged_record}
use Rattle.reception.specs.Walk.{reach, fits, may_end, walk, is_explained}
use Rattle.reception.specs.Hearing.{lists_differ, other_key, hear_packet, hear_read, hear_frame, taken_paper}
use Rattle.reception.specs.Several.{answers_to}
use Rattle.demands.specs.Examples.{Row, table, alike, agree, EachRow, none, row}

alike_same : (xs ys : List ℕ) → alike xs ys ≡ true → xs ≡ ys
unfolding alike
alike_same [] [] e = refl
alike_same [] (y ∷ ys) e = absurd (false≢true e)
alike_same (x ∷ xs) [] e = absurd (false≢true e)
alike_same (x ∷ xs) (y ∷ ys) e =
    let p = both (eqb x y) (alike xs ys) e in
    ap (λ (a : ℕ). a ∷ xs) (eqb-true x y p.0) ∙ ap (λ (l : List ℕ). y ∷ l) (alike_same xs ys p.1)

-- the law: a test that passes is every row
pub each_row : (rs : List Row) → agree rs ≡ true → EachRow rs
unfolding agree
each_row [] e = none
each_row (r ∷ rs) e =
    let p = both (alike r.worked r.printed) (agree rs) e in
    row (alike_same r.worked r.printed p.0) (each_row rs p.1)

-- the test
table_agrees : agree table ≡ true
unfolding damaged open_call data_call some_of reach fits may_end walk is_explained packet_contradicts place_wrong places_wrong closing_off walk_fails damaged_record be octets divide low_digits bits_of check past due_at nearest late due_paper sum_of data_wrong closing_wrong lengths_wrong payload_kept starts_v4 starts_v6 length_at sum_lengths read_paper read_frame read_headed read_body data_frame closing_frame lengths_frame packed lists_differ other_key hear_packet hear_read hear_frame taken_paper answers_to alike agree
table_agrees = refl

-- all of the table
pub examples : EachRow table
examples = each_row table table_agrees
