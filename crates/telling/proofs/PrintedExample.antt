-- The account that document 01 prints, of a record that heard only the closing of frame C, and other lines, in every capacity.
-- Assumes nothing.
use Prim.Native.Nat.{ℕ, zero, suc, ◌≤◌, ◌<◌}
use mathlib.Core.Path.{◌≡◌, refl, ap, ◌∙◌}
use mathlib.Core.Bool.{false}
use mathlib.Core.List.{List, [], ◌∷◌, ◌++◌}
use native.Mathlib.Omega.{arith}
use lib.Dec.{ltb}
use lib.ListN.{length, get_or, length-replicate}
use borrow.Author.Tests.{le-ltb}
use Rattle.units.specs.Limits.{most_payload, most_capacity}
use Rattle.units.specs.Refusals.{header_refusal, payload_refusal}
use Rattle.frame.specs.Counts.{sum_of}
use Rattle.frame.proofs.BenchExamples.{C, C_read}
use Rattle.lines.specs.Text.{digits_within, decimal, field, fields_of, line}
use Rattle.reception.specs.declared.Head.{Head}
use Rattle.reception.specs.declared.Report.{Report}
use Rattle.reception.specs.Sendings.{Held, Heard, Sending}
use Rattle.reception.specs.Adding.{empty_record, with_closing, closed_head, closing_contradicts}
use Rattle.reception.specs.Hearing.{Outcome, held_by, open_head, empty_kept, keep_closing, takes, unmatched, damaged_kept, other_key, hear_closing, hear_read, hear_frame}
use Rattle.reception.specs.Reporting.{Gap, gaps_from, gaps_of, heard_to, heard_octets_to}
use Rattle.reception.proofs.GapsAreUnheard.{Clear, heard_none}
use Rattle.reception.proofs.GapOctets.{unchanged, octets_none}
use Rattle.reception.proofs.KeptAsHeld.{held_empty, empty_matched, matched_lists}
use Rattle.reception.proofs.ContradictsExactly.{agreeing_closing}
use Rattle.reception.proofs.AnyOrder.{explains_empty}
use Rattle.reception.proofs.DamagedExactly.{undamaged_passed}
use Rattle.reception.proofs.StaysUndamaged.{empty_undamaged}
use Rattle.reception.proofs.SmallReports.{nothing_no_gaps, empty_zeros}
use Rattle.telling.specs.Account.{sequence_line, gap_lines, figure_lines, account_text, refused_line, bad_line, end_word}
use Rattle.telling.specs.Parts.{figures_of}
use Rattle.units.specs.declared.refusals.Refusal.TheVariants.{CountsImpossible}

-- "sequence 7 3 0 closed", "sent 1 1", "heard 0 0", "missing 1 1", "gap 0 1 1", "end"
abbrev pub printed : List ℕ
printed =
    115 ∷ 101 ∷ 113 ∷ 117 ∷ 101 ∷ 110 ∷ 99 ∷ 101 ∷ 32 ∷ 55 ∷ 32 ∷ 51 ∷ 32 ∷ 48 ∷ 32 ∷ 99 ∷ 108 ∷ 111 ∷ 115 ∷ 101 ∷ 100 ∷ 10
    ∷ 115 ∷ 101 ∷ 110 ∷ 116 ∷ 32 ∷ 49 ∷ 32 ∷ 49 ∷ 10
    ∷ 104 ∷ 101 ∷ 97 ∷ 114 ∷ 100 ∷ 32 ∷ 48 ∷ 32 ∷ 48 ∷ 10
    ∷ 109 ∷ 105 ∷ 115 ∷ 115 ∷ 105 ∷ 110 ∷ 103 ∷ 32 ∷ 49 ∷ 32 ∷ 49 ∷ 10
    ∷ 103 ∷ 97 ∷ 112 ∷ 32 ∷ 48 ∷ 32 ∷ 49 ∷ 32 ∷ 49 ∷ 10
    ∷ 101 ∷ 110 ∷ 100 ∷ 10
    ∷ []

-- what it holds
abbrev closed_one : ℕ → Held
closed_one c = with_closing (empty_record c) 1 1

none_heard : (c : ℕ) → Clear (closed_one c) 0 c
none_heard c = record { order = omega arith; none = λ j _ _. refl }

no_packets : (c : ℕ) → heard_to (closed_one c) c ≡ 0
unfolding heard_to
no_packets c = unchanged (closed_one c) (heard_to (closed_one c)) (heard_none (closed_one c)) 0 c (none_heard c)

no_octets : (c : ℕ) → heard_octets_to (closed_one c) c ≡ 0
unfolding heard_octets_to
no_octets c = unchanged (closed_one c) (heard_octets_to (closed_one c)) (octets_none (closed_one c)) 0 c (none_heard c)

-- the account of a head and of what is held
text_of : Head → Held → List ℕ
text_of h r = sequence_line h ++ figure_lines r ++ gap_lines (gaps_of r) ++ line end_word []

-- the figures, with what was heard as a number
text_is : (c : ℕ) → text_of (closed_head (open_head 7 3 0) 1 1) (closed_one c) ≡ printed
unfolding text_of sequence_line gap_lines gaps_from digits_within decimal field fields_of line heard_to heard_octets_to
text_is c = rw (no_packets c, no_octets c) refl

-- what was kept of it prints so
pub account_printed : (c : ℕ) → account_text (keep_closing (empty_kept 7 3 0 c) 1 1) ≡ printed
unfolding account_text text_of
account_printed c = ap (λ (r : Held). text_of (closed_head (open_head 7 3 0) 1 1) (with_closing r 1 1)) (held_empty 7 3 0 c) ∙ text_is c

-- one packet of one octet
one_sending : Sending (1 ∷ [])
one_sending = record { few = omega arith; short = short }
  where
    short : (k : ℕ) → k < length {A = ℕ} (1 ∷ []) → get_or (1 ∷ []) k 0 ≤ most_payload
    short zero lt = omega arith
    short (suc k) lt = omega arith

-- an empty record with a place hears frame C
module _ (c : ℕ) (room : 1 ≤ c) (fits : c ≤ most_capacity) where
  lists_match : unmatched (empty_kept 7 3 0 c) ≡ false
  lists_match = matched_lists _ _ _ (empty_matched 7 3 0 c fits)

  not_damaged : damaged_kept (empty_kept 7 3 0 c) ≡ false
  not_damaged = undamaged_passed 0 (held_by (empty_kept 7 3 0 c)) (rw (held_empty 7 3 0 c) (empty_undamaged 0 c (omega arith)))

  within : ltb (length (empty_kept 7 3 0 c).marks) 1 ≡ false
  within = le-ltb (length (empty_kept 7 3 0 c).marks) 1 (rw (length-replicate {A = ℕ} c 0) room)

  agrees : closing_contradicts (held_by (empty_kept 7 3 0 c)) 1 1 ≡ false
  unfolding sum_of
  agrees = rw (held_empty 7 3 0 c) (agreeing_closing (empty_record c) 1 1 (1 ∷ []) (explains_empty c _ one_sending) (record { count_is = refl; total_is = refl }))

  pub C_heard : hear_frame (empty_kept 7 3 0 c) 7 3 C ≡ takes (keep_closing (empty_kept 7 3 0 c) 1 1)
  unfolding hear_frame hear_read hear_closing other_key
  C_heard = rw (lists_match, C_read, not_damaged, within, agrees) refl

  -- key 7 3 0 and then frame C print exactly that
  pub example_printed : account_text (hear_frame (empty_kept 7 3 0 c) 7 3 C).kept ≡ printed
  example_printed = ap (λ (o : Outcome). account_text o.kept) C_heard ∙ account_printed c

-- a record in which nothing was heard: "sequence 7 3 0 open", "sent 0 0", "heard 0 0", "missing 0 0", "end"
pub fresh_printed : (c : ℕ) → account_text (empty_kept 7 3 0 c)
    ≡ 115 ∷ 101 ∷ 113 ∷ 117 ∷ 101 ∷ 110 ∷ 99 ∷ 101 ∷ 32 ∷ 55 ∷ 32 ∷ 51 ∷ 32 ∷ 48 ∷ 32 ∷ 111 ∷ 112 ∷ 101 ∷ 110 ∷ 10
    ∷ 115 ∷ 101 ∷ 110 ∷ 116 ∷ 32 ∷ 48 ∷ 32 ∷ 48 ∷ 10
    ∷ 104 ∷ 101 ∷ 97 ∷ 114 ∷ 100 ∷ 32 ∷ 48 ∷ 32 ∷ 48 ∷ 10
    ∷ 109 ∷ 105 ∷ 115 ∷ 115 ∷ 105 ∷ 110 ∷ 103 ∷ 32 ∷ 48 ∷ 32 ∷ 48 ∷ 10
    ∷ 101 ∷ 110 ∷ 100 ∷ 10
    ∷ []
unfolding account_text text_of sequence_line gap_lines figures_of digits_within decimal field fields_of line
fresh_printed c =
    ap (text_of (open_head 7 3 0)) (held_empty 7 3 0 c)
    ∙ ap (λ (gs : List Gap). sequence_line (open_head 7 3 0) ++ figure_lines (empty_record c) ++ gap_lines gs ++ line end_word []) (nothing_no_gaps (empty_record c) refl (nothing_heard c))
    ∙ ap (λ (t : Report). sequence_line (open_head 7 3 0) ++ figures_of t ++ gap_lines [] ++ line end_word []) (empty_zeros c)
  where
    nothing_heard : (c k : ℕ) → Heard (empty_record c) k → ⊥
    nothing_heard c k h = let z : ◌≡◌ {A = ℕ} 0 1 = h.marked in omega (arith, z)

-- "refused 2 8": other refusals print as they did
pub refused_printed : refused_line 2 CountsImpossible ≡ 114 ∷ 101 ∷ 102 ∷ 117 ∷ 115 ∷ 101 ∷ 100 ∷ 32 ∷ 50 ∷ 32 ∷ 56 ∷ 10 ∷ []
unfolding digits_within decimal field fields_of line
refused_printed = refl

-- "refused 4 7 514 49": example D as document 01 prints it
pub checks_printed : refused_line 4 (payload_refusal 514 49)
    ≡ 114 ∷ 101 ∷ 102 ∷ 117 ∷ 115 ∷ 101 ∷ 100 ∷ 32 ∷ 52 ∷ 32 ∷ 55 ∷ 32 ∷ 53 ∷ 49 ∷ 52 ∷ 32 ∷ 52 ∷ 57 ∷ 10 ∷ []
unfolding digits_within decimal field fields_of line
checks_printed = refl

-- "refused 2 4 0 19": a check that is 0 is printed
pub zero_printed : refused_line 2 (header_refusal 0 19)
    ≡ 114 ∷ 101 ∷ 102 ∷ 117 ∷ 115 ∷ 101 ∷ 100 ∷ 32 ∷ 50 ∷ 32 ∷ 52 ∷ 32 ∷ 48 ∷ 32 ∷ 49 ∷ 57 ∷ 10 ∷ []
unfolding digits_within decimal field fields_of line
zero_printed = refl

-- "bad input 14"
pub bad_printed : bad_line 14 ≡ 98 ∷ 97 ∷ 100 ∷ 32 ∷ 105 ∷ 110 ∷ 112 ∷ 117 ∷ 116 ∷ 32 ∷ 49 ∷ 52 ∷ 10 ∷ []
unfolding digits_within decimal field fields_of line
bad_printed = refl
