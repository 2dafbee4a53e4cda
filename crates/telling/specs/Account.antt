-- The text of an account (document 01, "The printed account"): octets of ASCII, line by line. Assumes nothing.
use Rattle.std.specs.Prelude.{ℕ, ◌+◌, ◌*◌, cond, List, [], ◌∷◌, ◌++◌, length}
use Rattle.units.specs.declared.refusals.Refusal.{Refusal}
use Rattle.units.specs.Refusals.{number_of, found_of, worked_of, tells_checks}
use Rattle.fields.specs.Choice.{◌when◌otherwise◌}
use Rattle.lines.specs.Text.{fields_of, line}
use Rattle.reception.specs.declared.Head.{Head}
use Rattle.reception.specs.Sendings.{Held}
use Rattle.reception.specs.Hearing.{Kept, held_by}
use Rattle.reception.specs.Reporting.{Gap, gaps_of, report_of}

-- the words of the lines
abbrev pub sequence_word : List ℕ  -- "sequence"
sequence_word = 115 ∷ 101 ∷ 113 ∷ 117 ∷ 101 ∷ 110 ∷ 99 ∷ 101 ∷ []

abbrev pub sent_word : List ℕ  -- "sent"
sent_word = 115 ∷ 101 ∷ 110 ∷ 116 ∷ []

abbrev pub heard_word : List ℕ  -- "heard"
heard_word = 104 ∷ 101 ∷ 97 ∷ 114 ∷ 100 ∷ []

abbrev pub missing_word : List ℕ  -- "missing"
missing_word = 109 ∷ 105 ∷ 115 ∷ 115 ∷ 105 ∷ 110 ∷ 103 ∷ []

abbrev pub gap_word : List ℕ  -- "gap"
gap_word = 103 ∷ 97 ∷ 112 ∷ []

abbrev pub end_word : List ℕ  -- "end"
end_word = 101 ∷ 110 ∷ 100 ∷ []

abbrev pub refused_word : List ℕ  -- "refused"
refused_word = 114 ∷ 101 ∷ 102 ∷ 117 ∷ 115 ∷ 101 ∷ 100 ∷ []

abbrev pub bad_word : List ℕ  -- "bad input"
bad_word = 98 ∷ 97 ∷ 100 ∷ 32 ∷ 105 ∷ 110 ∷ 112 ∷ 117 ∷ 116 ∷ []

-- a space and "closed" or "open"
abbrev pub closed_word : List ℕ
closed_word = 32 ∷ 99 ∷ 108 ∷ 111 ∷ 115 ∷ 101 ∷ 100 ∷ []

-- of a sequence of which no closing was heard
abbrev pub open_word : List ℕ
open_word = 32 ∷ 111 ∷ 112 ∷ 101 ∷ 110 ∷ []

-- "Line 1 is bearer, period, stamp and closed or open"
unfoldable pub sequence_line : Head → List ℕ
sequence_line h = sequence_word ++ fields_of (h.bearer ∷ h.period ∷ h.stamp ∷ []) ++ cond h.closed closed_word open_word ++ (10 ∷ [])

-- "a gap is as in the report": first number, count, octets
unfoldable pub gap_lines : List Gap → List ℕ
gap_lines [] = []
gap_lines (g ∷ gs) = line gap_word (g.first ∷ g.count ∷ g.octets ∷ []) ++ gap_lines gs

-- "the others are packets, octets"
abbrev pub figure_lines : Held → List ℕ
figure_lines r =
    line sent_word ((report_of r).sent.0 ∷ (report_of r).sent_octets.0 ∷ [])
    ++ line heard_word ((report_of r).heard.0 ∷ (report_of r).heard_octets.0 ∷ [])
    ++ line missing_word ((report_of r).missing.0 ∷ (report_of r).missing_octets.0 ∷ [])

-- the account of a record; "Every account closes with the line "end""
unfoldable pub account_text : Kept → List ℕ
account_text k = sequence_line k.head ++ figure_lines (held_by k) ++ gap_lines (gaps_of (held_by k)) ++ line end_word []

-- document 02, request 6, of refusals 4 and 7: "The printed account shows both in decimal after the number"
abbrev pub checks_of : Refusal → List ℕ
checks_of r = (found_of r ∷ worked_of r ∷ []) when tells_checks (number_of r) otherwise []

-- "a refused one prints "refused", its place among all items from 1, its number"; with 4 and 7 the checks behind it
abbrev pub refused_line : ℕ → Refusal → List ℕ
refused_line place r = line refused_word (place ∷ number_of r ∷ checks_of r)

-- "prints "bad input" and the item's offset in octets from 0"
abbrev pub bad_line : ℕ → List ℕ
bad_line offset = line bad_word (offset ∷ [])

-- the most octets of a line with so many numbers: each has at most 20 digits and a space before it; one ends the line
abbrev pub most_line : List ℕ → ℕ → ℕ
most_line word numbers = length word + (1 + 20) * numbers + 1

-- the most octets of an account by the record's places: a gap may stand at each place and behind the last
abbrev pub most_account : ℕ → ℕ
most_account places =
    (most_line sequence_word 3 + length closed_word)
    + (most_line sent_word 2 + most_line heard_word 2 + most_line missing_word 2)
    + most_line gap_word 3 * (places + 1)
    + most_line end_word 0
