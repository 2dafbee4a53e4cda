-- The parts of an account make its text, and how long it can be. Assumes nothing.
use Prim.Native.Nat.{ℕ, zero, suc, ◌+◌, ◌*◌, ◌≤◌}
use mathlib.Core.Path.{◌≡◌, ap}
use mathlib.Core.Logic.{⊎_elim}
use mathlib.Core.Bool.{Bool, true, false, cond}
use mathlib.Core.List.{List, [], ◌∷◌, ◌++◌}
use native.Mathlib.Omega.{arith}
use lib.Dec.{eqb}
use lib.ListN.{length, length-append}
use Rattle.fields.proofs.Tests.{either}
use Rattle.lines.specs.declared.Text.{Text}
use Rattle.lines.specs.Text.{fields_of, line}
use Rattle.lines.specs.Adding.{Adds}
use Rattle.lines.proofs.Putting.{line_length}
use Rattle.lines.proofs.Added.{adds_then}
use Rattle.reception.specs.declared.Head.{Head}
use Rattle.reception.specs.declared.Report.{Report}
use Rattle.reception.specs.Sendings.{Held, held_in}
use Rattle.reception.specs.Damage.{Matched}
use Rattle.reception.specs.Walk.{is_heard}
use Rattle.reception.specs.Hearing.{Kept, kept_in, held_by, damaged_kept}
use Rattle.reception.specs.Reporting.{Gap, gap_to, gaps_from, gaps_of, sent_packets, report_of}
use Rattle.reception.proofs.ReportAccounts.{undamaged_sent}
use Rattle.reporting.proofs.CountedReport.{sound}
use Rattle.telling.specs.Account.{sequence_word, closed_word, open_word, gap_word, sent_word, heard_word, missing_word, end_word, sequence_line, gap_lines, figure_lines, account_text, most_account}
use Rattle.telling.specs.Parts.{figures_of}

-- no more packets were sent than the record has places
pub sent_fits : (h : Head) (marks elapsed sizes : List ℕ) → Matched marks elapsed sizes → damaged_kept (kept_in h marks elapsed sizes) ≡ false
    → sent_packets (held_in h marks elapsed sizes) ≤ length marks
sent_fits h marks elapsed sizes m d =
    let x = undamaged_sent _ _ (sound h marks elapsed sizes m d) in
    omega (arith, x.1.packets, x.1.covers.room)

-- a report's packets sent
pub sent_is : (r : Held) (t : Report) → t ≡ report_of r → t.sent.0 ≡ sent_packets r
sent_is r t e = ap (λ (x : Report). x.sent.0) e

-- the sequence, the figures of its report, the gaps and the end
pub adds_account : (h : Head) (marks elapsed sizes : List ℕ) (t : Report) {k l m n : ℕ} {t₀ t₁ t₂ t₃ t₄ : Text}
    → t ≡ report_of (held_in h marks elapsed sizes) → Adds (sequence_line h) k t₀ t₁ → Adds (figures_of t) l t₁ t₂
    → Adds (gap_lines (gaps_of (held_in h marks elapsed sizes))) m t₂ t₃ → Adds (line end_word []) n t₃ t₄
    → Adds (account_text (kept_in h marks elapsed sizes)) (k + l + m + n) t₀ t₄
unfolding account_text figures_of
adds_account h marks elapsed sizes t e sequence figures gaps end =
    let f : Adds (figures_of (report_of (held_in h marks elapsed sizes))) _ _ _ = rw e at figures in
    adds_then (adds_then (adds_then sequence f) gaps) end

-- a gap's line takes 67 octets at most
gap_lines_length : (gs : List Gap) → length (gap_lines gs) ≤ 67 * length gs
unfolding gap_lines
gap_lines_length [] = omega arith
gap_lines_length (g ∷ gs) =
    simp length-append (omega (arith, line_length gap_word (g.first ∷ g.count ∷ g.octets ∷ []), gap_lines_length gs))

-- there is one gap at most at a place
gap_one : (i a k e : ℕ) → length (gap_to i a k e) ≤ 1
gap_one i a k e = ⊎_elim (λ (t : eqb i k ≡ true). rw t (omega arith)) (λ (t : eqb i k ≡ false). rw t (omega arith)) (either (eqb i k))

gap_where : (b : Bool) (gs : List Gap) → length gs ≤ 1 → length (cond b gs []) ≤ 1
gap_where true gs le = le
gap_where false gs le = omega arith

-- and one behind the last place
pub gaps_few : (r : Held) (n k i a t : ℕ) → length (gaps_from r n k i a t) ≤ n + 1
unfolding gaps_from
gaps_few r zero k i a t = omega (arith, gap_one i a k t)
gaps_few r (suc n) k i a t =
    let here = gap_where (is_heard r k) (gap_to i a k (r.elapsed k)) (gap_one i a k (r.elapsed k)) in
    let rest = gaps_few r n (suc k) (cond (is_heard r k) (suc k) i) (cond (is_heard r k) (r.elapsed k + r.size k) a) t in
    simp length-append (omega (arith, here, rest))

-- the first line
state_length : (b : Bool) → length (cond b closed_word open_word) ≤ 7
state_length true = omega arith
state_length false = omega arith

sequence_length : (h : Head) → length (sequence_line h) ≤ 79
unfolding sequence_line line
sequence_length h =
    let fields = fields_of (h.bearer ∷ h.period ∷ h.stamp ∷ []) in
    let state = cond h.closed closed_word open_word in
    let l = line_length sequence_word (h.bearer ∷ h.period ∷ h.stamp ∷ []) in
    let a = length-append (sequence_word ++ fields) (10 ∷ []) in
    let b = length-append (sequence_word ++ fields) state in
    let c = length-append (sequence_word ++ fields ++ state) (10 ∷ []) in
    omega (arith, l, a, b, c, state_length h.closed)

figures_length : (r : Held) → length (figure_lines r) ≤ 145
figures_length r =
    let s = (report_of r).sent.0 ∷ (report_of r).sent_octets.0 ∷ [] in
    let h = (report_of r).heard.0 ∷ (report_of r).heard_octets.0 ∷ [] in
    let m = (report_of r).missing.0 ∷ (report_of r).missing_octets.0 ∷ [] in
    simp length-append (omega (arith, line_length sent_word s, line_length heard_word h, line_length missing_word m))

-- the whole account, by the places of the record
pub account_length : (k : Kept) → Matched k.marks k.elapsed k.sizes → damaged_kept k ≡ false → length (account_text k) ≤ most_account (length k.marks)
unfolding account_text
account_length k m d =
    let gs = gaps_of (held_by k) in
    let n = sent_fits k.head k.marks k.elapsed k.sizes m d in
    let f = gaps_few (held_by k) (sent_packets (held_by k)) 0 0 0 _ in
    let a = length-append (sequence_line k.head ++ figure_lines (held_by k) ++ gap_lines gs) (line end_word []) in
    let b = length-append (sequence_line k.head ++ figure_lines (held_by k)) (gap_lines gs) in
    let c = length-append (sequence_line k.head) (figure_lines (held_by k)) in
    let l : length gs ≤ sent_packets (held_by k) + 1 = f in
    omega (arith, a, b, c, l, n, sequence_length k.head, figures_length (held_by k), gap_lines_length gs, line_length end_word [])
