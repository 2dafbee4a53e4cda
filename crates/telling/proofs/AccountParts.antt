-- The lines of an account, by what was put for them. Assumes nothing.
use Prim.Native.Nat.{ℕ, ◌+◌, ◌-◌}
use mathlib.Core.Path.{◌≡◌}
use mathlib.Core.Bool.{cond}
use mathlib.Core.List.{[], ◌∷◌, ◌++◌, append-nil}
use borrow.Author.Tests.{eq-eqb, ne_eqb}
use Rattle.lines.specs.declared.Text.{Text}
use Rattle.lines.specs.Text.{fields_of, line}
use Rattle.lines.specs.Adding.{Adds}
use Rattle.lines.proofs.Added.{adds_none, adds_then}
use Rattle.reception.specs.declared.Head.{Head}
use Rattle.reception.specs.declared.Report.{Report}
use Rattle.reception.specs.Reporting.{gap_to}
use Rattle.telling.specs.Account.{sequence_word, closed_word, open_word, sent_word, heard_word, missing_word, gap_word, sequence_line, gap_lines}
use Rattle.telling.specs.Parts.{figures_of}

-- the line of the sequence
pub adds_sequence : (h : Head) {b p s k l m : ℕ} {t₀ t₁ t₂ t₃ : Text} → b ≡ h.bearer → p ≡ h.period → s ≡ h.stamp
    → Adds (sequence_word ++ fields_of (b ∷ p ∷ s ∷ [])) k t₀ t₁ → Adds (cond h.closed closed_word open_word) l t₁ t₂ → Adds (10 ∷ []) m t₂ t₃
    → Adds (sequence_line h) (k + l + m) t₀ t₃
unfolding sequence_line
adds_sequence h eb ep es first state end = rw (← eb, ← ep, ← es) (adds_then (adds_then first state) end)

-- the lines of what was sent, heard and missing
pub adds_figures : (r : Report) {s h m k l n : ℕ} {t₀ t₁ t₂ t₃ : Text} → s ≡ r.sent.0 → h ≡ r.heard.0 → m ≡ r.missing.0
    → Adds (line sent_word (s ∷ r.sent_octets.0 ∷ [])) k t₀ t₁ → Adds (line heard_word (h ∷ r.heard_octets.0 ∷ [])) l t₁ t₂
    → Adds (line missing_word (m ∷ r.missing_octets.0 ∷ [])) n t₂ t₃ → Adds (figures_of r) (k + l + n) t₀ t₃
unfolding figures_of
adds_figures r es eh em sent heard missing = rw (← es, ← eh, ← em) (adds_then (adds_then sent heard) missing)

module _ (i a k e : ℕ) where
  -- no gap, no line
  pub adds_no_gap : (t : Text) → i ≡ k → Adds (gap_lines (gap_to i a k e)) 67 t t
  unfolding gap_lines
  adds_no_gap t same = rw (eq-eqb i k same) (adds_none t 67)

  -- a gap: first number, count, octets
  pub adds_gap : {f c m : ℕ} {t u : Text} → (i ≡ k → ⊥) → f ≡ i → c ≡ k - i → Adds (line gap_word (f ∷ c ∷ (e - a) ∷ [])) m t u
      → Adds (gap_lines (gap_to i a k e)) m t u
  unfolding gap_lines
  adds_gap off ef ec p = rw (ne_eqb i k off, append-nil, ← ec, ← ef) p
