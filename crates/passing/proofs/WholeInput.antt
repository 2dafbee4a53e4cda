-- In whatever pieces the input is read, all that is told is the text of the whole. Assumes nothing.
use Prim.Native.Nat.{ℕ}
use mathlib.Core.Path.{◌≡◌, refl, sym, ap, ◌∙◌}
use mathlib.Core.Bool.{false≢true}
use mathlib.Core.List.{List, [], ◌++◌, append_assoc, append-nil}
use Rattle.printout.specs.Printed.{Between, text_from, program_text, nothing_yet}
use Rattle.passing.specs.Pieces.{InPieces, last, stopped, piece, owing}
use Rattle.passing.proofs.Telling.{told_all}

pub whole_told : {b : Between} {pending got text : List ℕ} → InPieces b pending got text → text ≡ text_from b (pending ++ got)
whole_told (last t) = told_all t
whole_told {b} {pending} (stopped got unread {text = text} t) =
    sym (ap (text_from b) (sym (append_assoc pending got unread)) ∙ t.told unread (λ e. absurd (false≢true e)) ∙ append-nil text)
whole_told {b} {pending} (piece got more s u t r) =
    sym (ap (text_from b) (sym (append_assoc pending got more)) ∙ t.told more (λ e. absurd (false≢true e)) ∙ ap (λ (x : List ℕ). s ++ x) (sym (whole_told r)))
whole_told {b} {pending} {got} (owing s u {left = left} t r) =
    sym (ap (text_from b) (sym (append-nil (pending ++ got))) ∙ t.told [] (λ e. refl) ∙ ap (λ (x : List ℕ). s ++ x) (sym (whole_told r)))

-- all that the program prints of its input
pub program_told : {input text : List ℕ} → InPieces nothing_yet [] input text → text ≡ program_text input
program_told t = whole_told t
