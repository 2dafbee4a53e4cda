-- Text told piece by piece: nothing told yet, one piece behind another, one item, more input, and the last account. Assumes nothing.
use Prim.Native.Nat.{ℕ, ◌≤◌}
use mathlib.Core.Path.{◌≡◌, refl, sym, ap, ◌∙◌}
use mathlib.Core.Logic.{◌⊎◌, inl, inr}
use mathlib.Core.Bool.{Bool, true, false, cond, false≢true}
use mathlib.Core.List.{List, [], ◌++◌, append_assoc, append-nil}
use lib.ListN.{length, drop}
use Rattle.std.specs.Prelude.{Err}
use Rattle.items.specs.declared.NoItem.TheVariants.{Cut}
use Rattle.items.specs.Items.{item_of, size_of}
use Rattle.printout.specs.Printed.{Between, account_before, step_of, text_from}
use Rattle.printout.proofs.WholeText.{text_end, text_on}
use Rattle.passing.specs.Passing.{Told}

-- nothing told yet
pub told_nothing : (b : Between) (input : List ℕ) (ended : Bool) → Told b input ended [] false b input
told_nothing b input ended = record { told = λ more h. refl }

-- a piece behind another
pub told_then : {b c d : Between} {input mid left : List ℕ} {ended : Bool} {s t : List ℕ} {over : Bool}
    → Told b input ended s false c mid → Told c mid ended t over d left → Told b input ended (s ++ t) over d left
told_then {b} {c} {d} {input} {mid} {left} {ended} {s} {t} {over} p q =
    record { told = λ more h. p.told more h ∙ ap (λ (x : List ℕ). s ++ x) (q.told more h) ∙ sym (append_assoc s t (cond over [] (text_from d (left ++ more)))) }

-- the item in front, where it is all there or the input has ended
pub told_item : (b : Between) (s : List ℕ) (ended : Bool) → 1 ≤ length s → (item_of s ≡ Err Cut → ⊥) ⊎ (ended ≡ true)
    → Told b s ended (step_of b s).text (step_of b s).stops (step_of b s).next (drop (size_of (item_of s)) s)
told_item b s ended l (inl n) = record { told = λ more h. text_on b s more l (inl n) }
told_item b s ended l (inr e) = record { told = λ more h. text_on b s more l (inr (h e)) }

-- where all is over, nothing is told from anywhere
pub told_over : {b c : Between} {input left text : List ℕ} {ended : Bool} (d : Between) (rest : List ℕ) → Told b input ended text true c left → Told b input ended text true d rest
told_over d rest p = record { told = p.told }

-- more input behind what is left
pub told_before : {b c : Between} {input left : List ℕ} {text : List ℕ} {over : Bool} (ended : Bool) (got : List ℕ)
    → Told b input false text over c left → Told b (input ++ got) ended text over c (left ++ got)
told_before {b} {c} {input} {left} {text} {over} ended got p =
    record { told = λ more h. rw (append_assoc input got more, append_assoc left got more) (p.told (got ++ more) (λ e. absurd (false≢true e))) }

-- the last account, where the input has ended and nothing is left
pub told_last : (b : Between) → Told b [] true (account_before b) true b []
told_last b = record { told = λ more h. rw (h refl) (text_end b ∙ sym (append-nil (account_before b))) }

-- where all is over, the whole text was told
pub told_all : {b c : Between} {input left text : List ℕ} → Told b input true text true c left → text ≡ text_from b input
told_all {b} {c} {input} {left} {text} p =
    sym (ap (text_from b) (sym (append-nil input)) ∙ p.told [] (λ e. refl) ∙ append-nil text)
