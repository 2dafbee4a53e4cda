-- A promise from the state and answer that the definition gives. Assumes nothing.
use Prim.Native.Nat.{ℕ}
use mathlib.Core.Path.{◌≡◌, sym, ap, ◌∙◌}
use mathlib.Core.List.{List}
use Rattle.frame.specs.Answers.{Written}
use Rattle.frame.specs.Paper.{written_paper}
use Rattle.frame.specs.Writing.{after}
use Rattle.sender.specs.declared.Sender.{Sender}
use Rattle.sender.specs.Answers.{Dispatch}
use Rattle.sender.specs.Calls.{Sends}

-- a frame that was written, or not, as the writer says: its answer and the memory, and the next state
pub written : {t r : Dispatch} {w : Written} {n : Sender} {frame old new : List ℕ} → t ≡ record { answer = w; sender = n }
    → written_paper r.answer ≡ written_paper w → r.sender ≡ n → new ≡ after w frame old → Sends t frame old r new
written {t} {r} {w} {n} {frame} {old} e says next leaves =
    record {
      says = says ∙ ap (λ (x : Dispatch). written_paper x.answer) (sym e);
      next = next ∙ ap (λ (x : Dispatch). x.sender) (sym e);
      leaves = leaves ∙ ap (λ (x : Dispatch). after x.answer frame old) (sym e);
    }
