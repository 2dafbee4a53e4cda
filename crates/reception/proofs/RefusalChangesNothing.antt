-- A refused frame changes nothing of the record that was to hear it. Assumes nothing.
use Prim.Native.Nat.{ℕ}
use mathlib.Core.Path.{◌≡◌, refl}
use mathlib.Core.List.{List}
use native.Mathlib.Omega.{arith}
use Rattle.units.specs.declared.refusals.Refusal.{Refusal}
use Rattle.frame.specs.declared.Read.{Read}
use Rattle.frame.specs.Reading.{read_frame}
use Rattle.reception.specs.Hearing.{Kept, Outcome, hear_frame}
use Rattle.reception.proofs.HeardTold.{Answered, unmatched_lists, unread, withheld, taken, heard_told}
use Rattle.std.specs.Prelude.{Ok, Err}
use Rattle.reception.specs.Answers.{Taken}

-- an accepted frame was not refused
pub done_not_refused : (r : Refusal) → ◌≡◌ {A = Taken} (Ok tt) (Err r) → ⊥
done_not_refused r e =
    let z : ◌≡◌ {A = ℕ} 0 1 = cc in
    omega arith

left : (k : Kept) (x : Read) (o : Outcome) → Answered k x o → (r : Refusal) → o.answer ≡ Err r → o.kept ≡ k
left k x _ (unmatched_lists u) r e = refl
left k x _ (unread q p) r e = refl
left k x _ (withheld n p w) r e = refl
left k x _ (taken next w) r e = absurd (done_not_refused r e)

-- a refusal changes nothing of the record
pub refusal_changes_nothing : (k : Kept) (bearer period : ℕ) (f : List ℕ) (r : Refusal) → (hear_frame k bearer period f).answer ≡ Err r
    → (hear_frame k bearer period f).kept ≡ k
refusal_changes_nothing k bearer period f = left k (read_frame f) (hear_frame k bearer period f) (heard_told k bearer period f)
