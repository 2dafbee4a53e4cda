-- The input that document 01 shows: a key and a frame, whatever follows them. Assumes nothing.
use Prim.Native.Nat.{ℕ}
use native.Mathlib.Omega.{arith}
use mathlib.Core.Path.{◌≡◌, refl, sym, ◌∙◌}
use mathlib.Core.List.{List, [], ◌∷◌, ◌++◌}
use Rattle.fields.specs.Numbers.{le}
use Rattle.std.specs.Prelude.{Ok, Err}
use Rattle.items.specs.declared.Item.TheVariants.{Begins, Frame}
use Rattle.items.specs.declared.NoItem.TheVariants.{Cut}
use Rattle.items.specs.Items.{Found, key_of, beginning, framed, item_of}
use Rattle.items.proofs.Enough.{enough}

-- `0A 00 01 00 07 00 00 00 03 00 00 00 00 00`
abbrev pub first_item : List ℕ
first_item = 10 ∷ 0 ∷ 1 ∷ 0 ∷ 7 ∷ 0 ∷ 0 ∷ 0 ∷ 3 ∷ 0 ∷ 0 ∷ 0 ∷ 0 ∷ 0 ∷ []

-- `12 00 02 00` and frame C
abbrev pub second_item : List ℕ
second_item = 18 ∷ 0 ∷ 2 ∷ 0 ∷ 0 ∷ 0 ∷ 0 ∷ 0 ∷ 1 ∷ 0 ∷ 0 ∷ 0 ∷ 1 ∷ 0 ∷ 0 ∷ 1 ∷ 0 ∷ 0 ∷ 0 ∷ 0 ∷ 1 ∷ 156 ∷ []

-- an item that was read stays, whatever follows
stays : (s t : List ℕ) (i : Found) → item_of s ≡ i → (i ≡ Err Cut → ⊥) → item_of (s ++ t) ≡ i
stays s t i e n = enough s t (λ (c : item_of s ≡ Err Cut). n (sym e ∙ c)) ∙ e

-- bearer 7, period 3, stamp 0
pub first_begins : (t : List ℕ) → item_of (first_item ++ t) ≡ Ok (Begins (record { bearer = 7; period = 3; stamp = 0 }))
unfolding item_of beginning key_of le
first_begins t = stays first_item t _ refl (λ e. let z : ◌≡◌ {A = ℕ} 0 1 = cc in omega arith)

-- a frame of eighteen octets
pub second_frame : (t : List ℕ) → item_of (second_item ++ t) ≡ Ok (Frame 18)
unfolding item_of framed le
second_frame t = stays second_item t _ refl (λ e. let z : ◌≡◌ {A = ℕ} 0 1 = cc in omega arith)
