-- How a frame that was read meets its promise. Assumes nothing.
use Prim.Native.Nat.{ℕ}
use mathlib.Core.Path.{◌≡◌, refl, ◌∙◌}
use mathlib.Core.Bool.{false}
use mathlib.Core.List.{List}
use lib.Dec.{ltb, eqb}
use lib.ListN.{length}
use Rattle.std.specs.Prelude.{Result, Ok, Err}
use Rattle.units.specs.declared.refusals.Refusal.{Refusal}
use Rattle.units.specs.declared.refusals.Refusal.TheVariants.{NoRoom}
use Rattle.fields.specs.Choice.{◌when◌otherwise◌}
use Rattle.fields.specs.Runs.{front}
use Rattle.frame.specs.Paper.{ReadPaper}
use Rattle.numbers.specs.Answers.{number_told}
use Rattle.numbers.proofs.Told.{room_told}
use Rattle.numbers_frames.specs.Reading.{ReadOut, values}

-- a frame that is read, with its values in front of the list where that has room
pub values_put : (p : ReadPaper) (old new vs : List ℕ) (a : Result Unit Refusal) (r : ℕ) → eqb p.kind 0 ≡ false → vs ≡ values p
    → a ≡ (Err NoRoom when ltb (length old) 7 otherwise Ok tt) → r ≡ number_told a → new ≡ (old when ltb (length old) 7 otherwise front old vs)
    → ReadOut p old r new
values_put p old new vs a r k v e n l =
    record { says = n ∙ rw (e, k) (room_told NoRoom (ltb (length old) 7)); leaves = l ∙ rw (k, v) refl }
