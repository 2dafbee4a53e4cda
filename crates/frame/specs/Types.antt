-- The PDU types by name (document 01, "Frame layouts"; TS 25.446, 5.5.3.1). Assumes nothing.
use Rattle.std.specs.Prelude.{ℕ, zero, suc, ◌≡◌, Result, Ok, Err}
use Rattle.units.specs.declared.refusals.Refusal.{Refusal}
use Rattle.units.specs.declared.refusals.Refusal.TheVariants.{TypeTwo, TypeUnknown}
use Rattle.frame.specs.declared.types.PduType.{PduType}
use Rattle.frame.specs.declared.types.PduType.TheVariants.{Closing, Data, ClosingWithLengths}

-- "the type in bits 7 to 4" of the first octet
abbrev pub number_of_type : PduType → ℕ
number_of_type Closing = 0
number_of_type Data = 1
number_of_type ClosingWithLengths = 3

-- "2; 3": a frame of Type 2, and one of Types 4 to 15, are refused
abbrev pub type_of_number : ℕ → Result PduType Refusal
type_of_number zero = Ok Closing
type_of_number (suc zero) = Ok Data
type_of_number (suc (suc zero)) = Err TypeTwo
type_of_number (suc (suc (suc zero))) = Ok ClosingWithLengths
type_of_number (suc (suc (suc (suc t)))) = Err TypeUnknown

-- r is the type of the number t, or its refusal
abbrev pub Typed : ℕ → Result PduType Refusal → Type 0
Typed t r = r ≡ type_of_number t
