-- The machine values of senders, of answers and of slices: they are of their types, and whoever holds the value of what a call by
-- value gives knows its two parts. No field of a sender is looked into. Assumes nothing.
use Prim.Native.Nat.{ℕ}
use mathlib.Core.Path.{◌≡◌, refl, ap}
use mathlib.Core.List.{List, [], ◌∷◌}
use seplogic.Ra.Ura.{Ura}
use mir.Val.{Val}
use types.Logic.{Logic}
use lib.ListN.{length}
use denote.Builtin.{unit, usize}
use denote.RattleType.{RattleType}
use denote.Laws.{Is, Makes, Typed}
use denote.Param.Laws.{Laws, Told, of_field, field_told}
use denote.Param.Shared.{copy_shared}
use denote.Ref.{Bor}
use denote.Slice.{slice_val}
use denote.Steps.{only}
use denote.Struct.Field.{unit-field, usize-field}
use denote.Struct.Laws as LL
use denote.Enum.Laws as EL
use Rattle.std.specs.contracts.result.Result as R
use Rattle.std.proofs.result.Result.TheLaws as R'
use Rattle.units.specs.contracts.refusals.Refusal as F
use Rattle.units.proofs.refusals.Refusal.TheLaws as F'
use Rattle.frame.specs.Answers.{Written}
use Rattle.sender.specs.Answers.{Turned, Turning, Dispatch}
use Rattle.sender.specs.declared.Sender.{Sender}
use Rattle.sender.specs.contracts.Sender as S
use Rattle.sender.proofs.Sender.TheLaws as S'
use Rattle.sender.specs.contracts.Called as C
use Rattle.sender.proofs.Called.TheLaws as C'

-- the laws of what an answer has where it is no refusal: nothing, or how many octets were written
abbrev unit_laws : Laws unit
unit_laws = of_field unit-field LL.unit-laws refl (copy_shared unit-field LL.unit-copy)

abbrev unit_told : Told unit
unit_told = field_told unit-field LL.unit-laws

abbrev count_laws : Laws usize
count_laws = of_field usize-field LL.usize-laws refl (copy_shared usize-field LL.usize-copy)

abbrev count_told : Told usize
count_told = field_told usize-field LL.usize-laws

-- both answers
abbrev pub turned_row : RattleType
turned_row = R.the_row unit F.the_row

abbrev pub written_row : RattleType
written_row = R.the_row usize F.the_row

abbrev pub turned_laws : EL.Laws (R.the_type unit F.the_row)
turned_laws = R'.the_laws unit F.the_row unit_laws F'.the_row_laws unit_told F'.the_told

abbrev pub written_laws : EL.Laws (R.the_type usize F.the_row)
written_laws = R'.the_laws usize F.the_row count_laws F'.the_row_laws count_told F'.the_told

abbrev pub turning_laws : LL.Laws (C.the_type unit)
turning_laws = C'.the_laws unit unit_laws unit_told

abbrev pub dispatch_laws : LL.Laws (C.the_type usize)
dispatch_laws = C'.the_laws usize count_laws count_told

abbrev pub mach : Sender → Val
mach s = LL.val S.the_type S'.the_laws s

abbrev pub turned : Turned → Val
turned t = EL.val (R.the_type unit F.the_row) turned_laws t

abbrev pub written : Written → Val
written w = EL.val (R.the_type usize F.the_row) written_laws w

-- where a slice stands, and its length
abbrev pub slice : Bor (List ℕ) → Val
slice x = slice_val x.ref_ptr (length x.now)

-- the value of a turn
module _ (r : Turning) (v : Val) (is : Is (C.the_row unit) r (v ∷ [])) where
  pub turning_is : v ≡ LL.val (C.the_type unit) turning_laws r
  turning_is = ap only (LL.tells (C.the_type unit) turning_laws r _ is)

  pub turning_answer : Is turned_row r.answer (turned r.answer ∷ [])
  turning_answer = (LL.owed (C.the_type unit) turning_laws r _ is).0

  pub turning_sender : Is S.the_row r.sender (mach r.sender ∷ [])
  turning_sender = (LL.owed (C.the_type unit) turning_laws r _ is).1.0

-- the value of a dispatch
module _ (r : Dispatch) (v : Val) (is : Is (C.the_row usize) r (v ∷ [])) where
  pub dispatch_is : v ≡ LL.val (C.the_type usize) dispatch_laws r
  dispatch_is = ap only (LL.tells (C.the_type usize) dispatch_laws r _ is)

  pub dispatch_answer : Is written_row r.answer (written r.answer ∷ [])
  dispatch_answer = (LL.owed (C.the_type usize) dispatch_laws r _ is).0

  pub dispatch_sender : Is S.the_row r.sender (mach r.sender ∷ [])
  dispatch_sender = (LL.owed (C.the_type usize) dispatch_laws r _ is).1.0

-- values are of their types
module _ {M : Type 1} {𝓤 : Ura M} (𝓛 : Logic 𝓤) {v : Val} where
  pub sender_typed : (s : Sender) → Is S.the_row s (v ∷ []) → Typed (S.the_row).mir (v ∷ [])
  sender_typed s is = (LL.lawful S.the_type S'.the_laws 𝓛).typed s _ is

  pub turned_typed : (t : Turned) → Is turned_row t (v ∷ []) → Typed turned_row.mir (v ∷ [])
  turned_typed t is = (EL.lawful (R.the_type unit F.the_row) turned_laws 𝓛 tt).typed t _ is

  pub written_typed : (w : Written) → Is written_row w (v ∷ []) → Typed written_row.mir (v ∷ [])
  written_typed w is = (EL.lawful (R.the_type usize F.the_row) written_laws 𝓛 tt).typed w _ is

  pub turning_typed : (r : Turning) → Is (C.the_row unit) r (v ∷ []) → Typed (C.the_row unit).mir (v ∷ [])
  turning_typed r is = (LL.lawful (C.the_type unit) turning_laws 𝓛).typed r _ is

  pub dispatch_typed : (r : Dispatch) → Is (C.the_row usize) r (v ∷ []) → Typed (C.the_row usize).mir (v ∷ [])
  dispatch_typed r is = (LL.lawful (C.the_type usize) dispatch_laws 𝓛).typed r _ is

-- what a sender or an answer owns is had for nothing
module _ {M : Type 1} {𝓤 : Ura M} (𝓛 : Logic 𝓤) where
  pub sender_makes : Makes 𝓛 S.the_row (Is S.the_row)
  sender_makes = LL.makes S.the_type S'.the_plain 𝓛

  pub turned_makes : Makes 𝓛 turned_row (Is turned_row)
  turned_makes =
      EL.makes (R.the_type unit F.the_row) ((LL.unit-plain, tt), ((EL.pure F.the_type F'.the_plain, tt), tt)) 𝓛

  pub written_makes : Makes 𝓛 written_row (Is written_row)
  written_makes =
      EL.makes (R.the_type usize F.the_row) ((LL.usize-plain, tt), ((EL.pure F.the_type F'.the_plain, tt), tt)) 𝓛
