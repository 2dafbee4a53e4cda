-- A choice by a test, and a chain of refusals, taken apart from its answer. Assumes nothing.
use mathlib.Core.Path.{◌≡◌, refl}
use mathlib.Core.Bool.{Bool, true, false, cond}
use Rattle.fields.specs.Choice.{◌when◌otherwise◌}

-- a choice by a test that is known
pub pick_yes : {A : Type 0} (t : Bool) (a b : A) → t ≡ true → cond t a b ≡ a
pick_yes t a b h = rw h

pub pick_no : {A : Type 0} (t : Bool) (a b : A) → t ≡ false → cond t a b ≡ b
pick_no t a b h = rw h

-- a choice between one and the same
pub pick_same : {A : Type 0} (t : Bool) (a : A) → cond t a a ≡ a
pick_same true a = refl
pick_same false a = refl

-- an answer that is not the first one comes from what follows, and the test did not hold
pub past : {A : Type 0} (a b x : A) (t : Bool) → (a ≡ x → ⊥) → (a when t otherwise b) ≡ x → (t ≡ false) × (b ≡ x)
past a b x true h e = absurd (h e)
past a b x false h e = (refl, e)

-- what holds of the first answer, and of what follows where the test does not hold, holds of the chain
pub whichever : {A : Type 0} (P : A → Type 0) (a b : A) (t : Bool) → P a → (t ≡ false → P b) → P (a when t otherwise b)
whichever P a b true p q = p
whichever P a b false p q = q refl

-- the same, where what the test says is used on both sides
pub tested : {A : Type 0} (P : A → Type 0) (a b : A) (t : Bool) → (t ≡ true → P a) → (t ≡ false → P b) → P (a when t otherwise b)
tested P a b true p q = p refl
tested P a b false p q = q refl

-- two chains with the same first answer and test are the same, if what follows is the same where the test does not hold
pub same_test : {A : Type 0} (x a b : A) (t : Bool) → (t ≡ false → a ≡ b) → (x when t otherwise a) ≡ (x when t otherwise b)
same_test x a b true h = refl
same_test x a b false h = h refl

-- what a chain comes to: some refusal, or what stands behind all of its tests, and then G holds
pub data Comes {R A : Type 0} (refusal : R → A) (G : Type 0) (a : A) : A → Type 0 where
  refused : (n : R) → Comes refusal G a (refusal n)
  accepted : G → Comes refusal G a a

-- so what holds of every refusal, and of what stands behind where G holds, holds of the chain
pub whatever : {R A : Type 0} {refusal : R → A} {G : Type 0} {a x : A} (P : A → Type 0) → Comes refusal G a x → ((n : R) → P (refusal n)) → (G → P a) → P x
whatever P (refused n) p q = p n
whatever P (accepted g) p q = q g
