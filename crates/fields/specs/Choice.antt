-- The order when several refusals apply (document 01, "Order when several apply"): a chain of these is read downwards, and the
-- first test that holds gives the answer. Assumes nothing.
use Rattle.std.specs.Prelude.{Bool, true, false}

infixr 3 ◌when◌otherwise◌
-- a where the test holds, and otherwise b
abbrev pub ◌when◌otherwise◌ : {A : Type 0} → A → Bool → A → A
a when true otherwise b = a
a when false otherwise b = b
