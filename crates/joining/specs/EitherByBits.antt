-- Two records of which the bits of both, put together, are what either heard. Assumes nothing.
use Rattle.std.specs.Prelude.{ℕ, ◌<◌, ◌≡◌, cond, List, eqb, length, get_or}
use Rattle.std.specs.Int.Bits.{bit_or}

-- in every place the bits of old and other together are old's number where the mark is heard, and elsewhere the other's
abbrev pub BitsChoose : List ℕ → List ℕ → List ℕ → Type 0
BitsChoose marks old other =
    (k : ℕ) → k < length marks → bit_or (get_or old k 0) (get_or other k 0) ≡ cond (eqb (get_or marks k 0) 1) (get_or old k 0) (get_or other k 0)

-- so it is in all three lists
pub record EitherByBits (marks elapsed sizes otherMarks otherElapsed otherSizes : List ℕ) : Type 0 where
  pub marks_by : BitsChoose marks marks otherMarks
  pub elapsed_by : BitsChoose marks elapsed otherElapsed
  pub sizes_by : BitsChoose marks sizes otherSizes
