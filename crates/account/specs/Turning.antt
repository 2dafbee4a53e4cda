-- What is kept from one read to the next, and what is told at each. Assumes nothing.
use Rattle.std.specs.Prelude.{ℕ, ◌≤◌, ◌<◌, ◌≡◌, Option, IfSome, List, ◌++◌, length, take}
use Rattle.std.specs.Io.KnownBytes.{Appends, Consumes, IsAtEnd}
use Rattle.feeding.specs.declared.End.TheVariants.{Full, Over}
use Rattle.feeding.specs.Feeding.{is_over}
use Rattle.printout.specs.declared.Going.{Going}
use Rattle.printout.specs.Printed.{Between, program_text}
use Rattle.printout.specs.Stepping.{between_in, Known, Ready}
use Rattle.passing.specs.Passing.{Told}
use Rattle.account.specs.declared.Done.{Done}

-- the record is as it has to be: K is known of it; and the octets that are there fit the buffer
pub record TurnsWith (K : Known) (g : Going) (marks elapsed sizes input : List ℕ) (have : ℕ) : Type 0 where
  pub ready : K g marks elapsed sizes
  pub within : have ≤ length input

-- the same of a record that is ready
abbrev pub Turns : Going → List ℕ → List ℕ → List ℕ → List ℕ → ℕ → Type 0
Turns = TurnsWith Ready

-- of what was pending and what was got the text in memory is told, and the rest is pending. Unless a read failed, the input has ended
-- exactly where they do not fill the buffer. What was got is what the reader gave, and where the input has ended the reader has nothing
-- left
pub record TurnedWith (K : Known) (b : Between) (pending : List ℕ) (before after : Option (List ℕ)) (r : Done) (marks elapsed sizes input out : List ℕ) : Type 0 where
  pub got : List ℕ
  pub bytes : Consumes before after got
  pub at_end : r.end ≡ Over → IsAtEnd after
  pub told : Told b (pending ++ got) (is_over r.end) (take r.at out) r.over (between_in r.going marks elapsed sizes) (take r.have input)
  pub full : r.end ≡ Full → length (pending ++ got) ≡ length input
  pub over : r.end ≡ Over → length (pending ++ got) < length input
  pub at_in : r.at ≤ length out
  pub turns : TurnsWith K r.going marks elapsed sizes input r.have

-- the same, and the record is ready
abbrev pub Turned : Between → List ℕ → Option (List ℕ) → Option (List ℕ) → Done → List ℕ → List ℕ → List ℕ → List ℕ → List ℕ → Type 0
Turned = TurnedWith Ready

-- of all that the reader gives, where it is known, the program's text was written
abbrev pub TellsAll : Option (List ℕ) → Option (List ℕ) → Option (List ℕ) → Type 0
TellsAll given before after = IfSome given (λ xs. Appends before after (program_text xs))

-- no more was read than a front of it, or not all of that was told: what was written is the front of the program's text
abbrev pub TellsFront : Option (List ℕ) → Option (List ℕ) → Option (List ℕ) → Type 0
TellsFront given before after =
    IfSome given (λ xs. (text : List ℕ) × (owed : List ℕ) × Appends before after text × (program_text xs ≡ text ++ owed))
