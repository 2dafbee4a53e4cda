-- What reading the lengths of a Type 3 frame into a lent list answers and leaves (document 01: "reading's order, 12; other types
-- write none"). Assumes nothing.
use Rattle.std.specs.Prelude.{ℕ, List, ltb, Ok, Err}
use Rattle.fields.specs.Choice.{◌when◌otherwise◌}
use Rattle.fields.specs.Runs.{front}
use Rattle.frame.specs.declared.Read.{Read}
use Rattle.frame.specs.declared.Read.TheVariants.{Closing, Data, ClosingWithLengths, Refused as NotRead}
use Rattle.frame.specs.Answers.{Listed}
use Rattle.frame.specs.Layout.{lengths_of}
use Rattle.units.specs.declared.refusals.Refusal.TheVariants.{NoRoom}

-- what is answered where a frame was read as x, and room lengths are lent
unfoldable pub list_lengths : Read → ℕ → Listed
list_lengths (NotRead r) room = Err r
list_lengths (Closing c) room = Ok (record { 0 = 0 })
list_lengths (Data d) room = Ok (record { 0 = 0 })
list_lengths (ClosingWithLengths c) room =
    Err NoRoom when ltb room c.number.0 otherwise
    Ok c.number

-- what the lent list holds after: the lengths in front of what stood behind; or, refused, what it held
unfoldable pub listed : Listed → List ℕ → List ℕ → List ℕ
listed (Ok n) s old = front old (lengths_of s 0 n.0)
listed (Err r) s old = old
