-- What the calls of a sender promise that C and Rust keep as a list of six numbers. Assumes nothing.
use Rattle.std.specs.Prelude.{ℕ, ◌≡◌, List, Result, length, ltb, Ok, Err}
use Rattle.units.specs.declared.refusals.Refusal.{Refusal}
use Rattle.units.specs.Refusals.{no_room, sender_damaged}
use Rattle.fields.specs.Choice.{◌when◌otherwise◌}
use Rattle.fields.specs.Runs.{front}
use Rattle.frame.specs.Paper.{written_paper}
use Rattle.frame.specs.Writing.{after}
use Rattle.sender.specs.declared.Sender.{Sender}
use Rattle.sender.specs.Answers.{Dispatch, Turning}
use Rattle.sender.specs.State.{fresh_sender}
use Rattle.sender.specs.Calls.{turned_paper}
use Rattle.numbers.specs.Answers.{in_one}
use Rattle.numbers_state.specs.States.{state_of}

-- the list of a state after an answer: the sender's numbers in front; or, refused, what it held
abbrev pub state_after : {T : Type 0} → Result T Refusal → List ℕ → Sender → List ℕ
state_after (Ok x) old s = front old (state_of s)
state_after (Err r) old s = old

-- a fresh sender in a list that held old: 12 where that has fewer than six numbers
pub record MakesFresh (old : List ℕ) (r : ℕ) (new : List ℕ) : Type 0 where
  pub says : r ≡ (no_room when ltb (length old) 6 otherwise 0)
  pub leaves : new ≡ (old when ltb (length old) 6 otherwise front old (state_of fresh_sender))

-- the promise of a call that writes nothing, of a sender whose state stands in the list old: 21 where that has fewer than six numbers,
-- otherwise what t says
pub record TurnsState (old : List ℕ) (t : Turning) (r : ℕ) (new : List ℕ) : Type 0 where
  pub says : r ≡ (sender_damaged when ltb (length old) 6 otherwise (turned_paper t.answer).number)
  pub leaves_state : new ≡ (old when ltb (length old) 6 otherwise state_after t.answer old t.sender)

-- and of a call that writes a frame into memory that held out
pub record SendsState (old : List ℕ) (t : Dispatch) (frame out : List ℕ) (r : ℕ) (new out' : List ℕ) : Type 0 where
  pub says : r ≡ (sender_damaged when ltb (length old) 6 otherwise in_one (written_paper t.answer))
  pub leaves_state : new ≡ (old when ltb (length old) 6 otherwise state_after t.answer old t.sender)
  pub leaves_out : out' ≡ (out when ltb (length old) 6 otherwise after t.answer frame out)
