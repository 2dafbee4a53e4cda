-- What reading a frame promises C and Rust: document 01's number and values, in a lent list of numbers; and its lengths. Assumes nothing.
use Rattle.std.specs.Prelude.{ℕ, ◌≡◌, List, [], ◌∷◌, length, eqb, ltb}
use Rattle.units.specs.OneNumber.{refusal_in_one}
use Rattle.units.specs.Refusals.{no_room}
use Rattle.fields.specs.Choice.{◌when◌otherwise◌}
use Rattle.fields.specs.Runs.{front}
use Rattle.frame.specs.Listing.{list_lengths, listed}
use Rattle.frame.specs.Paper.{ReadPaper, listed_paper}
use Rattle.frame.specs.Reading.{read_frame}
use Rattle.numbers.specs.Answers.{in_one}

-- one more than the PDU type, stamp, packet number, elapsed octets, total packets, total octets, payload length
abbrev pub values : ReadPaper → List ℕ
values p = p.kind ∷ p.stamp ∷ p.packet ∷ p.elapsed ∷ p.packets ∷ p.octets ∷ p.payload ∷ []

-- a frame that was read as p says: the refusal's number with both checks of 4 and 7, and nothing written; or its values
pub record ReadOut (p : ReadPaper) (old : List ℕ) (r : ℕ) (new : List ℕ) : Type 0 where
  pub says : r ≡ (refusal_in_one p.number p.found p.worked when eqb p.kind 0 otherwise no_room when ltb (length old) 7 otherwise 0)
  pub leaves : new ≡ (old when eqb p.kind 0 otherwise old when ltb (length old) 7 otherwise front old (values p))

-- the promise of listing the lengths of a frame s in a lent list that held old
pub record ListsInOne (s old : List ℕ) (r : ℕ) (new : List ℕ) : Type 0 where
  pub says : r ≡ in_one (listed_paper (list_lengths (read_frame s) (length old)))
  pub leaves : new ≡ listed (list_lengths (read_frame s) (length old)) s old
