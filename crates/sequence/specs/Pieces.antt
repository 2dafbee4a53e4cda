-- The frames of one sequence of our sender, and the hearing of some of them one after another (document 01, "The reception record": "an
-- empty record hears only frames of one sequence of our sender"). Assumes nothing.
use Rattle.std.specs.Prelude.{ℕ, ◌<◌, ◌≡◌, false, List, [], ◌∷◌, map, length, get_or}
use Rattle.frame.specs.Counts.{list_wrong}
use Rattle.frame.specs.Payloads.{AllPayload}
use Rattle.frame.specs.Writing.{closing_frame, lengths_frame}
use Rattle.sender.specs.Sequence.{data_frames, count_of, octets_of, closing_after}
use Rattle.reception.specs.OneSequence.{Part, came, closing_came}
use Rattle.reception.specs.OneSequence.Part.{Packet, Closing}

-- a frame of a sequence: the data PDU of a packet by its number, a closing of Type 0, or one of Type 3 with the lengths given for it
pub data Piece : Type 0 where
  DataOf : ℕ → Piece
  PlainClosing : Piece
  ListedClosing : List ℕ → Piece

-- its octets, in a sequence of a stamp and of payloads, where the period had some packets and octets before
unfoldable pub frame_of : ℕ → ℕ → ℕ → List (List ℕ) → Piece → List ℕ
frame_of stamp packets octets payloads (DataOf k) = get_or (data_frames stamp 0 0 payloads) k []
frame_of stamp packets octets payloads PlainClosing = closing_frame (closing_after stamp packets octets payloads)
frame_of stamp packets octets payloads (ListedClosing ls) = lengths_frame (closing_after stamp packets octets payloads) ls

-- what a record holds of it: "Type 3 is held as its closing only"
abbrev pub part_of : Piece → Part
part_of (DataOf k) = Packet k
part_of PlainClosing = Closing
part_of (ListedClosing ls) = Closing

-- the sequence has it: a packet that it has, or a closing; of Type 3 with lengths to which refusal 22 does not apply
pub data PieceOf (payloads : List (List ℕ)) : Piece → Type 0 where
  a_packet : {k : ℕ} → k < length payloads → PieceOf payloads (DataOf k)
  a_closing : PieceOf payloads PlainClosing
  with_lengths : {ls : List ℕ} → list_wrong ls (count_of payloads) (octets_of payloads) ≡ false → PieceOf payloads (ListedClosing ls)

-- and each of some
pub data PiecesOf (payloads : List (List ℕ)) : List Piece → Type 0 where
  none : PiecesOf payloads []
  more : {x : Piece} {xs : List Piece} → PieceOf payloads x → PiecesOf payloads xs → PiecesOf payloads (x ∷ xs)

-- "payloads from which this rule drops nothing" (document 02, request 2)
pub data NoneDropped : List (List ℕ) → Type 0 where
  none : NoneDropped []
  more : {p : List ℕ} {ps : List (List ℕ)} → AllPayload p → NoneDropped ps → NoneDropped (p ∷ ps)

-- the lengths of the payloads, as a sending
abbrev pub lengths_of : List (List ℕ) → List ℕ
lengths_of payloads = map length payloads

-- the same packets are among two lists of frames, and a closing is among both or among neither
pub record SameFrames (xs ys : List Piece) : Type 0 where
  pub packets : (k : ℕ) → came k (map part_of xs) ≡ came k (map part_of ys)
  pub closings : closing_came (map part_of xs) ≡ closing_came (map part_of ys)
