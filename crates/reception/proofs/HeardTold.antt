-- What hearing comes to: reading's own refusal as reading gave it, one of the record's, without checks, or a record that took the frame.
-- Assumes nothing.
use Prim.Native.Nat.{ℕ}
use mathlib.Core.Path.{◌≡◌, refl, sym}
use mathlib.Core.Bool.{true, false}
use mathlib.Core.List.{List}
use lib.Dec.{ltb, leb}
use lib.ListN.{length}
use Rattle.units.specs.declared.refusals.Refusal.{Refusal}
use Rattle.fields.specs.Choice.{◌when◌otherwise◌}
use Rattle.fields.proofs.Choosing.{whichever, tested}
use Rattle.frame.specs.declared.ClosingPdu.{ClosingPdu}
use Rattle.frame.specs.declared.DataPdu.{DataPdu}
use Rattle.frame.specs.declared.Read.{Read}
use Rattle.frame.specs.declared.Read.TheVariants.{Closing, Data, ClosingWithLengths, Refused as NotRead}
use Rattle.frame.specs.Reading.{read_frame}
use Rattle.frame.specs.WrongChecks.{TellsOf}
use Rattle.frame.proofs.Accepted.{no_data, no_closing, no_lengths}
use Rattle.frame.proofs.ChecksTold.{zeros_told, refusal_told}
use Rattle.reception.specs.Adding.{packet_contradicts, closing_contradicts}
use Rattle.reception.specs.Hearing.{Kept, Outcome, refuses, takes, held_by, unmatched, damaged_kept, other_key, hear_packet, hear_closing, hear_read, hear_frame, taken_paper}
use Rattle.std.specs.Prelude.{Err}
use Rattle.units.specs.declared.refusals.Refusal.TheVariants.{CapacitiesDiffer, RecordDamaged, BeyondCapacity, Contradiction, OtherSequence}

-- the refusals that are the record's, behind reading's: "13, 9, 10, 11"
pub data OfRecord : Refusal → Type 0 where
  damaged : OfRecord RecordDamaged
  other : OfRecord OtherSequence
  beyond : OfRecord BeyondCapacity
  contradicting : OfRecord Contradiction

-- reading refused nothing
abbrev pub WasRead : Read → Type 0
WasRead x = (r : Refusal) → x ≡ NotRead r → ⊥

-- what becomes of a record k and a frame that was read as x; refused, the record stays
pub data Answered (k : Kept) (x : Read) : Outcome → Type 0 where
  unmatched_lists : unmatched k ≡ true → Answered k x (refuses k CapacitiesDiffer)
  unread : (r : Refusal) → x ≡ NotRead r → Answered k x (record { answer = Err r; kept = k })
  withheld : (n : Refusal) → OfRecord n → WasRead x → Answered k x (refuses k n)
  taken : (next : Kept) → WasRead x → Answered k x (takes next)

module _ (k : Kept) (bearer period : ℕ) (x : Read) (w : WasRead x) where
  packet_answered : (d : DataPdu) → Answered k x (hear_packet k bearer period d)
  unfolding hear_packet
  packet_answered d =
      whichever (Answered k x) _ _ (other_key k.head bearer period d.stamp) (withheld _ other w)
      (λ _.
      whichever (Answered k x) _ _ (leb (length k.marks) d.number.0) (withheld _ beyond w)
      (λ _.
      whichever (Answered k x) _ _ (packet_contradicts (held_by k) d.number.0 d.elapsed.0 d.length.0) (withheld _ contradicting w) (λ _. taken _ w)))

  closing_answered : (c : ClosingPdu) → Answered k x (hear_closing k bearer period c)
  unfolding hear_closing
  closing_answered c =
      whichever (Answered k x) _ _ (other_key k.head bearer period c.stamp) (withheld _ other w)
      (λ _.
      whichever (Answered k x) _ _ (ltb (length k.marks) c.number.0) (withheld _ beyond w)
      (λ _.
      whichever (Answered k x) _ _ (closing_contradicts (held_by k) c.number.0 c.elapsed.0) (withheld _ contradicting w) (λ _. taken _ w)))

module _ (k : Kept) (bearer period : ℕ) where
  judged : (x : Read) (o : Outcome) → WasRead x → Answered k x o → Answered k x (refuses k RecordDamaged when damaged_kept k otherwise o)
  judged x o w a = whichever (Answered k x) _ _ (damaged_kept k) (withheld _ damaged w) (λ _. a)

  read_answered : (x : Read) → Answered k x (hear_read k bearer period x)
  unfolding hear_read
  read_answered (NotRead r) = unread r refl
  read_answered (Data d) =
      let w : WasRead (Data d) = λ r e. no_data d r (sym e) in
      judged (Data d) _ w (packet_answered k bearer period (Data d) w d)
  read_answered (Closing c) =
      let w : WasRead (Closing c) = λ r e. no_closing c r (sym e) in
      judged (Closing c) _ w (closing_answered k bearer period (Closing c) w c)
  read_answered (ClosingWithLengths c) =
      let w : WasRead (ClosingWithLengths c) = λ r e. no_lengths c r (sym e) in
      judged (ClosingWithLengths c) _ w (closing_answered k bearer period (ClosingWithLengths c) w c)

  pub heard_told : (f : List ℕ) → Answered k (read_frame f) (hear_frame k bearer period f)
  unfolding hear_frame
  heard_told f = tested (Answered k (read_frame f)) _ _ (unmatched k) unmatched_lists (λ _. read_answered (read_frame f))

  -- where the lists match, what reading refused is refused so
  pub handed_on : (f : List ℕ) (r : Refusal) → unmatched k ≡ false → read_frame f ≡ NotRead r
      → hear_frame k bearer period f ≡ record { answer = Err r; kept = k }
  unfolding hear_frame hear_read
  handed_on f r m e = rw (m, e) refl

-- so hearing tells of the checks of a frame what reading tells
answer_checks : (k : Kept) (f : List ℕ) (o : Outcome) → Answered k (read_frame f) o → TellsOf f (taken_paper o.answer)
unfolding taken_paper
answer_checks k f _ (unmatched_lists u) = zeros_told f 14 refl
answer_checks k f _ (unread r e) = refusal_told f r e
answer_checks k f _ (withheld _ damaged w) = zeros_told f 13 refl
answer_checks k f _ (withheld _ other w) = zeros_told f 9 refl
answer_checks k f _ (withheld _ beyond w) = zeros_told f 10 refl
answer_checks k f _ (withheld _ contradicting w) = zeros_told f 11 refl
answer_checks k f _ (taken next w) = zeros_told f 0 refl

pub heard_checks : (k : Kept) (bearer period : ℕ) (f : List ℕ) → TellsOf f (taken_paper (hear_frame k bearer period f).answer)
heard_checks k bearer period f = answer_checks k f (hear_frame k bearer period f) (heard_told k bearer period f)
