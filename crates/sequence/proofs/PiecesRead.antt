-- Each frame of a sequence within the limits is read as what it is: the packet with its number, the octets before it and its length, if the
-- rule drops nothing from the payloads, or the closing. Assumes nothing.
use Prim.Native.Nat.{ℕ, zero, suc, ◌+◌, ◌-◌, ◌*◌, ◌≤◌, ◌<◌}
use mathlib.Core.Path.{◌≡◌, refl, ap, ap₂, ◌∙◌}
use mathlib.Core.Bool.{false}
use mathlib.Core.List.{List, [], ◌∷◌}
use native.Mathlib.Omega.{arith}
use native.Mathlib.Nat.{not-suc-le-zero}
use lib.ListN.{length, get_or, length-map, get_or-map}
use borrow.Author.Tests.{le-ltb, lt-leb}
use Rattle.units.specs.Limits.{most_payload, most_in_sequence, most_period_packets, last_stamp}
use Rattle.frame.specs.declared.DataPdu.{DataPdu}
use Rattle.frame.specs.declared.Read.TheVariants.{Closing, Data, ClosingWithLengths}
use Rattle.frame.specs.Counts.{data_wrong, closing_wrong, sum_of, list_wrong}
use Rattle.frame.specs.Layout.{data_pdu}
use Rattle.frame.specs.Payloads.{AllPayload}
use Rattle.frame.specs.Reading.{read_frame}
use Rattle.frame.specs.Writing.{data_frame}
use Rattle.frame.proofs.Fitting.{Fits}
use Rattle.frame.proofs.LengthsBack.{lengths_back}
use Rattle.frame.proofs.ReadBack.{data_back_whole, closing_back}
use Rattle.sender.specs.Sequence.{data_frames, count_of, octets_of, closing_after}
use Rattle.sender.proofs.FramesOfSequence.{Short}
use Rattle.sender.proofs.FramesOfSequence.Short.{none, more}
use Rattle.reception.specs.Sendings.{Sending}
use Rattle.reception.proofs.Points.{all_short}
use Rattle.reception.proofs.SumsBefore.{before, before_start, before_end, climb}
use Rattle.sequence.specs.Pieces.{frame_of, NoneDropped, lengths_of}
use Rattle.sequence.specs.Pieces.NoneDropped.{none as no_more, more as one_more}
use Rattle.sequence.specs.Pieces.Piece.{DataOf, PlainClosing, ListedClosing}

-- a sequence that the sender carries: a stamp and payloads within the limits, and totals of the period that are possible
pub record Carried (stamp packets octets : ℕ) (ps : List (List ℕ)) : Type 0 where
  pub stamped : stamp ≤ last_stamp
  pub short : Short ps
  pub few : count_of ps ≤ most_in_sequence
  pub totals : packets + count_of ps ≤ most_period_packets
  pub possible : octets ≤ most_payload * packets

-- the sender's counts are those of the list of lengths
pub count_is : (ps : List (List ℕ)) → count_of ps ≡ length (lengths_of ps)
unfolding count_of
count_is [] = refl
count_is (p ∷ ps) = omega (arith, count_is ps)

pub octets_are : (ps : List (List ℕ)) → octets_of ps ≡ sum_of (lengths_of ps)
unfolding octets_of sum_of
octets_are [] = refl
octets_are (p ∷ ps) = omega (arith, octets_are ps)

pub length_at_lem : (ps : List (List ℕ)) (k : ℕ) → get_or (lengths_of ps) k 0 ≡ length (get_or ps k [])
length_at_lem ps k = get_or-map length ps k []

pub short_at : {ps : List (List ℕ)} → Short ps → (k : ℕ) → k < length (lengths_of ps) → get_or (lengths_of ps) k 0 ≤ most_payload
short_at none k lt = absurd (not-suc-le-zero lt)
short_at (more h w) zero lt = h
short_at (more h w) (suc k) lt = short_at w k (omega arith)

all_at : {ps : List (List ℕ)} → NoneDropped ps → (k : ℕ) → k < length ps → AllPayload (get_or ps k [])
all_at no_more k lt = absurd (not-suc-le-zero lt)
all_at (one_more h w) zero lt = h
all_at (one_more h w) (suc k) lt = all_at w k (omega arith)

-- the lengths of its payloads are a sending
pub carried_sending : (stamp packets octets : ℕ) (ps : List (List ℕ)) → Carried stamp packets octets ps → Sending (lengths_of ps)
carried_sending stamp packets octets ps c = record { few = rw (← count_is ps) c.few; short = short_at c.short }

-- packet k of it, and its closing
abbrev pub data_of : ℕ → List (List ℕ) → ℕ → DataPdu
data_of stamp ps k =
    data_pdu stamp k (before (lengths_of ps) k) (get_or (lengths_of ps) k 0)

same_data : (stamp n m e d : ℕ) (p : List ℕ) → n ≡ m → e ≡ d → data_frame stamp n e p ≡ data_frame stamp m d p
same_data stamp n m e d p h g = ap₂ (λ (x y : ℕ). data_frame stamp x y p) h g

-- the data frames one by one
nth_data : (stamp n e : ℕ) (ps : List (List ℕ)) (k : ℕ) → k < length ps
    → get_or (data_frames stamp n e ps) k [] ≡ data_frame stamp (n + k) (e + before (lengths_of ps) k) (get_or ps k [])
unfolding data_frames sum_of
nth_data stamp n e [] k lt = absurd (not-suc-le-zero lt)
nth_data stamp n e (p ∷ ps) zero lt = same_data stamp n (n + 0) e (e + 0) p (omega arith) (omega arith)
nth_data stamp n e (p ∷ ps) (suc k) lt =
    nth_data stamp (n + 1) (e + length p) ps k (omega arith)
    ∙ same_data stamp (n + 1 + k) (n + suc k) (e + length p + before (lengths_of ps) k) (e + (length p + before (lengths_of ps) k)) (get_or ps k [])
    (omega arith) (omega arith)

pub data_frame_is : (stamp packets octets : ℕ) (ps : List (List ℕ)) (k : ℕ) → k < length ps
    → frame_of stamp packets octets ps (DataOf k) ≡ data_frame stamp k (before (lengths_of ps) k) (get_or ps k [])
unfolding frame_of
data_frame_is stamp packets octets ps k lt =
    nth_data stamp 0 0 ps k lt
    ∙ same_data stamp (0 + k) k (0 + before (lengths_of ps) k) (before (lengths_of ps) k) (get_or ps k []) (omega arith) (omega arith)

module _ (stamp packets octets : ℕ) (ps : List (List ℕ)) (c : Carried stamp packets octets ps) where
  -- no more octets before packet k than 4,095 for each
  before_most : (k : ℕ) → before (lengths_of ps) k ≤ most_payload * k
  before_most k =
      let up = climb (lengths_of ps) (all_short (lengths_of ps) (carried_sending stamp packets octets ps c)) 0 k (omega arith) in
      omega (arith, up.1, before_start (lengths_of ps))

  pub data_possible : (k : ℕ) → k < length ps → data_wrong k (before (lengths_of ps) k) ≡ false
  unfolding data_wrong
  data_possible k lt =
      let few = c.few in
      let up = before_most k in
      simp (lt-leb most_in_sequence k (omega (arith, count_is ps, length-map ps length)), le-ltb (most_payload * k) (before (lengths_of ps) k) up)

  pub data_read : NoneDropped ps → (k : ℕ) → k < length ps → read_frame (frame_of stamp packets octets ps (DataOf k)) ≡ Data (data_of stamp ps k)
  data_read whole k lt =
      let small : length (get_or ps k []) ≤ most_payload = rw (length_at_lem ps k) at (short_at c.short k (rw (length-map ps length) lt)) in
      ap read_frame (data_frame_is stamp packets octets ps k lt)
      ∙ data_back_whole stamp k (before (lengths_of ps) k) (get_or ps k []) c.stamped small (data_possible k lt) (all_at whole k lt)
      ∙ rw (length_at_lem ps k)

  closing_fits : Fits (closing_after stamp packets octets ps)
  unfolding closing_wrong
  closing_fits =
      let n = c.few in
      let m = c.totals in
      let o = c.possible in
      let t : octets_of ps ≤ most_payload * count_of ps =
      rw (count_is ps, octets_are ps, ← before_end (lengths_of ps)) (before_most (length (lengths_of ps)))
      in
      record {
        number = omega arith;
        elapsed = omega arith;
        packets = omega arith;
        octets = omega arith;
        counts =
            simp (le-ltb (most_payload * count_of ps) (octets_of ps) t, le-ltb (packets + count_of ps) (count_of ps) (omega arith), le-ltb (octets + octets_of ps) (octets_of ps) (omega arith))
            (le-ltb (most_payload * (packets + count_of ps - count_of ps)) (octets + octets_of ps - octets_of ps) (omega arith));
      }

  pub closing_read : read_frame (frame_of stamp packets octets ps PlainClosing) ≡ Closing (closing_after stamp packets octets ps)
  unfolding frame_of
  closing_read = closing_back (closing_after stamp packets octets ps) c.stamped closing_fits

  pub lengths_read : (ls : List ℕ) → list_wrong ls (count_of ps) (octets_of ps) ≡ false
      → read_frame (frame_of stamp packets octets ps (ListedClosing ls)) ≡ ClosingWithLengths (closing_after stamp packets octets ps)
  unfolding frame_of
  lengths_read ls w = lengths_back (closing_after stamp packets octets ps) ls c.stamped closing_fits w
