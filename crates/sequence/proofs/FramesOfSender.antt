-- The frames of a sequence are those of our sender: of one that opened the sequence and made a data call for each payload, and of its closing
-- call. So an empty record that hears them, with payloads from which the rule drops nothing, refuses none, and depends only on which it
-- heard. Assumes nothing.
use Prim.Native.Nat.{ℕ, ◌+◌, ◌≤◌}
use mathlib.Core.Path.{◌≡◌, refl, sym, ap, ◌∙◌, subst}
use mathlib.Core.Bool.{true, false}
use mathlib.Core.List.{List, [], ◌∷◌, map}
use native.Mathlib.Omega.{arith}
use lib.ListN.{length, get_or, replicate}
use borrow.Author.Tests.{le-ltb, eq-eqb}
use Rattle.units.specs.Limits.{most_in_sequence, most_period_packets, most_capacity}
use Rattle.fields.proofs.Tests.{or_no}
use Rattle.frame.specs.declared.ClosingPdu.{ClosingPdu}
use Rattle.frame.specs.Counts.{any_above, sum_of, list_wrong}
use Rattle.frame.specs.Writing.{closing_frame, lengths_frame}
use Rattle.sender.specs.declared.Sender.{Sender}
use Rattle.sender.specs.Answers.{Dispatch}
use Rattle.sender.specs.State.{damaged, is_open, closing_by}
use Rattle.sender.specs.Calls.{begins, open_call, close_call, close_with_call, data_call}
use Rattle.sender.specs.Sequence.{count_of, octets_of, closing_after, carried, after_data, frames_by}
use Rattle.sender.proofs.FramesOfSequence.{Short, Ready, zeros, counts_are, sequence_frames, sequence_closing}
use Rattle.sender.proofs.FramesOfSequence.Short.{none, more}
use Rattle.sender.proofs.RefusedOrAccepted.{OpenGoes, open_goes, close_accepted, close_with_goes}
use Rattle.sender.proofs.StaysUndamaged.{open_undamaged, data_undamaged}
use Rattle.sender.proofs.Undamaged.{undamaged, few_octets}
use Rattle.reception.specs.Hearing.{empty_kept}
use Rattle.reception.specs.Several.{hear_all, answers_to}
use Rattle.sequence.specs.Pieces.{Piece, frame_of, PieceOf, PiecesOf, NoneDropped, lengths_of, SameFrames}
use Rattle.sequence.specs.Pieces.Piece.{DataOf, PlainClosing, ListedClosing}
use Rattle.sequence.specs.Pieces.PieceOf.{with_lengths}
use Rattle.sequence.proofs.PiecesRead.{Carried, count_is, octets_are}
use Rattle.sequence.proofs.NeverRefused.{never_refused}
use Rattle.sequence.proofs.OnlyWhichFrames.{only_which_frames}
use Rattle.std.specs.Prelude.{Ok}

-- a sender whose opening of a sequence was accepted, and payloads for which it has room
pub record Opened (s : Sender) (stamp : ℕ) (ps : List (List ℕ)) : Type 0 where
  pub accepted : (open_call s stamp).answer ≡ Ok tt
  pub short : Short ps
  pub few : count_of ps ≤ most_in_sequence
  pub totals : s.packets.0 + count_of ps ≤ most_period_packets

-- data calls leave an undamaged sender
all_undamaged : (s : Sender) (ps : List (List ℕ)) → damaged s ≡ false → damaged (after_data s ps) ≡ false
unfolding after_data
all_undamaged s [] w = w
all_undamaged s (p ∷ ps) w = all_undamaged (data_call s (length p) (11 + length p)).sender ps (data_undamaged s w (length p) (11 + length p))

none_above : {ps : List (List ℕ)} → Short ps → any_above (lengths_of ps) ≡ false
unfolding any_above
none_above none = refl
none_above (more h w) = or_no (le-ltb _ _ h) (none_above w)

module _ (s : Sender) (stamp : ℕ) (ps : List (List ℕ)) (o : Opened s stamp ps) where
  abbrev told : OpenGoes s stamp
  told = (open_goes s stamp o.accepted).0

  abbrev next : (open_call s stamp).sender ≡ (begins s stamp).sender
  next = (open_goes s stamp o.accepted).1

  ready : Ready (begins s stamp).sender ps
  ready =
      let b = told in
      let z = zeros s.phase s b.rest (undamaged s b.whole).rest in
      record {
        whole = subst (λ (x : Sender). damaged x ≡ false) next (open_undamaged s b.whole stamp);
        turn = refl;
        number = omega (arith, z.0, o.few);
        packets = o.totals;
      }

  -- its sequence is within the limits
  pub opened_carried : Carried stamp s.packets.0 s.octets.0 ps
  opened_carried =
      let b = told in
      record { stamped = b.stamped; short = o.short; few = o.few; totals = o.totals; possible = few_octets s (undamaged s b.whole) }

  -- the frame of its data call number k
  pub data_frame_sent : (k : ℕ) → get_or (frames_by (open_call s stamp).sender ps) k [] ≡ frame_of stamp s.packets.0 s.octets.0 ps (DataOf k)
  unfolding frame_of
  data_frame_sent k =
      let b = told in
      ap (λ (x : Sender). get_or (frames_by x ps) k []) next
      ∙ ap (λ (fs : List (List ℕ)). get_or fs k []) (sequence_frames s stamp o.short b.whole b.rest ready)

  -- the sender when all its data calls were made
  abbrev last : Sender
  last = after_data (open_call s stamp).sender ps

  closing_said : closing_by last ≡ closing_after stamp s.packets.0 s.octets.0 ps
  closing_said =
      let b = told in
      ap (λ (x : Sender). closing_by (after_data x ps)) next ∙ sequence_closing s stamp o.short b.whole b.rest ready

  -- the frame of its closing call, of Type 0
  pub closing_frame_sent : closing_frame (closing_by (after_data (open_call s stamp).sender ps)) ≡ frame_of stamp s.packets.0 s.octets.0 ps PlainClosing
  unfolding frame_of
  closing_frame_sent = ap closing_frame closing_said

  -- and of Type 3
  pub lengths_frame_sent : (ls : List ℕ)
      → lengths_frame (closing_by (after_data (open_call s stamp).sender ps)) ls ≡ frame_of stamp s.packets.0 s.octets.0 ps (ListedClosing ls)
  unfolding frame_of
  lengths_frame_sent ls = ap (λ (x : ClosingPdu). lengths_frame x ls) closing_said

  last_whole : damaged last ≡ false
  last_whole = all_undamaged (open_call s stamp).sender ps (open_undamaged s told.whole stamp)

  last_open : is_open last.phase ≡ true
  unfolding carried
  last_open =
      ap (λ (x : Sender). is_open (after_data x ps).phase) next
      ∙ ap (λ (x : Sender). is_open x.phase) (counts_are (begins s stamp).sender o.short ready)

  -- its closing call is accepted where there is room
  pub closing_call_accepted : (room : ℕ) → 18 ≤ room → (close_call (after_data (open_call s stamp).sender ps) room).answer ≡ Ok 18
  closing_call_accepted room le =
      ap (λ (x : Dispatch). x.answer) (close_accepted last room (record { whole = last_whole; turn = last_open; fits = le }))

  -- and of Type 3 only with lengths that a piece of the sequence has
  pub lengths_call_accepted : (ls : List ℕ) (room k : ℕ) → (close_with_call (after_data (open_call s stamp).sender ps) ls room).answer ≡ Ok k
      → PieceOf ps (ListedClosing ls)
  lengths_call_accepted ls room k e =
      let g = (close_with_goes last ls room k e).0 in
      with_lengths (subst (λ (x : ClosingPdu). list_wrong ls x.number.0 x.elapsed.0 ≡ false) closing_said g.listed)

  -- such as those of its payloads
  pub own_lengths : PieceOf ps (ListedClosing (lengths_of ps))
  unfolding list_wrong
  own_lengths =
      with_lengths {ls = lengths_of ps}
      (simp (eq-eqb (length (lengths_of ps)) (count_of ps) (sym (count_is ps)), none_above o.short, eq-eqb (sum_of (lengths_of ps)) (octets_of ps) (sym (octets_are ps))))

  module _ (whole : NoneDropped ps) where
    -- an empty record of its key that hears its frames, with room for all its packets, refuses none
    pub sender_never_refused : (bearer period capacity : ℕ) (xs : List Piece) → capacity ≤ most_capacity → count_of ps ≤ capacity → PiecesOf ps xs
        → answers_to (empty_kept bearer period stamp capacity) bearer period (map (frame_of stamp s.packets.0 s.octets.0 ps) xs)
        ≡ replicate (length xs) (Ok tt)
    sender_never_refused bearer period capacity xs fits room w =
        never_refused bearer period stamp s.packets.0 s.octets.0 ps opened_carried whole capacity xs fits room w

    -- and is the same record after any two lists of them with the same packets and a closing in both or in neither
    pub sender_only_which : (bearer period capacity : ℕ) (xs ys : List Piece) → capacity ≤ most_capacity → count_of ps ≤ capacity
        → PiecesOf ps xs → PiecesOf ps ys → SameFrames xs ys
        → hear_all (empty_kept bearer period stamp capacity) bearer period (map (frame_of stamp s.packets.0 s.octets.0 ps) xs)
        ≡ hear_all (empty_kept bearer period stamp capacity) bearer period (map (frame_of stamp s.packets.0 s.octets.0 ps) ys)
    sender_only_which bearer period capacity xs ys fits room v w same =
        only_which_frames bearer period stamp s.packets.0 s.octets.0 ps opened_carried whole capacity fits room xs ys v w same
