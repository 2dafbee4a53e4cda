-- Every call that reads a frame tells of its checks, many frames at once too. Assumes nothing.
use Prim.Native.Nat.{ℕ}
use mathlib.Core.Path.{◌≡◌, refl, sym, ap, subst, ◌∙◌}
use mathlib.Core.Bool.{false}
use mathlib.Core.List.{List, [], ◌∷◌, ◌++◌, map}
use lib.Dec.{ltb}
use lib.ListN.{length, drop}
use borrow.Author.Tests.{ltb-false}
use Rattle.units.specs.declared.refusals.Refusal.{Refusal}
use Rattle.units.specs.Limits.{last_stamp}
use Rattle.fields.specs.Runs.{front}
use Rattle.fields.proofs.Choosing.{whichever, tested}
use Rattle.frame.specs.declared.Read.{Read}
use Rattle.frame.specs.declared.Read.TheVariants.{Closing, Data, ClosingWithLengths, Refused as NotRead}
use Rattle.frame.specs.Answers.{Listed}
use Rattle.frame.specs.Listing.{list_lengths}
use Rattle.frame.specs.Paper.{listed_paper}
use Rattle.frame.specs.Reading.{read_frame}
use Rattle.frame.specs.WrongChecks.{TellsOf}
use Rattle.frame.proofs.ChecksTold.{zeros_told, refusal_told}
use Rattle.frame.proofs.OnePaper.{listed_known}
use Rattle.reader.specs.Lists.{Lists}
use Rattle.reception.specs.Answers.{Taken, Taking}
use Rattle.reception.specs.Hearing.{Kept, Outcome, unmatched, empty_kept, hear_frame, taken_paper, Takes}
use Rattle.reception.specs.Several.{answer_of, answers_to, answers_after, hear_sequence}
use Rattle.reception.proofs.HeardTold.{handed_on, heard_checks}
use Rattle.reception.proofs.HearingUndamaged.{empty_sound, stays_sound}
use Rattle.reception.proofs.KeptAsHeld.{lists_matched}
use Rattle.reception.proofs.OnePaper.{taken_known}
use Rattle.reception.proofs.WhatHearingAdds.{Sound}
use Rattle.several.specs.Rest.{HearsSequence}
use Rattle.demands.specs.Demand1.{EachTold}
use Rattle.demands.specs.Demand1.EachTold.{none, told}
use Rattle.demands.proofs.Refusals.{accepted_of, no_zero}
use Rattle.demands.proofs.RecordRefusals.{hear_leaves}
use Rattle.std.specs.Prelude.{Ok, Err}

-- lengths
listing_tells : (s : List ℕ) (x : Read) → read_frame s ≡ x → (room : ℕ) → TellsOf s (listed_paper (list_lengths x room))
unfolding list_lengths listed_paper
listing_tells s (NotRead r) e room = refusal_told s r e
listing_tells s (Closing c) e room = zeros_told s 0 refl
listing_tells s (Data d) e room = zeros_told s 0 refl
listing_tells s (ClosingWithLengths c) e room =
    whichever (λ (a : Listed). TellsOf s (listed_paper a)) _ _ (ltb room c.number.0) (zeros_told s 12 refl) (λ _. zeros_told s 0 refl)

pub lists_tell : (s old : List ℕ) (r : Listed) (new : List ℕ) → Lists s old r new → TellsOf s (listed_paper r)
lists_tell s old r new w = subst (TellsOf s) (sym w.says) (listing_tells s (read_frame s) refl (length old))

pub lists_hand_on : (s old : List ℕ) (r : Listed) (new : List ℕ) → Lists s old r new → (q : Refusal) → read_frame s ≡ NotRead q → r ≡ Err q
unfolding list_lengths
lists_hand_on s old r new w q e = listed_known r _ w.says ∙ rw e refl

-- a frame heard
pub takes_tell : (k : Kept) (bearer period : ℕ) (f : List ℕ) (r : Taking) (m e s : List ℕ) → Takes (hear_frame k bearer period f) r m e s
    → TellsOf f (taken_paper r.answer)
takes_tell k bearer period f r m e s w = subst (TellsOf f) (sym w.says) (heard_checks k bearer period f)

pub takes_hand_on : (k : Kept) (bearer period : ℕ) (f : List ℕ) (r : Taking) (m e s : List ℕ) → Takes (hear_frame k bearer period f) r m e s
    → unmatched k ≡ false → (q : Refusal) → read_frame f ≡ NotRead q → r.answer ≡ Err q
takes_hand_on k bearer period f r m e s w u q p = taken_known r.answer _ w.says ∙ ap (λ (o : Outcome). o.answer) (handed_on k bearer period f q u p)

-- many frames heard, into a record that is sound and stays so
all_tell : (k : Kept) (bearer period : ℕ) → Sound k → (frames : List (List ℕ)) (rest : List ℕ)
    → EachTold frames (map answer_of (answers_to k bearer period frames) ++ rest)
unfolding answers_to
all_tell k bearer period s [] rest = none
all_tell k bearer period s (f ∷ fs) rest =
    let o = hear_frame k bearer period f in
    told o.answer (hear_leaves k bearer period f).0 (heard_checks k bearer period f)
    (λ q e. ap (λ (x : Outcome). x.answer) (handed_on k bearer period f q s.matched e)) (all_tell o.kept bearer period (stays_sound k bearer period f s) fs rest)

-- an accepted call made an empty record
pub sequence_sound : (bearer period stamp : ℕ) (old : Kept) (frames : List (List ℕ)) (room : ℕ)
    → (taken_paper (hear_sequence bearer period stamp old frames room).answer).accepted ≡ 1 → Sound (empty_kept bearer period stamp (length old.marks))
unfolding hear_sequence taken_paper
sequence_sound bearer period stamp old frames room =
    tested Accepts _ _ (unmatched old) (λ _ z. no_zero (sym z))
    (λ u.
    tested Accepts _ _ (ltb last_stamp stamp) (λ _ z. no_zero (sym z))
    (λ h.
    whichever Accepts _ _ (ltb room (length frames)) (λ z. no_zero (sym z))
    (λ _ _. empty_sound bearer period stamp (length old.marks) (ltb-false last_stamp stamp h) (lists_matched old.marks old.elapsed old.sizes u).room)))
  where
    Accepts : Outcome → Type 0
    Accepts o = (taken_paper o.answer).accepted ≡ 1 → Sound (empty_kept bearer period stamp (length old.marks))

in_front : (a : Taken) (ts : List Taken) (old : List ℕ) → (taken_paper a).accepted ≡ 1 → answers_after a ts old ≡ front old (map answer_of ts)
unfolding taken_paper
in_front (Ok u) ts old e = refl
in_front (Err r) ts old e = no_zero (sym e)

-- the list that an accepted call leaves
pub each_told_in : (bearer period : ℕ) (k : Kept) → Sound k → (frames : List (List ℕ)) (a : Taken) (answers new : List ℕ) → (taken_paper a).accepted ≡ 1
    → new ≡ answers_after a (answers_to k bearer period frames) answers → EachTold frames new
unfolding front
each_told_in bearer period k s frames a answers new z l =
    let ts = answers_to k bearer period frames in
    let q : new ≡ map answer_of ts ++ drop (length (map answer_of ts)) answers = l ∙ in_front a ts answers z in
    subst (EachTold frames) (sym q) (all_tell k bearer period s frames _)

pub each_tells : (bearer period stamp : ℕ) (old : Kept) (frames : List (List ℕ)) (answers : List ℕ) (r : Taking) (m e s new : List ℕ)
    → HearsSequence (hear_sequence bearer period stamp old frames (length answers))
    (answers_to (empty_kept bearer period stamp (length old.marks)) bearer period frames) answers r m e s new
    → (taken_paper r.answer).accepted ≡ 1 → EachTold frames new
each_tells bearer period stamp old frames answers r m e s new w z =
    let a = sym (ap accepted_of w.taken.says) ∙ z in
    each_told_in bearer period _ (sequence_sound bearer period stamp old frames (length answers) a) frames _ answers new a w.answers
