-- Frames heard one after another as a loop goes: what is left to hear from the record as it is leads to the same end. Assumes nothing.
use Prim.Native.Nat.{ℕ, suc, ◌+◌, ◌-◌, ◌≤◌, ◌<◌}
use mathlib.Core.Path.{◌≡◌, refl, sym, ap, ◌∙◌}
use mathlib.Core.List.{List, [], ◌∷◌, ◌++◌, map, append-nil}
use native.Mathlib.Numerals.{add-one}
use native.Mathlib.Omega.{arith}
use lib.ListN.{length, get_or, take, drop, set, length-set, take-append-drop, drop_of_length-le}
use lib.Seq.{drop-cons, take-suc-set, drop-set-lt, append_snoc}
use Rattle.units.specs.OneNumber.{refusal_in_one}
use Rattle.fields.specs.Runs.{front}
use Rattle.frame.specs.Paper.{CountPaper}
use Rattle.reception.specs.declared.Head.{Head}
use Rattle.reception.specs.Hearing.{Kept, kept_in, hear_frame}
use Rattle.reception.specs.Neighbours.{NoneBefore, NoneFrom}
use Rattle.reception.specs.Several.{hear_all, answers_to, answer_of, frames_in}
use Rattle.reception.proofs.HearingUndamaged.{stays_sound}
use Rattle.reception.proofs.WhatHearingAdds.{Sound}
use Rattle.hearing.specs.declared.following.Following.{Following}
use Rattle.hearing.specs.Following.{Follows}
use Rattle.several.specs.Rest.{HearsAll}

-- the answers to what is left, each in one number
abbrev answers_left : Kept → ℕ → ℕ → List ℕ → ℕ → List ℕ → List ℕ
answers_left k bearer period octets from ends = map answer_of (answers_to k bearer period (frames_in octets from ends))

module _ (bearer period : ℕ) (octets ends : List ℕ) where
  -- as many answers as frames
  as_many : (k : Kept) (from : ℕ) (es : List ℕ) → length (answers_left k bearer period octets from es) ≡ length es
  unfolding frames_in answers_to
  as_many k from [] = refl
  as_many k from (e ∷ es) = ap suc (as_many (hear_frame k bearer period (take (e - from) (drop from octets))).kept e es)

  -- i frames were heard, and what follows begins at a place
  pub record HeardSoFar (k₀ : Kept) (old : List ℕ) (head : Head) (marks elapsed sizes answers : List ℕ) (first end from i : ℕ) : Type 0 where
    pub sound : Sound (kept_in head marks elapsed sizes)
    pub before : NoneBefore marks first
    pub from_end : NoneFrom marks end
    pub here : i ≤ length ends
    pub room : length ends ≤ length answers
    pub marks_long : length marks ≡ length k₀.marks
    pub elapsed_long : length elapsed ≡ length k₀.elapsed
    pub sizes_long : length sizes ≡ length k₀.sizes
    pub answers_long : length answers ≡ length old
    pub leads : hear_all k₀ bearer period (frames_in octets 0 ends) ≡ hear_all (kept_in head marks elapsed sizes) bearer period (frames_in octets from (drop i ends))
    pub tells : take i answers ++ answers_left (kept_in head marks elapsed sizes) bearer period octets from (drop i ends) ++ drop (length ends) answers
        ≡ answers_left k₀ bearer period octets 0 ends ++ drop (length ends) old

  pub none_yet : (h : Head) (marks elapsed sizes answers : List ℕ) (first end : ℕ) → Sound (kept_in h marks elapsed sizes) → NoneBefore marks first → NoneFrom marks end
      → length ends ≤ length answers → HeardSoFar (kept_in h marks elapsed sizes) answers h marks elapsed sizes answers first end 0 0
  none_yet h marks elapsed sizes answers first end s o f le =
      record {
        sound = s;
        before = o;
        from_end = f;
        here = omega arith;
        room = le;
        marks_long = refl;
        elapsed_long = refl;
        sizes_long = refl;
        answers_long = refl;
        leads = refl;
        tells = refl;
      }

  -- the frame that is next in the row
  abbrev next_frame : ℕ → ℕ → List ℕ
  next_frame from i = take (get_or ends i 0 - from) (drop from octets)

  -- it is the first of what is left
  left_is : (from i : ℕ) → i < length ends → frames_in octets from (drop i ends) ≡ next_frame from i ∷ frames_in octets (get_or ends i 0) (drop (i + 1) ends)
  unfolding frames_in
  left_is from i lt = rw (drop-cons ends i 0 lt, add-one i) refl

  leads_on : (k : Kept) (from i : ℕ) → i < length ends
      → hear_all k bearer period (frames_in octets from (drop i ends))
      ≡ hear_all (hear_frame k bearer period (next_frame from i)).kept bearer period (frames_in octets (get_or ends i 0) (drop (i + 1) ends))
  unfolding hear_all
  leads_on k from i lt = rw (left_is from i lt) refl

  tells_on : (k : Kept) (from i : ℕ) → i < length ends
      → answers_left k bearer period octets from (drop i ends)
      ≡ answer_of (hear_frame k bearer period (next_frame from i)).answer
      ∷ answers_left (hear_frame k bearer period (next_frame from i)).kept bearer period octets (get_or ends i 0) (drop (i + 1) ends)
  unfolding answers_to
  tells_on k from i lt = rw (left_is from i lt) refl

  -- one answer more in front of what is left
  stored : (answers rest : List ℕ) (i n : ℕ) → i < length ends → length ends ≤ length answers
      → take (i + 1) (set answers i n) ++ rest ++ drop (length ends) (set answers i n) ≡ take i answers ++ (n ∷ rest) ++ drop (length ends) answers
  stored answers rest i n lt le =
      rw (add-one i, take-suc-set answers i n (omega arith), drop-set-lt (length ends) answers i n lt, append_snoc (take i answers) n rest) refl

  module _ (k₀ : Kept) (old : List ℕ) (head : Head) (marks elapsed sizes answers : List ℕ) (first end from i : ℕ)
      (g : HeardSoFar k₀ old head marks elapsed sizes answers first end from i) where
    -- one frame more
    module _ (lt : i < length ends) (f : List ℕ) (e : f ≡ next_frame from i) (r : Following) (marks' elapsed' sizes' : List ℕ)
        (p : Follows (hear_frame (kept_in head marks elapsed sizes) bearer period f) r marks' elapsed' sizes') (n : ℕ) (q : n ≡ answer_of r.answer) where
      row : n ∷ answers_left (kept_in r.head marks' elapsed' sizes') bearer period octets (get_or ends i 0) (drop (i + 1) ends)
          ≡ answers_left (kept_in head marks elapsed sizes) bearer period octets from (drop i ends)
      row =
          let a : n ≡ answer_of (hear_frame (kept_in head marks elapsed sizes) bearer period f).answer = q ∙ ap (λ (x : CountPaper). refusal_in_one x.number x.found x.worked) p.taken.says in
          rw (a, p.taken.leaves, e) (sym (tells_on (kept_in head marks elapsed sizes) from i lt))

      one_more : length marks' ≡ length marks → length elapsed' ≡ length elapsed → length sizes' ≡ length sizes
          → HeardSoFar k₀ old r.head marks' elapsed' sizes' (set answers i n) r.span.first r.span.end (get_or ends i 0) (i + 1)
      one_more ml el sl =
          record {
            sound = rw p.taken.leaves (stays_sound (kept_in head marks elapsed sizes) bearer period f g.sound);
            before = p.before;
            from_end = p.from_end;
            here = omega arith;
            room = let l = length-set answers i n in let le = g.room in omega (arith, l, le);
            marks_long = ml ∙ g.marks_long;
            elapsed_long = el ∙ g.elapsed_long;
            sizes_long = sl ∙ g.sizes_long;
            answers_long = length-set answers i n ∙ g.answers_long;
            leads = g.leads ∙ leads_on (kept_in head marks elapsed sizes) from i lt ∙ rw (sym e, p.taken.leaves) refl;
            tells =
                stored answers _ i n lt g.room
                ∙ ap (λ (xs : List ℕ). take i answers ++ xs ++ drop (length ends) answers) row
                ∙ g.tells;
          }

    -- where the place of its end was read before
    pub one_more_at : i < length ends → (stop : ℕ) → stop ≡ get_or ends i 0 → (f : List ℕ) → f ≡ take (stop - from) (drop from octets)
        → (r : Following) (marks' elapsed' sizes' : List ℕ) → Follows (hear_frame (kept_in head marks elapsed sizes) bearer period f) r marks' elapsed' sizes'
        → (n : ℕ) → n ≡ answer_of r.answer → length marks' ≡ length marks → length elapsed' ≡ length elapsed → length sizes' ≡ length sizes
        → HeardSoFar k₀ old r.head marks' elapsed' sizes' (set answers i n) r.span.first r.span.end stop (i + 1)
    one_more_at lt stop w f e r marks' elapsed' sizes' p n q ml el sl =
        rw w (one_more lt f (rw w at e) r marks' elapsed' sizes' p n q ml el sl)

    -- all of them
    pub all_heard : length ends ≤ i → HearsAll k₀ bearer period (frames_in octets 0 ends) old head marks elapsed sizes answers
    unfolding frames_in hear_all answers_to front
    all_heard le =
        let none = drop_of_length-le ends le in
        let same : i ≡ length ends = omega (arith, g.here) in
        let t : take (length ends) answers ++ drop (length ends) answers ≡ answers_left k₀ bearer period octets 0 ends ++ drop (length ends) old =
        rw (none, same, append-nil) at g.tells
        in
        record {
          leaves = sym (rw none at g.leads);
          answers = sym (take-append-drop (length ends) answers) ∙ t ∙ rw (sym (as_many k₀ 0 ends)) refl;
        }
