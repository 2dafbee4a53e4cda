-- How the answers of a sender's calls meet the promises. Assumes nothing.
use Prim.Native.Nat.{ℕ}
use mathlib.Core.Path.{◌≡◌, refl, ap, ◌∙◌}
use mathlib.Core.List.{List}
use native.Mathlib.Omega.{arith}
use lib.ListN.{length}
use Rattle.units.specs.declared.refusals.Refusal.{Refusal}
use Rattle.fields.proofs.Choosing.{whatever}
use Rattle.frame.specs.Answers.{Written}
use Rattle.frame.specs.Paper.{written_paper}
use Rattle.frame.proofs.OnePaper.{written_known}
use Rattle.frame.specs.Writing.{after}
use Rattle.sender.specs.declared.Sender.{Sender}
use Rattle.sender.specs.Answers.{Dispatch, Turned, Turning}
use Rattle.sender.specs.State.{damaged}
use Rattle.sender.specs.Calls.{open_call, renew_call, data_call, close_call, close_with_call, turned_paper, Turns, Sends}
use Rattle.sender.proofs.OnePaper.{turned_known}
use Rattle.sender.proofs.RefusedOrAccepted.{data_comes, close_comes, close_with_comes}
use Rattle.sender.proofs.Undamaged.{undamaged}
use Rattle.numbers.specs.Answers.{in_one, number_told}
use Rattle.numbers_state.specs.States.{no_state, sender_of, with_state}
use Rattle.numbers_sender.specs.Senders.{state_after, TurnsState, SendsState}
use Rattle.numbers.proofs.InOne.{Few, lengths_few}
use Rattle.std.specs.Prelude.{Result, Ok, Err, MatchResult}
use Rattle.units.specs.declared.refusals.Refusal.TheVariants.{SenderDamaged}
use mathlib.Core.Bool.{true, false}
use mathlib.Core.Logic.{⊎_elim}
use lib.Dec.{ltb}
use Rattle.fields.proofs.Tests.{either}

-- no frame that the sender writes has more octets than can be answered
abbrev pub FewSent : Dispatch → Type 0
FewSent t = Few t.answer

pub few_sent : (s : Sender) (l room : ℕ) → FewSent (data_call s l room)
unfolding written_paper
few_sent s l room = whatever FewSent (data_comes s l room) (λ _. omega arith) (λ g. omega (arith, g.short))

pub few_closed : (s : Sender) (room : ℕ) → FewSent (close_call s room)
unfolding written_paper
few_closed s room = whatever FewSent (close_comes s room) (λ _. omega arith) (λ _. omega arith)

pub few_closed_with : (s : Sender) (ls : List ℕ) (room : ℕ) → FewSent (close_with_call s ls room)
unfolding written_paper
few_closed_with s ls room =
    whatever FewSent (close_with_comes s ls room) (λ _. omega arith)
    (λ g. lengths_few ls s.number.0 s.elapsed.0 g.listed (undamaged s g.whole).number)

-- a list too short for a state says a damaged sender
module _ (old : List ℕ) (h : ltb (length old) 6 ≡ true) where
  none_said : damaged (sender_of old) ≡ true
  unfolding sender_of no_state damaged
  none_said = rw h refl

  pub short_open : (stamp : ℕ) → (open_call (sender_of old) stamp).answer ≡ Err SenderDamaged
  unfolding open_call
  short_open stamp = rw none_said refl

  pub short_renew : (renew_call (sender_of old)).answer ≡ Err SenderDamaged
  unfolding renew_call
  short_renew = rw none_said refl

  pub short_data : (l room : ℕ) → (data_call (sender_of old) l room).answer ≡ Err SenderDamaged
  unfolding data_call
  short_data l room = rw none_said refl

  pub short_close : (room : ℕ) → (close_call (sender_of old) room).answer ≡ Err SenderDamaged
  unfolding close_call
  short_close room = rw none_said refl

  pub short_close_with : (ls : List ℕ) (room : ℕ) → (close_with_call (sender_of old) ls room).answer ≡ Err SenderDamaged
  unfolding close_with_call
  short_close_with ls room = rw none_said refl

-- what a list holds after a call
abbrev Kept : {T : Type 0} → Result T Refusal → List ℕ → List ℕ → Sender → Type 0
Kept a old new s = MatchResult a (λ _. new ≡ with_state old s) (λ _. new ≡ old)

kept_in_room : {T : Type 0} (a : Result T Refusal) (old new : List ℕ) (s : Sender) → ltb (length old) 6 ≡ false → Kept a old new s → new ≡ state_after a old s
kept_in_room (Ok x) old new s q k = k ∙ rw q refl
kept_in_room (Err r) old new s q k = k

told : (a : Turned) → number_told a ≡ (turned_paper a).number
unfolding turned_paper
told (Ok u) = refl
told (Err r) = refl

pub turned : (old new : List ℕ) (t r : Turning) (a : Turned) (x : ℕ) → (ltb (length old) 6 ≡ true → t.answer ≡ Err SenderDamaged) → Turns t r → x ≡ number_told a
    → a ≡ r.answer → Kept r.answer old new r.sender → TurnsState old t x new
turned old new t r a x h p e f k =
    let same = turned_known r.answer t.answer p.says in
    let n : x ≡ number_told t.answer = e ∙ ap number_told (f ∙ same) in
    let kept : Kept t.answer old new t.sender = rw (same, p.next) at k in
    ⊎_elim (λ (q : ltb (length old) 6 ≡ true).
    let g = h q in
    record { says = n ∙ rw (q, g) refl; leaves_state = (rw g at kept) ∙ rw q refl })
    (λ (q : ltb (length old) 6 ≡ false).
    record { says = n ∙ rw q (told t.answer); leaves_state = rw q (kept_in_room _ _ _ _ q kept) })
    (either (ltb (length old) 6))

pub sent : (old new : List ℕ) (t r : Dispatch) (frame out out' : List ℕ) (a : Written) (x : ℕ) → (ltb (length old) 6 ≡ true → t.answer ≡ Err SenderDamaged)
    → Sends t frame out r out' → x ≡ in_one (written_paper a) → a ≡ r.answer → Kept r.answer old new r.sender → SendsState old t frame out x new out'
unfolding in_one written_paper after
sent old new t r frame out out' a x h p e f k =
    let same = written_known r.answer t.answer p.says in
    let n : x ≡ in_one (written_paper t.answer) = e ∙ ap (λ (y : Written). in_one (written_paper y)) (f ∙ same) in
    let kept : Kept t.answer old new t.sender = rw (same, p.next) at k in
    ⊎_elim (λ (q : ltb (length old) 6 ≡ true).
    let g = h q in
    record { says = n ∙ rw (q, g) refl; leaves_state = (rw g at kept) ∙ rw q refl; leaves_out = p.leaves ∙ rw (q, g) refl })
    (λ (q : ltb (length old) 6 ≡ false).
    record { says = n ∙ rw q refl; leaves_state = rw q (kept_in_room _ _ _ _ q kept); leaves_out = p.leaves ∙ rw q refl })
    (either (ltb (length old) 6))
