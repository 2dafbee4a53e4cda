-- Demand 1 of the sender: a refused call carries one of its numbers, and leaves sender and memory as they were. Assumes nothing.
use Prim.Native.Nat.{ℕ, ◌+◌}
use mathlib.Core.Path.{◌≡◌, refl, sym, ap, ◌∙◌}
use mathlib.Core.Bool.{true, not}
use mathlib.Core.List.{List}
use lib.Dec.{ltb, leb}
use lib.ListN.{length}
use Rattle.units.specs.Limits.{last_stamp, most_payload, most_in_sequence, most_period_packets}
use Rattle.fields.proofs.Choosing.{whichever}
use Rattle.frame.specs.Counts.{list_wrong}
use Rattle.frame.specs.Layout.{filled}
use Rattle.frame.specs.Paper.{written_paper}
use Rattle.frame.specs.Sizes.{data_head, closing_size, lengths_head}
use Rattle.sender.specs.declared.Sender.{Sender}
use Rattle.sender.specs.Answers.{Dispatch, Turning}
use Rattle.sender.specs.State.{damaged, is_open, not_later}
use Rattle.sender.specs.Calls.{turned_paper, open_call, renew_call, data_call, close_call, close_with_call, Turns, Sends}
use Rattle.demands.specs.Demand1.{among, carries_as, of_opening, of_new_period, of_data, of_closing, of_closing_lengths, SendsOn, TurnsOn}
use Rattle.demands.proofs.Refusals.{accepted_of, none_written, WriteCarries}

-- calls that write nothing
abbrev TurnCarries : List ℕ → Turning → Type 0
TurnCarries numbers t = carries_as numbers (turned_paper t.answer) ≡ true

pub turns_carry : (numbers : List ℕ) (s : Sender) (t r : Turning) → TurnCarries numbers t → ((turned_paper t.answer).accepted ≡ 0 → t.sender ≡ s)
    → Turns t r → TurnsOn numbers s r
turns_carry numbers s t r c k w = (rw w.says c, λ z. w.next ∙ k (sym (ap accepted_of w.says) ∙ z))

pub open_carries : (s : Sender) (stamp : ℕ) → TurnCarries of_opening (open_call s stamp)
unfolding open_call turned_paper among
open_carries s stamp =
    whichever (TurnCarries of_opening) _ _ (damaged s) refl
    (λ _.
    whichever (TurnCarries of_opening) _ _ (is_open s.phase) refl
    (λ _.
    whichever (TurnCarries of_opening) _ _ (ltb last_stamp stamp) refl
    (λ _. whichever (TurnCarries of_opening) _ _ (not_later s.phase s stamp) refl (λ _. refl))))

pub renew_carries : (s : Sender) → TurnCarries of_new_period (renew_call s)
unfolding renew_call turned_paper among
renew_carries s =
    whichever (TurnCarries of_new_period) _ _ (damaged s) refl (λ _. whichever (TurnCarries of_new_period) _ _ (is_open s.phase) refl (λ _. refl))

-- calls that write a frame
abbrev SendCarries : List ℕ → Dispatch → Type 0
SendCarries numbers t = WriteCarries numbers t.answer

pub sends_carry : (numbers : List ℕ) (s : Sender) (t : Dispatch) (frame old : List ℕ) (r : Dispatch) (new : List ℕ)
    → SendCarries numbers t → ((written_paper t.answer).accepted ≡ 0 → t.sender ≡ s) → Sends t frame old r new → SendsOn numbers s r old new
sends_carry numbers s t frame old r new c k w = (
  rw w.says c,
  λ z. let a = sym (ap accepted_of w.says) ∙ z in (w.next ∙ k a, w.leaves ∙ none_written t.answer frame old a),
)

pub sent_carries : (s : Sender) (l room : ℕ) → SendCarries of_data (data_call s l room)
unfolding data_call written_paper among
sent_carries s l room =
    whichever (SendCarries of_data) _ _ (damaged s) refl
    (λ _.
    whichever (SendCarries of_data) _ _ (not (is_open s.phase)) refl
    (λ _.
    whichever (SendCarries of_data) _ _ (ltb most_payload l) refl
    (λ _.
    whichever (SendCarries of_data) _ _ (leb most_in_sequence s.number.0) refl
    (λ _.
    whichever (SendCarries of_data) _ _ (leb most_period_packets s.packets.0) refl
    (λ _. whichever (SendCarries of_data) _ _ (ltb room (data_head + l)) refl (λ _. refl))))))

pub closed_carries : (s : Sender) (room : ℕ) → SendCarries of_closing (close_call s room)
unfolding close_call written_paper among
closed_carries s room =
    whichever (SendCarries of_closing) _ _ (damaged s) refl
    (λ _.
    whichever (SendCarries of_closing) _ _ (not (is_open s.phase)) refl
    (λ _. whichever (SendCarries of_closing) _ _ (ltb room closing_size) refl (λ _. refl)))

pub closed_with_carries : (s : Sender) (ls : List ℕ) (room : ℕ) → SendCarries of_closing_lengths (close_with_call s ls room)
unfolding close_with_call written_paper among
closed_with_carries s ls room =
    whichever (SendCarries of_closing_lengths) _ _ (damaged s) refl
    (λ _.
    whichever (SendCarries of_closing_lengths) _ _ (not (is_open s.phase)) refl
    (λ _.
    whichever (SendCarries of_closing_lengths) _ _ (list_wrong ls s.number.0 s.elapsed.0) refl
    (λ _. whichever (SendCarries of_closing_lengths) _ _ (ltb room (lengths_head + filled (length ls))) refl (λ _. refl))))
