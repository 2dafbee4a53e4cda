-- What each call of the sender comes to. Refused, it keeps the sender; accepted, every test of its order was passed, and the next sender is
-- known. Other crates use these laws and not the text of the calls, but for `demands`, which is about the orders. Assumes nothing.
use Prim.Native.Nat.{ℕ, ◌+◌, ◌≤◌, ◌<◌}
use mathlib.Core.Path.{◌≡◌, refl}
use mathlib.Core.List.{List}
use mathlib.Core.Bool.{true, false, not}
use native.Mathlib.Omega.{arith}
use lib.ListN.{length}
use lib.Dec.{ltb, leb}
use borrow.Author.Tests.{le-ltb, lt-leb, ltb-false, leb-false, not-false}
use Rattle.units.specs.Limits.{last_stamp, most_payload, most_in_sequence, most_period_packets}
use Rattle.units.specs.declared.refusals.Refusal.TheVariants.{LengthsWrong, NoRoom, OutOfTurn, PayloadTooLong, PeriodFull, SenderDamaged, SequenceFull, StampNotLater, StampTooHigh}
use Rattle.fields.proofs.Choosing.{whichever, Comes}
use Rattle.fields.proofs.Choosing.Comes.{refused, accepted}
use Rattle.frame.specs.Counts.{list_wrong}
use Rattle.frame.specs.Layout.{filled}
use Rattle.frame.specs.Paper.{written_paper}
use Rattle.frame.specs.Sizes.{data_head, closing_size, lengths_head}
use Rattle.sender.specs.declared.Sender.{Sender}
use Rattle.sender.specs.Answers.{Dispatch, Turning}
use Rattle.frame.specs.Answers.{Written}
use Rattle.sender.specs.State.{damaged, is_open, not_later, fresh_sender}
use Rattle.sender.specs.Calls.{turned_paper, begins, advanced, closed_sender, open_call, renew_call, data_call, close_call, close_with_call, refused_call}
use Rattle.std.specs.Prelude.{Ok}

-- a turn that was done, with the next sender
abbrev pub turned_to : Sender → Turning
turned_to next = record { answer = Ok tt; sender = next }

-- a frame of k octets that was written, with the next sender
abbrev pub sent_to : ℕ → Sender → Dispatch
sent_to k next = record { answer = Ok k; sender = next }

done : {m k : ℕ} → ◌≡◌ {A = Written} (Ok m) (Ok k) → m ≡ k
done e = cc

module _ {s next : Sender} {G : Type 0} where
  -- what an accepted turn tells
  turn_goes : {t : Turning} → Comes (refused_call s) G (turned_to next) t → t.answer ≡ Ok tt → G × (t.sender ≡ next)
  turn_goes (refused n) e = let z : ◌≡◌ {A = ℕ} 0 1 = cc in absurd (omega arith)
  turn_goes (accepted g) e = (g, refl)

  -- a refused turn leaves the sender
  turn_keeps : {t : Turning} → Comes (refused_call s) G (turned_to next) t → (turned_paper t.answer).accepted ≡ 0 → t.sender ≡ s
  unfolding turned_paper
  turn_keeps (refused n) z = refl
  turn_keeps (accepted g) z = absurd (omega (arith, z))

  -- what a frame tells that was written
  send_goes : {t : Dispatch} {m k : ℕ} → Comes (refused_call s) G (sent_to m next) t → t.answer ≡ Ok k → G × (m ≡ k) × (t.sender ≡ next)
  send_goes (refused n) e = let z : ◌≡◌ {A = ℕ} 0 1 = cc in absurd (omega arith)
  send_goes (accepted g) e = (g, done e, refl)

  -- a refused frame leaves the sender
  send_keeps : {t : Dispatch} {m : ℕ} → Comes (refused_call s) G (sent_to m next) t → (written_paper t.answer).accepted ≡ 0 → t.sender ≡ s
  unfolding written_paper
  send_keeps (refused n) z = refl
  send_keeps (accepted g) z = absurd (omega (arith, z))

-- what an accepted opening passed
pub record OpenGoes (s : Sender) (stamp : ℕ) : Type 0 where
  pub whole : damaged s ≡ false
  pub rest : is_open s.phase ≡ false
  pub stamped : stamp ≤ last_stamp
  pub later : not_later s.phase s stamp ≡ false

-- an accepted new period
pub record RenewGoes (s : Sender) : Type 0 where
  pub whole : damaged s ≡ false
  pub rest : is_open s.phase ≡ false

-- an accepted packet of l octets
pub record DataGoes (s : Sender) (l room : ℕ) : Type 0 where
  pub whole : damaged s ≡ false
  pub turn : is_open s.phase ≡ true
  pub short : l ≤ most_payload
  pub number : s.number.0 < most_in_sequence
  pub packets : s.packets.0 < most_period_packets
  pub fits : data_head + l ≤ room

-- an accepted closing, of Type 0
pub record CloseGoes (s : Sender) (room : ℕ) : Type 0 where
  pub whole : damaged s ≡ false
  pub turn : is_open s.phase ≡ true
  pub fits : closing_size ≤ room

-- and of Type 3
pub record CloseWithGoes (s : Sender) (ls : List ℕ) (room : ℕ) : Type 0 where
  pub whole : damaged s ≡ false
  pub turn : is_open s.phase ≡ true
  pub listed : list_wrong ls s.number.0 s.elapsed.0 ≡ false
  pub fits : lengths_head + filled (length ls) ≤ room

-- what each call comes to
module _ (s : Sender) where
  pub open_comes : (stamp : ℕ) → Comes (refused_call s) (OpenGoes s stamp) (begins s stamp) (open_call s stamp)
  unfolding open_call
  open_comes stamp =
      let C = Comes (refused_call s) (OpenGoes s stamp) (begins s stamp) in
      whichever C _ _ (damaged s) (refused SenderDamaged)
      (λ w.
      whichever C _ _ (is_open s.phase) (refused OutOfTurn)
      (λ o.
      whichever C _ _ (ltb last_stamp stamp) (refused StampTooHigh)
      (λ h.
      whichever C _ _ (not_later s.phase s stamp) (refused StampNotLater)
      (λ l. accepted (record { whole = w; rest = o; stamped = ltb-false last_stamp stamp h; later = l })))))

  pub renew_comes : Comes (refused_call s) (RenewGoes s) (turned_to fresh_sender) (renew_call s)
  unfolding renew_call
  renew_comes =
      let C = Comes (refused_call s) (RenewGoes s) (turned_to fresh_sender) in
      whichever C _ _ (damaged s) (refused SenderDamaged)
      (λ w. whichever C _ _ (is_open s.phase) (refused OutOfTurn) (λ o. accepted (record { whole = w; rest = o })))

  pub data_comes : (l room : ℕ) → Comes (refused_call s) (DataGoes s l room) (sent_to (data_head + l) (advanced s l)) (data_call s l room)
  unfolding data_call
  data_comes l room =
      let C = Comes (refused_call s) (DataGoes s l room) (sent_to (data_head + l) (advanced s l)) in
      whichever C _ _ (damaged s) (refused SenderDamaged)
      (λ w.
      whichever C _ _ (not (is_open s.phase)) (refused OutOfTurn)
      (λ o.
      whichever C _ _ (ltb most_payload l) (refused PayloadTooLong)
      (λ h.
      whichever C _ _ (leb most_in_sequence s.number.0) (refused SequenceFull)
      (λ n.
      whichever C _ _ (leb most_period_packets s.packets.0) (refused PeriodFull)
      (λ p.
      whichever C _ _ (ltb room (data_head + l)) (refused NoRoom)
      (λ r.
      accepted
      (record {
        whole = w;
        turn = not-false (is_open s.phase) o;
        short = ltb-false most_payload l h;
        number = leb-false most_in_sequence s.number.0 n;
        packets = leb-false most_period_packets s.packets.0 p;
        fits = ltb-false room (data_head + l) r;
      })))))))

  pub close_comes : (room : ℕ) → Comes (refused_call s) (CloseGoes s room) (sent_to closing_size (closed_sender s)) (close_call s room)
  unfolding close_call
  close_comes room =
      let C = Comes (refused_call s) (CloseGoes s room) (sent_to closing_size (closed_sender s)) in
      whichever C _ _ (damaged s) (refused SenderDamaged)
      (λ w.
      whichever C _ _ (not (is_open s.phase)) (refused OutOfTurn)
      (λ o.
      whichever C _ _ (ltb room closing_size) (refused NoRoom)
      (λ r. accepted (record { whole = w; turn = not-false (is_open s.phase) o; fits = ltb-false room closing_size r }))))

  pub close_with_comes : (ls : List ℕ) (room : ℕ)
      → Comes (refused_call s) (CloseWithGoes s ls room) (sent_to (lengths_head + filled (length ls)) (closed_sender s)) (close_with_call s ls room)
  unfolding close_with_call
  close_with_comes ls room =
      let C = Comes (refused_call s) (CloseWithGoes s ls room) (sent_to (lengths_head + filled (length ls)) (closed_sender s)) in
      whichever C _ _ (damaged s) (refused SenderDamaged)
      (λ w.
      whichever C _ _ (not (is_open s.phase)) (refused OutOfTurn)
      (λ o.
      whichever C _ _ (list_wrong ls s.number.0 s.elapsed.0) (refused LengthsWrong)
      (λ l.
      whichever C _ _ (ltb room (lengths_head + filled (length ls))) (refused NoRoom)
      (λ r. accepted (record { whole = w; turn = not-false (is_open s.phase) o; listed = l; fits = ltb-false room (lengths_head + filled (length ls)) r })))))

  -- what an accepted call tells
  pub open_goes : (stamp : ℕ) → (open_call s stamp).answer ≡ Ok tt → OpenGoes s stamp × ((open_call s stamp).sender ≡ (begins s stamp).sender)
  open_goes stamp = turn_goes (open_comes stamp)

  pub renew_goes : (renew_call s).answer ≡ Ok tt → RenewGoes s × ((renew_call s).sender ≡ fresh_sender)
  renew_goes = turn_goes renew_comes

  pub data_goes : (l room k : ℕ) → (data_call s l room).answer ≡ Ok k → DataGoes s l room × (data_head + l ≡ k) × ((data_call s l room).sender ≡ advanced s l)
  data_goes l room k = send_goes (data_comes l room)

  pub close_goes : (room k : ℕ) → (close_call s room).answer ≡ Ok k → CloseGoes s room × (closing_size ≡ k) × ((close_call s room).sender ≡ closed_sender s)
  close_goes room k = send_goes (close_comes room)

  pub close_with_goes : (ls : List ℕ) (room k : ℕ) → (close_with_call s ls room).answer ≡ Ok k
      → CloseWithGoes s ls room × (lengths_head + filled (length ls) ≡ k) × ((close_with_call s ls room).sender ≡ closed_sender s)
  close_with_goes ls room k = send_goes (close_with_comes ls room)

  -- a call that passes every test is accepted
  pub open_accepted : (stamp : ℕ) → OpenGoes s stamp → open_call s stamp ≡ begins s stamp
  unfolding open_call
  open_accepted stamp g = simp (g.whole, g.rest, le-ltb last_stamp stamp g.stamped, g.later)

  pub renew_accepted : RenewGoes s → renew_call s ≡ turned_to fresh_sender
  unfolding renew_call
  renew_accepted g = simp (g.whole, g.rest)

  pub data_accepted : (l room : ℕ) → DataGoes s l room → data_call s l room ≡ sent_to (data_head + l) (advanced s l)
  unfolding data_call
  data_accepted l room g =
      simp (g.whole, g.turn, le-ltb most_payload l g.short, lt-leb most_in_sequence s.number.0 g.number, lt-leb most_period_packets s.packets.0 g.packets, le-ltb room (data_head + l) g.fits)

  pub close_accepted : (room : ℕ) → CloseGoes s room → close_call s room ≡ sent_to closing_size (closed_sender s)
  unfolding close_call
  close_accepted room g = simp (g.whole, g.turn, le-ltb room closing_size g.fits)

  pub close_with_accepted : (ls : List ℕ) (room : ℕ) → CloseWithGoes s ls room
      → close_with_call s ls room ≡ sent_to (lengths_head + filled (length ls)) (closed_sender s)
  unfolding close_with_call
  close_with_accepted ls room g = simp (g.whole, g.turn, g.listed, le-ltb room (lengths_head + filled (length ls)) g.fits)

  -- refused, the sender is as before
  pub open_keeps : (stamp : ℕ) → (turned_paper (open_call s stamp).answer).accepted ≡ 0 → (open_call s stamp).sender ≡ s
  open_keeps stamp = turn_keeps (open_comes stamp)

  pub renew_keeps : (turned_paper (renew_call s).answer).accepted ≡ 0 → (renew_call s).sender ≡ s
  renew_keeps = turn_keeps renew_comes

  pub data_keeps : (l room : ℕ) → (written_paper (data_call s l room).answer).accepted ≡ 0 → (data_call s l room).sender ≡ s
  data_keeps l room = send_keeps (data_comes l room)

  pub close_keeps : (room : ℕ) → (written_paper (close_call s room).answer).accepted ≡ 0 → (close_call s room).sender ≡ s
  close_keeps room = send_keeps (close_comes room)

  pub close_with_keeps : (ls : List ℕ) (room : ℕ) → (written_paper (close_with_call s ls room).answer).accepted ≡ 0 → (close_with_call s ls room).sender ≡ s
  close_with_keeps ls room = send_keeps (close_with_comes ls room)
