-- An undamaged sender stays undamaged under every call, accepted or refused. Assumes nothing.
use Prim.Native.Nat.{ℕ, ◌≤◌, ◌<◌}
use mathlib.Core.Path.{◌≡◌, refl}
use mathlib.Core.List.{List}
use mathlib.Core.Bool.{false}
use native.Mathlib.Omega.{arith}
use borrow.Author.Tests.{le-ltb}
use Rattle.units.specs.Limits.{last_stamp, most_payload, most_in_sequence, most_period_packets}
use Rattle.fields.proofs.Choosing.{whatever}
use Rattle.frame.specs.declared.ClosingPdu.{ClosingPdu}
use Rattle.frame.specs.Counts.{some_of, closing_wrong}
use Rattle.frame.proofs.Said.{Possible}
use Rattle.sender.specs.declared.Sender.{Sender}
use Rattle.sender.specs.Answers.{Dispatch, Turning}
use Rattle.sender.specs.State.{damaged, rest_wrong, fresh_sender, closing_by}
use Rattle.sender.specs.Calls.{begins, advanced, closed_sender, open_call, renew_call, data_call, close_call, close_with_call}
use Rattle.sender.proofs.RefusedOrAccepted.{open_comes, renew_comes, data_comes, close_comes, close_with_comes}
use Rattle.sender.proofs.Undamaged.{Undamaged, undamaged, few_octets}

abbrev Whole : Sender → Type 0
Whole s = damaged s ≡ false

-- counts that are possible are not wrong
possible_right : (c : ClosingPdu) → Possible c → closing_wrong c ≡ false
unfolding closing_wrong
possible_right c p = simp (le-ltb _ _ p.elapsed, le-ltb _ _ p.packets, le-ltb _ _ p.octets, le-ltb _ _ p.others)

whole : (s : Sender) → s.stamp ≤ last_stamp → s.number.0 ≤ most_in_sequence → s.packets.0 ≤ most_period_packets → Possible (closing_by s)
    → rest_wrong s.phase s ≡ false → Whole s
unfolding damaged
whole s h1 h2 h3 p r = simp (le-ltb _ _ h1, le-ltb _ _ h2, le-ltb _ _ h3, possible_right (closing_by s) p, r)

pub fresh_undamaged : Whole fresh_sender
unfolding damaged closing_wrong some_of
fresh_undamaged = refl

begun_undamaged : (s : Sender) (stamp : ℕ) → Undamaged s → stamp ≤ last_stamp → Whole (begins s stamp).sender
begun_undamaged s stamp u h =
    let p = u.possible in
    whole (begins s stamp).sender h u.number u.packets (record { elapsed = p.elapsed; packets = p.packets; octets = p.octets; others = p.others }) refl

advanced_undamaged : (s : Sender) (l : ℕ) → Undamaged s → l ≤ most_payload → s.number.0 < most_in_sequence → s.packets.0 < most_period_packets → Whole (advanced s l)
advanced_undamaged s l u hl hn hp =
    let p = u.possible in
    let e = p.elapsed in
    let q = p.packets in
    let o = p.octets in
    let r = p.others in
    whole (advanced s l) u.stamp (omega arith) (omega arith)
    (record { elapsed = omega arith; packets = omega arith; octets = omega arith; others = omega arith })
    refl

closed_undamaged : (s : Sender) → Undamaged s → Whole (closed_sender s)
unfolding some_of
closed_undamaged s u =
    let f = few_octets s u in
    whole (closed_sender s) u.stamp (omega arith) u.packets
    (record { elapsed = omega arith; packets = omega arith; octets = omega arith; others = omega arith })
    refl

module _ (s : Sender) (w : Whole s) where
  abbrev After : Turning → Type 0
  After t = Whole t.sender

  abbrev Sent : Dispatch → Type 0
  Sent t = Whole t.sender

  pub open_undamaged : (stamp : ℕ) → Whole (open_call s stamp).sender
  open_undamaged stamp = whatever After (open_comes s stamp) (λ _. w) (λ g. begun_undamaged s stamp (undamaged s w) g.stamped)

  pub renew_undamaged : Whole (renew_call s).sender
  renew_undamaged = whatever After (renew_comes s) (λ _. w) (λ _. fresh_undamaged)

  pub data_undamaged : (l room : ℕ) → Whole (data_call s l room).sender
  data_undamaged l room =
      whatever Sent (data_comes s l room) (λ _. w) (λ g. advanced_undamaged s l (undamaged s w) g.short g.number g.packets)

  pub close_undamaged : (room : ℕ) → Whole (close_call s room).sender
  close_undamaged room = whatever Sent (close_comes s room) (λ _. w) (λ _. closed_undamaged s (undamaged s w))

  pub close_with_undamaged : (ls : List ℕ) (room : ℕ) → Whole (close_with_call s ls room).sender
  close_with_undamaged ls room = whatever Sent (close_with_comes s ls room) (λ _. w) (λ _. closed_undamaged s (undamaged s w))
