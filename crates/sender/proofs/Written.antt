-- What writing answers for the fields of an undamaged sender: of the writer's refusals only those stay that the sender's own order
-- has last. Assumes nothing.
use Prim.Native.Nat.{ℕ, ◌+◌, ◌^◌, ◌≤◌, ◌<◌}
use mathlib.Core.Path.{◌≡◌, refl, sym, ap, ◌∙◌}
use mathlib.Core.List.{List}
use mathlib.Core.Bool.{Bool, true, false}
use native.Mathlib.Omega.{arith}
use lib.ListN.{length}
use lib.Dec.{ltb}
use borrow.Author.Tests.{le-ltb, lt-leb}
use Rattle.units.specs.Limits.{most_payload, most_in_sequence}
use Rattle.fields.specs.Choice.{◌when◌otherwise◌}
use Rattle.frame.specs.Answers.{Written}
use Rattle.frame.specs.Counts.{data_wrong, given_wrong, too_wide, list_wrong}
use Rattle.frame.specs.Layout.{filled}
use Rattle.frame.specs.Writing.{refuse_write, write_data, write_closing, write_lengths, lengths_frame, after}
use Rattle.frame.proofs.OnePaper.{written_known}
use Rattle.writer.specs.Promise.{Wrote}
use Rattle.sender.specs.declared.Sender.{Sender}
use Rattle.units.specs.declared.refusals.Refusal.{Refusal}
use Rattle.units.specs.declared.refusals.Refusal.TheVariants.{LengthsWrong, NoRoom}
use Rattle.sender.specs.Answers.{Dispatch}
use Rattle.sender.specs.State.{damaged, is_open, closing_by}
use Rattle.sender.specs.Calls.{closed_sender, close_with_call, refused_call}
use Rattle.sender.proofs.Undamaged.{Undamaged, undamaged, few_octets}
use Rattle.std.specs.Prelude.{Ok, Err}

module _ (s : Sender) (u : Undamaged s) where
  data_right : s.number.0 < most_in_sequence → data_wrong s.number.0 s.elapsed.0 ≡ false
  unfolding data_wrong
  data_right h = simp (lt-leb most_in_sequence s.number.0 h, le-ltb _ _ u.possible.elapsed)

  pub data_written : (l room : ℕ) → s.number.0 < most_in_sequence → l ≤ most_payload → 11 + l ≤ room
      → write_data s.stamp s.number.0 s.elapsed.0 l room ≡ Ok (11 + l)
  unfolding write_data
  data_written l room h hl hr = simp (le-ltb _ _ u.stamp, le-ltb _ _ hl, data_right h, le-ltb _ _ hr)

  given_right : given_wrong (closing_by s) ≡ false
  unfolding given_wrong too_wide
  given_right =
      let o = few_octets s u in
      let p = u.possible.elapsed in
      let h1 : s.number.0 < 2 ^ 16 = omega (arith, u.number) in
      let h2 : s.elapsed.0 < 2 ^ 32 = omega (arith, u.number) in
      let h3 : s.packets.0 < 2 ^ 24 = omega (arith, u.packets) in
      let h4 : s.octets.0 < 2 ^ 40 = omega (arith, u.packets) in
      simp (lt-leb (2 ^ 16) s.number.0 h1, lt-leb (2 ^ 32) s.elapsed.0 h2, lt-leb (2 ^ 24) s.packets.0 h3, lt-leb (2 ^ 40) s.octets.0 h4) u.counts

  pub closing_written : (room : ℕ) → 18 ≤ room → write_closing (closing_by s) room ≡ Ok 18
  unfolding write_closing
  closing_written room h = simp (le-ltb _ _ u.stamp, given_right, le-ltb _ _ h)

  lengths_written : (ls : List ℕ) (room : ℕ) → write_lengths (closing_by s) ls room
      ≡ (refuse_write LengthsWrong when list_wrong ls s.number.0 s.elapsed.0 otherwise refuse_write NoRoom when ltb room (19 + filled (length ls)) otherwise Ok (19 + filled (length ls)))
  unfolding write_lengths
  lengths_written ls room = simp (le-ltb _ _ u.stamp, given_right)

-- the sender after a closing that was written, or not
abbrev pub closed_by : Sender → Written → Dispatch
closed_by s (Ok n) = record { answer = Ok n; sender = closed_sender s }
closed_by s (Err r) = record { answer = Err r; sender = s }

by_cases : (s : Sender) (x y : Bool) (m n : Refusal) (k : ℕ)
    → (refused_call s m when x otherwise refused_call s n when y otherwise record { answer = Ok k; sender = closed_sender s })
    ≡ closed_by s (refuse_write m when x otherwise refuse_write n when y otherwise Ok k)
by_cases s true y m n k = refl
by_cases s false true m n k = refl
by_cases s false false m n k = refl

pub lengths_closed : (s : Sender) (u : Undamaged s) → damaged s ≡ false → is_open s.phase ≡ true → (ls : List ℕ) (room : ℕ)
    → close_with_call s ls room ≡ closed_by s (write_lengths (closing_by s) ls room)
unfolding close_with_call
lengths_closed s u d o ls room =
    rw (lengths_written s u ls room)
    (simp (d, o) (by_cases s (list_wrong ls s.number.0 s.elapsed.0) (ltb room (19 + filled (length ls))) LengthsWrong NoRoom (19 + filled (length ls))))

-- where the writer answered w: what the call then is, and what the memory holds
pub closed_as_written : (s : Sender) (ls old new : List ℕ) (r w : Written) → damaged s ≡ false → is_open s.phase ≡ true
    → Wrote (write_lengths (closing_by s) ls (length old)) (lengths_frame (closing_by s) ls) old r new → r ≡ w
    → (close_with_call s ls (length old) ≡ closed_by s w) × (new ≡ after w (lengths_frame (closing_by s) ls) old)
closed_as_written s ls old new r w g o e told =
    let f : write_lengths (closing_by s) ls (length old) ≡ w = sym (written_known _ _ e.says) ∙ told in (
      lengths_closed s (undamaged s g) g o ls (length old) ∙ ap (closed_by s) f,
      e.leaves ∙ ap (λ (x : Written). after x (lengths_frame (closing_by s) ls) old) f,
    )
