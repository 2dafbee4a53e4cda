-- That a sender that was put into a list is read from it again. Assumes nothing.
use Prim.Native.Nat.{ℕ, ◌≤◌}
use mathlib.Core.Path.{◌≡◌, refl}
use mathlib.Core.List.{List}
use native.Mathlib.Omega.{arith}
use lib.ListN.{length}
use borrow.Author.Tests.{le-ltb}
use Rattle.fields.specs.Runs.{front}
use Rattle.sender.specs.declared.Phase.{Phase}
use Rattle.sender.specs.declared.Phase.TheVariants.{Fresh, Open, Closed}
use Rattle.sender.specs.declared.Sender.{Sender}
use Rattle.numbers.specs.Widths.{widest}
use Rattle.numbers_state.specs.States.{phase_of, phase_number, no_state, sender_of, state_of}

phase_back : (p : Phase) → (phase_of (phase_number p) ≡ p) × (phase_number p ≤ 2)
phase_back Fresh = (refl, omega arith)
phase_back Open = (refl, omega arith)
phase_back Closed = (refl, omega arith)

-- a sender that was put into a list is read from it again
pub state_back : (old : List ℕ) (s : Sender) → s.stamp ≤ widest → s.number.0 ≤ widest → s.packets.0 ≤ widest → sender_of (front old (state_of s)) ≡ s
unfolding sender_of no_state front
state_back old s a b c =
    let p = phase_back s.phase in
    let l : 6 ≤ length (front old (state_of s)) = omega arith in
    rw (le-ltb (length (front old (state_of s))) 6 l, le-ltb 2 (phase_number s.phase) p.1, le-ltb widest s.stamp a, le-ltb widest s.number.0 b, le-ltb widest s.packets.0 c, p.0) refl
