-- What is known of a record in which nothing was heard yet. Assumes nothing.
use Prim.Native.Nat.{ℕ, ◌≤◌}
use mathlib.Core.Path.{◌≡◌, refl}
use mathlib.Core.Bool.{false}
use mathlib.Core.List.{List}
use native.Mathlib.Omega.{arith}
use lib.ListN.{replicate}
use Rattle.units.specs.Limits.{last_stamp, most_capacity}
use Rattle.reception.specs.declared.Head.{Head}
use Rattle.reception.specs.Damage.{Matched}
use Rattle.reception.specs.Neighbours.{NoneBefore, NoneFrom}
use Rattle.reception.specs.Hearing.{kept_in, damaged_kept, open_head, empty_kept}
use Rattle.reception.proofs.KeptAsHeld.{read_zeros}
use Rattle.reception.proofs.WhatHearingAdds.{sound_lists}
use Rattle.reception.proofs.HearingUndamaged.{empty_sound}

module _ (bearer period stamp n : ℕ) (s : stamp ≤ last_stamp) (le : n ≤ most_capacity) (h : Head) (marks elapsed sizes : List ℕ)
    (hh : h ≡ open_head bearer period stamp) (m : marks ≡ replicate n 0) (e : elapsed ≡ replicate n 0) (z : sizes ≡ replicate n 0) where
  pub empty_is : kept_in h marks elapsed sizes ≡ empty_kept bearer period stamp n
  empty_is = rw (hh, m, e, z) refl

  pub empty_lists : Matched marks elapsed sizes
  empty_lists = rw (m, e, z) (sound_lists (empty_kept bearer period stamp n) (empty_sound bearer period stamp n s le))

  pub empty_undamaged : damaged_kept (kept_in h marks elapsed sizes) ≡ false
  empty_undamaged = rw (hh, m, e, z) (empty_sound bearer period stamp n s le).undamaged

  pub empty_before : (first : ℕ) → NoneBefore marks first
  empty_before first = rw m (record { none = λ j lt one. let q = read_zeros n j in omega (arith, q, one) })

  pub empty_from : NoneFrom marks 0
  empty_from = rw m (record { inside = omega arith; none = λ j lt one. let q = read_zeros n j in omega (arith, q, one) })
