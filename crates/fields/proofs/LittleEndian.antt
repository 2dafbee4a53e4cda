-- Numbers in octets, the least significant first. Assumes nothing.
use Prim.Native.Nat.{ℕ, zero, suc, ◌+◌, ◌^◌, ◌≤◌, ◌<◌}
use native.Mathlib.Nat.{pow-suc, mul-le-mul_right}
use native.Mathlib.Omega.{arith}
use mathlib.Core.Path.{◌≡◌, refl}
use mathlib.Core.List.{List, ◌++◌}
use lib.ListN.{length, get_or, get_or-append}
use Rattle.fields.specs.Numbers.{le}

-- what stands behind the octets changes nothing
pub le_append : (w i : ℕ) (s t : List ℕ) → i + w ≤ length s → le w (s ++ t) i ≡ le w s i
unfolding le
le_append zero i s t h = refl
le_append (suc w) i s t h = rw (le_append w i s t (omega arith), get_or-append s t 0 (i + w) (omega arith))

-- what w octets hold
pub le_below : (s : List ℕ) → ((i : ℕ) → get_or s i 0 < 256) → (w i : ℕ) → le w s i < 256 ^ w
unfolding le
le_below s o zero i = omega arith
le_below s o (suc w) i =
    let b = o (i + w) in
    let r : get_or s (i + w) 0 ≤ 255 = omega arith in
    let m = mul-le-mul_right (256 ^ w) r in
    rw pow-suc (omega (arith, m, le_below s o w i))
