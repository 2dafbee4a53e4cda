-- Lateness is from -2,147,483,648 to 2,147,483,647, and says how far the arrival is from when the frame was due. Assumes nothing.
use Rattle.std.proofs.Common.{◌≡◌, ℕ, suc, ◌+◌, ◌-◌, ◌%◌, ◌^◌, ◌<◌, Bool, true, false, ltb, ℤ, pos, negsuc, ◌≤ℤ◌, refl, arith, le→leb, ltb-false, ltb-true}
use lib.Signed.{le_z_yes}
use Rattle.clock.specs.Clock.{past, nearest, late}
use Rattle.clock.proofs.Early.{nearest_late, nearest_early}
use Rattle.clock.proofs.Wrapping.{past_below, past_back}

-- a frame that comes when it is due is late by 0
pub late_now : (t : ℕ) → late t t ≡ pos 0
unfolding late past
late_now t =
    let e : (t + 2 ^ 32 - t) % 2 ^ 32 ≡ 0 = omega arith in
    rw e (nearest_late 0 (omega arith))

InRange : ℤ → Type 0
InRange z = (negsuc 2147483647 ≤ℤ z) × (z ≤ℤ pos 2147483647)

nearest_in_range : (d : ℕ) → d < 2 ^ 32 → (b : Bool) → ltb d (2 ^ 31) ≡ b → InRange (nearest d)
unfolding InRange
nearest_in_range d h true e =
    let k : d < 2 ^ 31 = ltb-true d (2 ^ 31) e in
    rw (nearest_late d k) (le_z_yes tt, le_z_yes (le→leb d 2147483647 (omega arith)))
nearest_in_range d h false e =
    let k = ltb-false d (2 ^ 31) e in
    rw (nearest_early d k h) (le_z_yes (le→leb (2 ^ 32 - suc d) 2147483647 (omega arith)), le_z_yes tt)

-- "from -2,147,483,648 to 2,147,483,647"
pub late_in_range : (arrival due : ℕ) → (negsuc 2147483647 ≤ℤ late arrival due) × (late arrival due ≤ℤ pos 2147483647)
unfolding late InRange
late_in_range arrival due = nearest_in_range (past arrival due) (past_below arrival due) (ltb (past arrival due) (2 ^ 31)) refl

nearest_pos : (d n : ℕ) → d < 2 ^ 32 → (b : Bool) → ltb d (2 ^ 31) ≡ b → nearest d ≡ pos n → d ≡ n
nearest_pos d n h true e w = let z = nearest_late d (ltb-true d (2 ^ 31) e) in cc
nearest_pos d n h false e w = let z = nearest_early d (ltb-false d (2 ^ 31) e) h in cc

nearest_neg : (d n : ℕ) → d < 2 ^ 32 → (b : Bool) → ltb d (2 ^ 31) ≡ b → nearest d ≡ negsuc n → 2 ^ 32 - suc d ≡ n
nearest_neg d n h true e w = let z = nearest_late d (ltb-true d (2 ^ 31) e) in cc
nearest_neg d n h false e w = let z = nearest_early d (ltb-false d (2 ^ 31) e) h in cc

-- late by n: n ticks after it was due
pub late_by : (arrival due n : ℕ) → arrival < 2 ^ 32 → due < 2 ^ 32 → late arrival due ≡ pos n → (due + n) % 2 ^ 32 ≡ arrival
unfolding late
late_by arrival due n h k e =
    let z = nearest_pos (past arrival due) n (past_below arrival due) (ltb (past arrival due) (2 ^ 31)) refl e in
    rw (← z) (past_back arrival due h k)

-- late by -(n + 1): n + 1 ticks before it is due
pub early_by : (arrival due n : ℕ) → arrival < 2 ^ 32 → due < 2 ^ 32 → late arrival due ≡ negsuc n → (arrival + (n + 1)) % 2 ^ 32 ≡ due
unfolding late
early_by arrival due n h k e =
    let z = nearest_neg (past arrival due) n (past_below arrival due) (ltb (past arrival due) (2 ^ 31)) refl e in
    omega (arith, past_back arrival due h k, past_below arrival due)
