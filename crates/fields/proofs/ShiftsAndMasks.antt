-- Shifts and masks in a word of w bits, at every width: a mask is a remainder, and an or of parts that do not meet is their sum.
-- Assumes nothing.
use mathlib.Core.Path.{◌≡◌, sym, ap, ◌∙◌}
use Prim.Native.Nat.{ℕ, ◌+◌, ◌-◌, ◌*◌, ◌/◌, ◌%◌, ◌^◌, ◌<◌, ◌≤◌}
use native.Mathlib.Nat.{one-mul, mod-lt, mod-eq_of_lt, lt_of_lt_of_le}
use native.Mathlib.Omega.{arith}
use lib.Arith.{mod-mul}
use lib.Pow.{pow_pos, pow-add, pow-lt, pow_mono}
use lib.Bits.{bit_and, bit_or, and_mask, or_mod, or_shifted}

-- the n low bits, kept by a mask that is worked out
unit : (w n : ℕ) → n < w → 1 * 2 ^ n % 2 ^ w ≡ 2 ^ n
unit w n h = ap (λ (m : ℕ). m % 2 ^ w) (one-mul (2 ^ n)) ∙ mod-eq_of_lt (pow-lt h)

pub masked : (w x n : ℕ) → n < w → bit_and x (1 * 2 ^ n % 2 ^ w - 1) ≡ x % 2 ^ n
masked w x n h = ap (λ (m : ℕ). bit_and x (m - 1)) (unit w n h) ∙ and_mask x n

-- a value shifted up by k bits, and one of k bits in the place that it left
pub beside : (w a k b : ℕ) → k ≤ w → b < 2 ^ k → bit_or (a * 2 ^ k % 2 ^ w) b ≡ (a * 2 ^ k + b) % 2 ^ w
beside w a k b h l =
    let s : b % 2 ^ w ≡ b = mod-eq_of_lt (lt_of_lt_of_le l (pow_mono h)) in
    ap (bit_or (a * 2 ^ k % 2 ^ w)) (sym s) ∙ sym (or_mod (a * 2 ^ k) b w) ∙ ap (λ (m : ℕ). m % 2 ^ w) (or_shifted a k b l)

-- the k low bits of one octet, and all of the next
pub low_bits : (w k x y : ℕ) → k + 8 ≤ w → y < 256 → bit_or (bit_and x (2 ^ k - 1) * 2 ^ 8 % 2 ^ w) y ≡ (x * 256 + y) % 2 ^ (k + 8)
low_bits w k x y h l =
    let p : 2 ^ (k + 8) ≡ 2 ^ k * 256 = pow-add 2 k 8 in
    let m = mod-mul (x * 256 + y) {m = 2 ^ k} {c = 256} (pow_pos k) (omega arith) in
    let d : (x * 256 + y) / 256 ≡ x = omega arith in
    let r : (x * 256 + y) % 256 ≡ y = omega arith in
    let t : (x * 256 + y) % 2 ^ (k + 8) ≡ x % 2 ^ k * 256 + y = rw (p, m, d, r) in
    let s : x % 2 ^ k * 256 + y < 2 ^ w = lt_of_lt_of_le (rw (← t) (mod-lt (x * 256 + y) (pow_pos (k + 8)))) (pow_mono h) in
    let b = beside w (bit_and x (2 ^ k - 1)) 8 y (omega arith) l in
    b ∙ rw (and_mask x k, mod-eq_of_lt s, t)
