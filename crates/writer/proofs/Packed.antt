-- The octets that shifts and masks give are those of the number that the values make side by side. Assumes nothing.
use mathlib.Core.Path.{◌≡◌}
use mathlib.Core.List.{[], ◌∷◌}
use Prim.Native.Nat.{ℕ, ◌+◌, ◌*◌, ◌/◌, ◌%◌, ◌^◌, ◌<◌, ◌≤◌}
use native.Mathlib.Omega.{arith}
use lib.Bits.{bit_and, bit_or, and_mask}
use Rattle.fields.specs.Numbers.{octets}
use Rattle.fields.proofs.ShiftsAndMasks.{beside}

-- six bits of header check and ten of payload check
pub checks_packed : (h c : ℕ) → c < 1024 → octets 2 (h * 1024 + c) ≡ bit_or (h * 2 ^ 2 % 2 ^ 8) (c / 2 ^ 8) ∷ bit_and c 255 ∷ []
unfolding octets
checks_packed h c l =
    let v = h * 1024 + c in
    let b = beside 8 h 2 (c / 256) (omega arith) (omega arith) in
    let hi : v / 256 % 256 ≡ bit_or (h * 2 ^ 2 % 2 ^ 8) (c / 2 ^ 8) = omega (arith, b) in
    let lo : v % 256 ≡ bit_and c 255 = omega (arith, and_mask c 8) in
    rw (hi, lo)

-- two lengths: the octet that both have bits in
pub shared_octet : (a b : ℕ) → b ≤ 4095 → (a * 4096 + b) / 256 % 256 ≡ bit_or (bit_and a 15 * 2 ^ 4 % 2 ^ 16) (b / 2 ^ 8)
shared_octet a b h =
    let s = beside 16 (bit_and a 15) 4 (b / 256) (omega arith) (omega arith) in
    omega (arith, s, and_mask a 4)

pub two_packed : (a b : ℕ) → a ≤ 4095 → b ≤ 4095 → octets 3 (a * 4096 + b) ≡ a / 2 ^ 4 ∷ bit_or (bit_and a 15 * 2 ^ 4 % 2 ^ 16) (b / 2 ^ 8) ∷ bit_and b 255 ∷ []
unfolding octets
two_packed a b ha hb =
    let v = a * 4096 + b in
    let hi : v / 256 / 256 % 256 ≡ a / 2 ^ 4 = omega arith in
    let lo : v % 256 ≡ bit_and b 255 = omega (arith, and_mask b 8) in
    rw (hi, shared_octet a b hb, lo)

-- a last length, and four padding bits
pub last_packed : (a : ℕ) → a ≤ 4095 → octets 2 (a * 16) ≡ a / 2 ^ 4 ∷ bit_and a 15 * 2 ^ 4 % 2 ^ 16 ∷ []
unfolding octets
last_packed a h =
    let hi : a * 16 / 256 % 256 ≡ a / 2 ^ 4 = omega arith in
    let lo : a * 16 % 256 ≡ bit_and a 15 * 2 ^ 4 % 2 ^ 16 = omega (arith, and_mask a 4) in
    rw (hi, lo)
