-- The rule by which the code finds what the upper digits of a short word leave, in the code's own shifts and masks, and that it
-- is right: a test at each number that those digits can be. Assumes nothing.
use mathlib.Core.Path.{◌≡◌, refl, sym, ap, subst, ◌∙◌}
use Prim.Native.Nat.{ℕ, ◌*◌, ◌/◌, ◌%◌, ◌^◌, ◌<◌}
use native.Mathlib.Omega.{arith}
use lib.Bits.{bit_xor, bit_and, and_mask}
use lib.Dec.{eqb, lit<, lit≤}
use borrow.Author.Tests.{eqb-true}
use mathlib.Core.Bool.{true}
use Rattle.std.proofs.lemmas.Bool.{agree_below_at}
use Rattle.checks.specs.Check.{divide, low_digits}
use Rattle.checks.specs.Inside.{feed, leaves}
use Rattle.checks.proofs.Division.{feed_lt}
use Rattle.checks.proofs.Folding.{rest}
use Rattle.checks.proofs.ShortSums.{header, payload}

-- the quotient's digits q times the generator's lower terms
abbrev header_terms : ℕ → ℕ
header_terms q =
    let v : ℕ = bit_xor q (q * 2 ^ 1 % 2 ^ 64) in
    bit_and (bit_xor (bit_xor v (v * 2 ^ 2 % 2 ^ 64)) (q * 2 ^ 5 % 2 ^ 64)) 63

abbrev pub header_rule : ℕ → ℕ
header_rule h = header_terms (bit_xor h (h / 2 ^ 1))

header_rule_lem : {h : ℕ} → h < 4 → header_rule h ≡ feed 0x6F 6 6 h 0
unfolding divide low_digits
header_rule_lem {h} i =
    eqb-true (header_rule h) (feed 0x6F 6 6 h 0)
    (agree_below_at (λ h. eqb (header_rule h) (feed 0x6F 6 6 h 0)) (λ _. true) 4 h refl i)

pub header_rest : (z : ℕ) → z < 2 ^ 8 → bit_xor (header_rule (z / 2 ^ 6)) (bit_and z 63) ≡ leaves 0x6F 6 z
header_rest z h =
    let i : z / 2 ^ 6 < 4 = omega arith in
    ap (bit_xor (header_rule (z / 2 ^ 6))) (and_mask z 6)
    ∙ rest header header_rule z (lit≤ tt) (omega arith) (omega arith) (header_rule_lem i)

pub header_rest_lt : (z : ℕ) → z < 2 ^ 8 → bit_xor (header_rule (z / 2 ^ 6)) (bit_and z 63) < 2 ^ 6
header_rest_lt z h = subst (λ (m : ℕ). m < 2 ^ 6) (sym (header_rest z h)) (feed_lt header 64 0 z (lit< tt))

abbrev payload_terms : ℕ → ℕ
payload_terms q =
    let v : ℕ = bit_xor q (q * 2 ^ 1 % 2 ^ 64) in
    bit_and (bit_xor (bit_xor v (v * 2 ^ 4 % 2 ^ 64)) (q * 2 ^ 9 % 2 ^ 64)) 1023

abbrev pub payload_rule : ℕ → ℕ
payload_rule h =
    let a : ℕ = bit_xor h (h / 2 ^ 1) in
    let b : ℕ = bit_xor a (a / 2 ^ 2) in
    let c : ℕ = bit_xor b (b / 2 ^ 4) in
    let d : ℕ = bit_xor c (c / 2 ^ 8) in
    payload_terms (bit_xor d (d / 2 ^ 5))

payload_rule_lem : {h : ℕ} → h < 512 → payload_rule h ≡ feed 0x633 10 10 h 0
unfolding divide low_digits
payload_rule_lem {h} i =
    eqb-true (payload_rule h) (feed 0x633 10 10 h 0)
    (agree_below_at (λ h. eqb (payload_rule h) (feed 0x633 10 10 h 0)) (λ _. true) 512 h refl i)

pub payload_rest : (z : ℕ) → z < 2 ^ 19 → bit_xor (payload_rule (z / 2 ^ 10)) (bit_and z 1023) ≡ leaves 0x633 10 z
payload_rest z h =
    let i : z / 2 ^ 10 < 512 = omega arith in
    ap (bit_xor (payload_rule (z / 2 ^ 10))) (and_mask z 10)
    ∙ rest payload payload_rule z (lit≤ tt) (omega arith) (omega arith) (payload_rule_lem i)

pub payload_rest_lt : (z : ℕ) → z < 2 ^ 19 → bit_xor (payload_rule (z / 2 ^ 10)) (bit_and z 1023) < 2 ^ 10
payload_rest_lt z h = subst (λ (m : ℕ). m < 2 ^ 10) (sym (payload_rest z h)) (feed_lt payload 64 0 z (lit< tt))
