-- Writing again what was read gives the same octets, where spare bits and padding were zero and no extension was there.
-- Assumes nothing.
use Prim.Native.Nat.{ℕ, zero, suc, ◌+◌, ◌*◌, ◌/◌, ◌%◌, ◌≤◌, ◌<◌}
use mathlib.Core.Path.{◌≡◌, refl, sym, ap, ◌∙◌}
use mathlib.Core.List.{List, ◌++◌}
use mathlib.Core.Bool.{false, not}
use native.Mathlib.Nat.{add_assoc}
use native.Mathlib.Omega.{arith}
use lib.ListN.{length, get_or, take, drop, take-append-drop, length-drop}
use lib.Seq.{take-add, drop-drop, take_all}
use lib.Dec.{eqb}
use borrow.Author.Tests.{eqb-true, not-false}
use Rattle.fields.specs.Numbers.{be, octets}
use Rattle.fields.proofs.ReadAgain.{be_one, be_two, be_three, octets_be}
use Rattle.checks.specs.Check.{header_check, payload_check}
use Rattle.frame.specs.declared.DataPdu.{DataPdu}
use Rattle.frame.specs.declared.ClosingPdu.{ClosingPdu}
use Rattle.frame.specs.declared.Read.TheVariants.{Closing, Data, ClosingWithLengths}
use Rattle.frame.specs.Layout.{type_of, stamp_of, number_of, elapsed_of, payload_length, payload_of, closing_of, length_at, lengths_of, filled}
use Rattle.frame.specs.Reading.{read_frame, header_wrong, payload_wrong}
use Rattle.frame.specs.Writing.{control_part, closing_control, sealed, data_frame, closing_frame, lengths_frame, packed}
use Rattle.frame.proofs.Accepted.{read_data, read_closing, read_with_lengths}

-- octets, of a frame whose spare bits are zero
pub record Plain (s : List ℕ) : Type 0 where
  pub octet : (i : ℕ) → get_or s i 0 < 256
  pub spare : get_or s 0 0 % 16 ≡ 0

-- a test of two numbers that agreed
pub equal : (a b : ℕ) → not (eqb a b) ≡ false → a ≡ b
equal a b e = eqb-true a b (not-false (eqb a b) e)

-- the next part of a list behind a first part
take_then : (s : List ℕ) (n m : ℕ) → take n s ++ take m (drop n s) ≡ take (n + m) s
take_then s n m = sym (take-add n m s)

module _ (s : List ℕ) (p : Plain s) where
  -- the control part that all types have
  control_again : 9 ≤ length s → control_part (type_of s) (stamp_of s) (number_of s) (elapsed_of s) ≡ take 9 s
  control_again l =
      let v : type_of s * 16 ≡ be 1 s 0 = omega (arith, be_one s 0, p.spare) in
      let t : octets 1 (type_of s * 16) ≡ take 1 s = rw v (octets_be 1 0 s p.octet (omega arith)) in
      rw (t, octets_be 2 1 s p.octet (omega arith), octets_be 2 3 s p.octet (omega arith), octets_be 4 5 s p.octet (omega arith), take_then s 1 2, take_then s 3 2, take_then s 5 4)

  -- both checks, and what follows them
  sealed_again : (n : ℕ) → n + 2 ≤ length s → header_wrong n s ≡ false → payload_wrong n s ≡ false → sealed (take n s) (drop (n + 2) s) ≡ s
  sealed_again n l h c =
      let a : header_check (take n s) ≡ get_or s n 0 / 4 = equal _ _ h in
      let b : payload_check (drop (n + 2) s) ≡ be 2 s n % 1024 = equal _ _ c in
      let v : header_check (take n s) * 1024 + payload_check (drop (n + 2) s) ≡ be 2 s n = omega (arith, be_two s n, p.octet n, p.octet (n + 1)) in
      rw (v, octets_be 2 n s p.octet l, take_then s n 2) (take-append-drop (n + 2) s)

-- Type 1 without extension
pub data_again : (s : List ℕ) (d : DataPdu) → Plain s → length s ≡ 11 + d.length.0 → read_frame s ≡ Data d
    → data_frame d.stamp d.number.0 d.elapsed.0 (payload_of s) ≡ s
unfolding data_frame
data_again s d p z e =
    let r = read_data s d e in
    let l : 11 ≤ length s = rw r.1 at r.0.long in
    let h : header_wrong 9 s ≡ false = rw r.1 at r.0.headed in
    let c : payload_wrong 9 s ≡ false = rw r.1 at r.0.checked in
    let k : control_part 1 (stamp_of s) (number_of s) (elapsed_of s) ≡ take 9 s = rw r.1 at (control_again s p (omega arith)) in
    let n : payload_length s ≡ d.length.0 = ap (λ (x : DataPdu). x.length.0) r.2 in
    let a : payload_of s ≡ drop 11 s = take_all (payload_length s) (drop 11 s) (simp length-drop (omega arith)) in
    rw a (rw (← r.2) (ap (λ (x : List ℕ). sealed x (drop 11 s)) k ∙ sealed_again s p 9 l h c))

-- Types 0 and 3
module _ (s : List ℕ) (p : Plain s) where
  close_again : 17 ≤ length s → closing_control (type_of s) (closing_of s) ≡ take 17 s
  close_again l =
      rw (control_again s p (omega arith), octets_be 3 9 s p.octet (omega arith), octets_be 5 12 s p.octet l, take_then s 9 3, take_then s 12 5)

  closing_octets : length s ≡ 18 → get_or s 17 0 % 4 ≡ 0 → header_wrong 17 s ≡ false → take 17 s ++ octets 1 (header_check (take 17 s) * 4) ≡ s
  closing_octets l z h =
      let a : header_check (take 17 s) ≡ get_or s 17 0 / 4 = equal _ _ h in
      let v : header_check (take 17 s) * 4 ≡ be 1 s 17 = omega (arith, be_one s 17) in
      rw (v, octets_be 1 17 s p.octet (omega arith), take_then s 17 1) (take_all 18 s (omega arith))

  -- two lengths of 12 bits are one number of 24
  nibbles : (x y z : ℕ) → y < 256 → z < 256 → (x * 256 + y) / 16 * 4096 + (y * 256 + z) % 4096 ≡ (x * 256 + y) * 256 + z
  nibbles x y z hy hz = omega arith

  two_be : (k : ℕ) → be 2 s k / 16 * 4096 + be 2 s (k + 1) % 4096 ≡ be 3 s k
  two_be k =
      let e : be 2 s (k + 1) ≡ get_or s (k + 1) 0 * 256 + get_or s (k + 2) 0 = rw (add_assoc k 1 1) at (be_two s (k + 1)) in
      rw (be_two s k, e, be_three s k) (nibbles (get_or s k 0) (get_or s (k + 1) 0) (get_or s (k + 2) 0) (p.octet (k + 1)) (p.octet (k + 2)))

  pair_again : (j : ℕ) → 19 + 3 * j + 3 ≤ length s → octets 3 (length_at s (2 * j) * 4096 + length_at s (suc (2 * j))) ≡ take 3 (drop (19 + 3 * j) s)
  unfolding length_at
  pair_again j l =
      let m : 2 * j % 2 ≡ 0 = omega arith in
      let m' : suc (2 * j) % 2 ≡ 1 = omega arith in
      let d : 3 * (2 * j) / 2 ≡ 3 * j = omega arith in
      let d' : 19 + 3 * suc (2 * j) / 2 ≡ 19 + 3 * j + 1 = omega arith in
      rw (m, m', d, d', two_be (19 + 3 * j)) (octets_be 3 (19 + 3 * j) s p.octet l)

  last_again : (j : ℕ) → 19 + 3 * j + 2 ≤ length s → get_or s (19 + 3 * j + 1) 0 % 16 ≡ 0 → octets 2 (length_at s (2 * j) * 16) ≡ take 2 (drop (19 + 3 * j) s)
  unfolding length_at
  last_again j l z =
      let m : 2 * j % 2 ≡ 0 = omega arith in
      let d : 3 * (2 * j) / 2 ≡ 3 * j = omega arith in
      let v : be 2 s (19 + 3 * j) / 16 * 16 ≡ be 2 s (19 + 3 * j) = omega (arith, be_two s (19 + 3 * j)) in
      rw (m, d, v) (octets_be 2 (19 + 3 * j) s p.octet l)

  -- the lengths that are read, packed again, are the octets that they were read from
  packed_again : (n j : ℕ) → 19 + 3 * j + filled n ≤ length s → (n % 2 ≡ 1 → get_or s (18 + 3 * j + filled n) 0 % 16 ≡ 0)
      → packed (lengths_of s (2 * j) n) ≡ take (filled n) (drop (19 + 3 * j) s)
  unfolding packed lengths_of
  packed_again zero j l z = refl
  packed_again (suc zero) j l z =
      let e : 18 + 3 * j + 2 ≡ 19 + 3 * j + 1 = omega arith in
      last_again j l (rw e at (z refl))
  packed_again (suc (suc n)) j l z =
      let m : suc (suc n) % 2 ≡ n % 2 = omega arith in
      let i : suc (suc (2 * j)) ≡ 2 * (j + 1) = omega arith in
      let q : 18 + 3 * j + filled (suc (suc n)) ≡ 18 + 3 * (j + 1) + filled n = omega arith in
      let w : filled (suc (suc n)) ≡ 3 + filled n = omega arith in
      let k : 19 + 3 * (j + 1) ≡ 19 + 3 * j + 3 = omega arith in
      let r = packed_again n (j + 1) (omega arith) (λ o. rw q at (z (m ∙ o))) in
      rw (pair_again j (omega arith), i, r, w, k) (rw (← (drop-drop 3 (19 + 3 * j) s)) (sym (take-add 3 (filled n) (drop (19 + 3 * j) s))))

-- Type 0, whose two padding bits are zero
pub closing_again : (s : List ℕ) (c : ClosingPdu) → Plain s → get_or s 17 0 % 4 ≡ 0 → read_frame s ≡ Closing c → closing_frame c ≡ s
unfolding closing_frame
closing_again s c p z e =
    let r = read_closing s c e in
    let l : length s ≡ 18 = equal (length s) 18 (rw r.1 at r.0.sized) in
    let h : header_wrong 17 s ≡ false = rw r.1 at r.0.headed in
    let k : closing_control 0 (closing_of s) ≡ take 17 s = rw r.1 at (close_again s p (omega arith)) in
    rw (← r.2) (ap (λ (x : List ℕ). x ++ octets 1 (header_check x * 4)) k ∙ closing_octets s p l z h)

-- Type 3 without extension, and with four zero bits of padding where N is odd
pub lengths_again : (s : List ℕ) (c : ClosingPdu) → Plain s → length s ≡ 19 + filled c.number.0
    → (c.number.0 % 2 ≡ 1 → get_or s (18 + filled c.number.0) 0 % 16 ≡ 0)
    → read_frame s ≡ ClosingWithLengths c → lengths_frame c (lengths_of s 0 c.number.0) ≡ s
unfolding lengths_frame
lengths_again s c p l z e =
    let r = read_with_lengths s c e in
    let h : header_wrong 17 s ≡ false = rw r.1 at r.0.headed in
    let g : payload_wrong 17 s ≡ false = rw r.1 at r.0.checked in
    let k : closing_control 3 (closing_of s) ≡ take 17 s = rw r.1 at (close_again s p (omega arith)) in
    let k' : closing_control 3 c ≡ take 17 s = ap (closing_control 3) (sym r.2) ∙ k in
    let w : packed (lengths_of s 0 c.number.0) ≡ take (filled c.number.0) (drop 19 s) = packed_again s p c.number.0 0 (omega arith) z in
    let a : take (filled c.number.0) (drop 19 s) ≡ drop 19 s = take_all (filled c.number.0) (drop 19 s) (simp length-drop (omega arith)) in
    rw (k', w, a) (sealed_again s p 17 (omega arith) h g)
