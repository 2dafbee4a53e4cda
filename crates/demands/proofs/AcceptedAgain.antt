-- What was read can be written again: none of writing's refusals applies to it where there is room. Assumes nothing.
use Prim.Native.Nat.{ℕ, zero, suc, ◌+◌, ◌*◌, ◌/◌, ◌%◌, ◌^◌, ◌≤◌, ◌<◌}
use native.Mathlib.Nat.{add-zero, zero-add}
use native.Mathlib.Omega.{arith}
use mathlib.Core.Path.{◌≡◌, refl, sym, ap, ◌∙◌}
use mathlib.Core.Bool.{false}
use mathlib.Core.List.{List}
use lib.ListN.{length, get_or}
use borrow.Author.Tests.{le-ltb, lt-leb, eq-eqb}
use Rattle.units.specs.Limits.{last_stamp, most_payload, most_in_sequence}
use Rattle.fields.proofs.ReadAgain.{be_lt}
use Rattle.frame.specs.declared.ClosingPdu.{ClosingPdu}
use Rattle.frame.specs.declared.DataPdu.{DataPdu}
use Rattle.frame.specs.Counts.{data_wrong, closing_wrong, too_wide, given_wrong, any_above, sum_of, list_wrong}
use Rattle.frame.specs.Layout.{payload_of, upper_or_lower, length_at, filled, sum_lengths, lengths_of}
use Rattle.frame.specs.Writing.{write_data, write_closing, write_lengths}
use Rattle.frame.proofs.Payloads.{payload_length_lem}
use Rattle.frame.proofs.Said.{DataSaid, ClosingSaid}
use Rattle.std.specs.Prelude.{Ok}

-- the lengths of a Type 3 frame: as many, each of 12 bits, and their sum
pub lengths_long : (s : List ℕ) (i n : ℕ) → length (lengths_of s i n) ≡ n
unfolding lengths_of
lengths_long s i zero = refl
lengths_long s i (suc n) = ap suc (lengths_long s (suc i) n)

twelve_bits : (r x : ℕ) → x < 65536 → upper_or_lower r x ≤ most_payload
twelve_bits zero x h = omega arith
twelve_bits (suc r) x h = omega arith

length_short : (s : List ℕ) → ((i : ℕ) → get_or s i 0 < 256) → (i : ℕ) → length_at s i ≤ most_payload
unfolding length_at
length_short s o i = let b = be_lt s o 2 (19 + 3 * i / 2) in twelve_bits (i % 2) _ (omega (arith, b))

pub lengths_short : (s : List ℕ) → ((i : ℕ) → get_or s i 0 < 256) → (i n : ℕ) → any_above (lengths_of s i n) ≡ false
unfolding lengths_of any_above
lengths_short s o i zero = refl
lengths_short s o i (suc n) = rw (le-ltb most_payload (length_at s i) (length_short s o i)) (lengths_short s o (suc i) n)

pub lengths_sum : (s : List ℕ) (i n : ℕ) → sum_lengths s i + sum_of (lengths_of s i n) ≡ sum_lengths s (i + n)
unfolding lengths_of sum_of sum_lengths
lengths_sum s i zero = simp add-zero
lengths_sum s i (suc n) =
    let t : suc i + n ≡ i + suc n = omega arith in
    let e : sum_lengths s (suc i) + sum_of (lengths_of s (suc i) n) ≡ sum_lengths s (i + suc n) = lengths_sum s (suc i) n ∙ ap (sum_lengths s) t in
    omega (arith, e)

-- a data PDU
pub data_writable : (s : List ℕ) (d : DataPdu) (room : ℕ) → DataSaid s d → length s ≡ 11 + d.length.0 → length s ≤ room
    → write_data d.stamp d.number.0 d.elapsed.0 (length (payload_of s)) room ≡ Ok (length s)
unfolding write_data data_wrong
data_writable s d room h z fits =
    let l : length (payload_of s) ≡ d.length.0 = payload_length_lem s ∙ ap (λ (x : DataPdu). x.length.0) (sym h.fields) in
    let n = h.short in
    let e : 11 + length (payload_of s) ≡ length s = omega (arith, l, z) in
    simp (
      le-ltb last_stamp d.stamp h.stamp,
      le-ltb most_payload (length (payload_of s)) (omega (arith, l, n)),
      lt-leb most_in_sequence d.number.0 h.number,
      le-ltb (most_payload * d.number.0) d.elapsed.0 h.elapsed,
      e,
      le-ltb room (length s) fits,
    )

-- the counts of a closing PDU that was read
module _ (s : List ℕ) (c : ClosingPdu) (o : (i : ℕ) → get_or s i 0 < 256) (h : ClosingSaid s c) (right : closing_wrong c ≡ false) where
  narrow : too_wide c ≡ false
  unfolding too_wide
  narrow =
      let p : c.packets.0 < 256 ^ 3 = rw h.fields (be_lt s o 3 9) in
      let q : c.octets.0 < 256 ^ 5 = rw h.fields (be_lt s o 5 12) in
      let n = h.number in
      let e = h.counts.elapsed in
      simp (
        lt-leb (2 ^ 16) c.number.0 (omega (arith, n)),
        lt-leb (2 ^ 32) c.elapsed.0 (omega (arith, n, e)),
        lt-leb (2 ^ 24) c.packets.0 (omega (arith, p)),
        lt-leb (2 ^ 40) c.octets.0 (omega (arith, q)),
      )

  pub counts_writable : given_wrong c ≡ false
  unfolding given_wrong
  counts_writable = simp (narrow, right)

  pub closing_writable : (room : ℕ) → 18 ≤ room → write_closing c room ≡ Ok 18
  unfolding write_closing
  closing_writable room fits = simp (le-ltb last_stamp c.stamp h.stamp, counts_writable, le-ltb room 18 fits)

  pub lengths_writable : (ls : List ℕ) (room : ℕ) → list_wrong ls c.number.0 c.elapsed.0 ≡ false → 19 + filled (length ls) ≤ room
      → write_lengths c ls room ≡ Ok (19 + filled (length ls))
  unfolding write_lengths
  lengths_writable ls room list fits =
      simp (le-ltb last_stamp c.stamp h.stamp, counts_writable, list, le-ltb room (19 + filled (length ls)) fits)

-- the list that was read
pub list_writable : (s : List ℕ) (n e : ℕ) → ((i : ℕ) → get_or s i 0 < 256) → sum_lengths s n ≡ e → list_wrong (lengths_of s 0 n) n e ≡ false
unfolding list_wrong sum_lengths
list_writable s n e o sum =
    let q : sum_of (lengths_of s 0 n) ≡ e = let z = lengths_sum s 0 n in let y = ap (sum_lengths s) (zero-add n) in omega (arith, z, y, sum) in
    simp (eq-eqb (length (lengths_of s 0 n)) n (lengths_long s 0 n), lengths_short s o 0 n, eq-eqb (sum_of (lengths_of s 0 n)) e q)
