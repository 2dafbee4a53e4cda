-- Type 3: what is written is read back, and so is each length. Assumes nothing.
use Prim.Native.Nat.{ℕ, zero, suc, ◌+◌, ◌*◌, ◌/◌, ◌%◌, ◌≤◌, ◌<◌}
use mathlib.Core.Path.{◌≡◌, refl, sym, ap, ◌∙◌}
use mathlib.Core.List.{List, [], ◌∷◌, ◌++◌}
use mathlib.Core.Bool.{false}
use native.Mathlib.Nat.{add-zero, zero-add, add-suc, suc-add}
use native.Mathlib.Omega.{arith}
use lib.ListN.{length, get_or, take}
use lib.Seq.{take-suc, take-length}
use borrow.Author.Tests.{le-ltb, eq-eqb}
use Rattle.units.specs.Limits.{last_stamp}
use Rattle.fields.specs.Numbers.{be, octets}
use Rattle.fields.proofs.ReadAgain.{be_shift, length_octets}
use Rattle.checks.specs.Check.{header_check, payload_check}
use Rattle.frame.specs.declared.ClosingPdu.{ClosingPdu}
use Rattle.frame.specs.declared.Read.TheVariants.{ClosingWithLengths}
use Rattle.frame.specs.Layout.{closing_of, number_of, filled, upper_or_lower, length_at, sum_lengths, lengths_of}
use Rattle.frame.specs.Counts.{closing_wrong, lengths_wrong, any_above, sum_of, list_wrong}
use Rattle.frame.specs.Reading.{read_frame, length_wrong}
use Rattle.frame.specs.Writing.{closing_control, lengths_frame, packed}
use Rattle.frame.proofs.Accepted.{Good, read_good}
use Rattle.frame.proofs.Fitting.{Fits, list_right, above_head, length_packed}
use Rattle.frame.proofs.ReadBack.{closing_fields, sealed_headed, sealed_checked}

-- the i-th length in packed lengths
abbrev length_in : List ℕ → ℕ → ℕ
length_in s i = upper_or_lower (i % 2) (be 2 s (3 * i / 2))

past_two : (v : ℕ) (r : List ℕ) (i : ℕ) → length_in (octets 3 v ++ r) (suc (suc i)) ≡ length_in r i
past_two v r i =
    let m : suc (suc i) % 2 ≡ i % 2 = omega arith in
    let d : 3 * suc (suc i) / 2 ≡ 3 + 3 * i / 2 = omega arith in
    rw (m, d, be_shift 2 (octets 3 v) r 3 (3 * i / 2) (length_octets 3 v))

unpacked : (ls : List ℕ) (i : ℕ) → any_above ls ≡ false → i < length ls → length_in (packed ls) i ≡ get_or ls i 0
unfolding packed octets be
unpacked [] i h l = absurd (omega arith)
unpacked (a ∷ []) zero h l = omega (arith, above_head a [] h)
unpacked (a ∷ []) (suc i) h l = absurd (omega arith)
unpacked (a ∷ b ∷ ls) zero h l =
    let p = above_head a (b ∷ ls) h in
    let q = above_head b ls p.1 in
    omega arith
unpacked (a ∷ b ∷ ls) (suc zero) h l =
    let p = above_head a (b ∷ ls) h in
    let q = above_head b ls p.1 in
    omega arith
unpacked (a ∷ b ∷ ls) (suc (suc i)) h l =
    past_two (a * 4096 + b) (packed ls) i ∙ unpacked ls i (above_head b ls (above_head a (b ∷ ls) h).1).1 (omega arith)

sum_append : (xs ys : List ℕ) → sum_of (xs ++ ys) ≡ sum_of xs + sum_of ys
unfolding sum_of
sum_append [] ys = omega arith
sum_append (x ∷ xs) ys = omega (arith, sum_append xs ys)

-- lengths from the i-th on are those of a list, where each is
listed_as : (s ls : List ℕ) (i n : ℕ) → ((j : ℕ) → j < n → length_at s (i + j) ≡ get_or ls j 0) → length ls ≡ n → lengths_of s i n ≡ ls
unfolding lengths_of
listed_as s [] i zero h e = refl
listed_as s (a ∷ ls) i zero h e = absurd (omega arith)
listed_as s [] i (suc n) h e = absurd (omega arith)
listed_as s (a ∷ ls) i (suc n) h e =
    let first : length_at s i ≡ a = rw add-zero at (h 0 (omega arith)) in
    let later : (j : ℕ) → j < n → length_at s (suc i + j) ≡ get_or ls j 0 = λ j l. ap (length_at s) (suc-add i j ∙ sym (add-suc i j)) ∙ h (suc j) (omega arith) in
    rw (first, listed_as s ls (suc i) n later (omega arith))

module _ (pre ls : List ℕ) (l19 : length pre ≡ 19) (above : any_above ls ≡ false) where
  -- each length of a frame, behind the 19 octets before them
  length_behind : (i : ℕ) → i < length ls → length_at (pre ++ packed ls) i ≡ get_or ls i 0
  unfolding length_at
  length_behind i h = rw (be_shift 2 pre (packed ls) 19 (3 * i / 2) l19) (unpacked ls i above h)

  sum_upto : (n : ℕ) → n ≤ length ls → sum_lengths (pre ++ packed ls) n ≡ sum_of (take n ls)
  unfolding sum_lengths sum_of
  sum_upto zero h = refl
  sum_upto (suc n) h =
      rw (take-suc ls n 0 h, sum_append, sum_upto n (omega arith), length_behind n h) (omega arith)

  sum_behind : sum_lengths (pre ++ packed ls) (length ls) ≡ sum_of ls
  sum_behind = sum_upto (length ls) (omega arith) ∙ ap sum_of (take-length ls)

lengths_counted : (s : List ℕ) (c : ClosingPdu) → closing_wrong c ≡ false → sum_lengths s c.number.0 ≡ c.elapsed.0 → lengths_wrong s c ≡ false
unfolding lengths_wrong
lengths_counted s c w e = simp (w, eq-eqb _ _ e)

lengths_sized : (s : List ℕ) → length s ≡ 19 + filled (number_of s) → length_wrong 3 s ≡ false
lengths_sized s e = simp (le-ltb (length s) (19 + filled (number_of s)) (omega arith), le-ltb (19 + filled (number_of s) + 4) (length s) (omega arith))

module _ (c : ClosingPdu) (ls : List ℕ) (st : c.stamp ≤ last_stamp) (f : Fits c) (b : list_wrong ls c.number.0 c.elapsed.0 ≡ false) where
  abbrev k : List ℕ
  k = closing_control 3 c

  abbrev checks : List ℕ
  checks = octets 2 (header_check k * 1024 + payload_check (packed ls))

  lengths_fields : closing_of (lengths_frame c ls) ≡ c
  unfolding octets lengths_frame
  lengths_fields = closing_fields 3 c (checks ++ packed ls) f st

  lengths_good : Good (lengths_frame c ls)
  unfolding octets lengths_frame
  lengths_good =
      let e = lengths_fields in
      let n : number_of (lengths_frame c ls) ≡ c.number.0 = ap (λ (x : ClosingPdu). x.number.0) e in
      let r = list_right ls c.number.0 c.elapsed.0 b in
      let w = length_packed ls in
      let s : sum_lengths (lengths_frame c ls) c.number.0 ≡ c.elapsed.0 = ap (sum_lengths (lengths_frame c ls)) (sym r.0) ∙ sum_behind (k ++ checks) ls refl r.1 ∙ r.2 in
      record {
        some = omega arith;
        not_two = λ h. omega (arith, h);
        known = omega arith;
        long = omega arith;
        headed = sealed_headed k (packed ls) 17 refl;
        stamped = omega (arith, ap (λ (x : ClosingPdu). x.stamp) e);
        sized = lengths_sized (lengths_frame c ls) (omega arith);
        checked = sealed_checked k (packed ls) 17 refl;
        counted = ap (lengths_wrong (lengths_frame c ls)) e ∙ lengths_counted (lengths_frame c ls) c f.counts s;
      }

  pub lengths_back : read_frame (lengths_frame c ls) ≡ ClosingWithLengths c
  unfolding octets lengths_frame
  lengths_back = read_good (lengths_frame c ls) lengths_good ∙ ap ClosingWithLengths lengths_fields

  -- each length
  pub length_back : (i : ℕ) → i < c.number.0 → length_at (lengths_frame c ls) i ≡ get_or ls i 0
  unfolding octets lengths_frame
  length_back i h =
      let r = list_right ls c.number.0 c.elapsed.0 b in
      length_behind (k ++ checks) ls refl r.1 i (omega (arith, r.0))

  -- and the list of them
  pub list_back : lengths_of (lengths_frame c ls) 0 c.number.0 ≡ ls
  list_back =
      let r = list_right ls c.number.0 c.elapsed.0 b in
      listed_as (lengths_frame c ls) ls 0 c.number.0 (λ j l. ap (length_at (lengths_frame c ls)) (zero-add j) ∙ length_back j l) r.0
