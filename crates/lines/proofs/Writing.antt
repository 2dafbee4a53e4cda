-- Digits written from the last one on: those that stand already, and those that are left. Assumes nothing.
use Prim.Native.Nat.{ℕ, suc, ◌+◌, ◌-◌, ◌/◌, ◌%◌, ◌^◌, ◌≤◌, ◌<◌}
use native.Mathlib.Nat.{lt-suc_self}
use native.Mathlib.Omega.{arith}
use mathlib.Core.Path.{◌≡◌, sym, ◌∙◌}
use mathlib.Core.List.{List, [], ◌∷◌, ◌++◌, append-nil}
use lib.ListN.{length, drop, set, length-set, drop_of_length-le}
use lib.Seq.{append_snoc, drop-cons, get_or-set_same, drop-set-lt, lt-length-set}
use Rattle.lines.specs.Text.{decimal}
use Rattle.lines.proofs.Decimal.{decimal_one, decimal_more, decimal_length, length_one, one_digit, more_digits, length_more}

-- an octet stored in front of what stands behind it
stored_before : (xs s : List ℕ) (j d : ℕ) → j < length s → xs ++ drop j (set s j d) ≡ xs ++ (d ∷ []) ++ drop (suc j) s
stored_before xs s j d h =
    let e : drop j (set s j d) ≡ d ∷ drop (suc j) s = drop-cons (set s j d) j 0 (lt-length-set s j d h) ∙ rw (get_or-set_same s j d 0 h, drop-set-lt (suc j) s j d (lt-suc_self j)) in
    rw e (sym (append_snoc xs d (drop (suc j) s)))

-- the last digits of n stand in out, and the i digits of rest are left
pub record DigitsLeft (n : ℕ) (out : List ℕ) (i rest : ℕ) : Type 0 where
  pub below : rest < 2 ^ 64
  pub many : i ≡ length (decimal rest)
  pub in_room : i ≤ length out
  pub behind : decimal rest ++ drop i out ≡ decimal n

pub all_left : (n : ℕ) (out : List ℕ) → n < 2 ^ 64 → length out ≡ length (decimal n) → DigitsLeft n out (length out) n
all_left n out h e =
    record {
      below = h;
      many = e;
      in_room = omega arith;
      behind = let z : drop (length out) out ≡ [] = drop_of_length-le out (omega arith) in rw z (append-nil (decimal n));
    }

module _ {n : ℕ} {out : List ℕ} {i rest : ℕ} (p : DigitsLeft n out i rest) where
  -- there is one to be written
  pub one_left : (1 ≤ i) × (0 < length out)
  one_left = let m = p.many in let r = p.in_room in (omega (arith, decimal_length rest), omega (arith, decimal_length rest))

  -- one written
  pub one_written : 1 < i → DigitsLeft n (set out (i - 1) (48 + rest % 10)) (i - 1) (rest / 10)
  one_written more =
      let b = p.below in
      let m = p.many in
      let t = more_digits rest (rw m at more) in
      let j = i - 1 in
      let d = 48 + rest % 10 in
      let next : suc (i - 1) ≡ i = omega arith in
      let here : i - 1 < length out = let r = p.in_room in omega arith in
      record {
        below = omega arith;
        many = omega (arith, length_more rest b t);
        in_room = simp length-set (omega arith);
        behind = stored_before (decimal (rest / 10)) out j d here ∙ rw (← (decimal_more rest b t), next) p.behind;
      }

  module _ (one : i ≤ 1) where
    pub units : rest < 10
    units = one_digit rest p.below (rw p.many at one)

    -- the last one written
    pub all_written : set out 0 (48 + rest) ≡ decimal n
    all_written =
        let o : i ≡ 1 = p.many ∙ length_one rest units in
        let e = rw (decimal_one rest units, o) at p.behind in
        stored_before [] out 0 (48 + rest) one_left.1 ∙ e
