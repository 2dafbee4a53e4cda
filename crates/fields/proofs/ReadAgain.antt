-- Numbers in octets, at every width: what is written is read again, what is read is written again, and what w octets hold is
-- below 256 ^ w. Assumes nothing.
use Prim.Native.Nat.{ℕ, zero, suc, ◌+◌, ◌*◌, ◌/◌, ◌%◌, ◌^◌, ◌<◌, ◌≤◌}
use native.Mathlib.Nat.{pow-suc, pow-le-pow_right, add_assoc, add-zero, zero-mul, zero-add}
use native.Mathlib.Numerals.{add-one}
use native.Mathlib.Omega.{arith}
use mathlib.Core.Path.{◌≡◌, refl, ◌∙◌}
use mathlib.Core.List.{List, [], ◌∷◌, ◌++◌, append_assoc}
use lib.ListN.{length, get_or, take, drop, length-append, length-drop}
use lib.Seq.{get_or-append-add, get_or_at, take-suc, get_or-drop}
use Rattle.fields.specs.Numbers.{be, octets}

-- few octets, written out
pub be_one : (s : List ℕ) (i : ℕ) → be 1 s i ≡ get_or s i 0
unfolding be
be_one s i = rw (add-zero, zero-mul, zero-add)

pub be_two : (s : List ℕ) (i : ℕ) → be 2 s i ≡ get_or s i 0 * 256 + get_or s (i + 1) 0
unfolding be
be_two s i = rw (add-zero, zero-mul, zero-add)

pub be_three : (s : List ℕ) (i : ℕ) → be 3 s i ≡ (get_or s i 0 * 256 + get_or s (i + 1) 0) * 256 + get_or s (i + 2) 0
unfolding be
be_three s i = rw (add-zero, zero-mul, zero-add)

-- an octet behind a number below 256 ^ k makes one below 256 ^ suc k
pub octet_behind : (k v b : ℕ) → v < 256 ^ k → b < 256 → v * 256 + b < 256 ^ suc k
octet_behind k v b hv hb = rw pow-suc (omega arith)

-- seven octets leave room for an eighth in 64 bits
pub room : (k : ℕ) → k ≤ 7 → 256 ^ k ≤ 72057594037927936
room k h = pow-le-pow_right (omega arith) h

pub be_lt : (s : List ℕ) → ((i : ℕ) → get_or s i 0 < 256) → (w i : ℕ) → be w s i < 256 ^ w
unfolding be
be_lt s h zero i = omega arith
be_lt s h (suc w) i = octet_behind w (be w s i) (get_or s (i + w) 0) (be_lt s h w i) (h (i + w))

pub length_octets : (w v : ℕ) → length (octets w v) ≡ w
unfolding octets
length_octets zero v = refl
length_octets (suc w) v = simp (length-append, length_octets w (v / 256)) (add-one w)

-- what is written is read again, wherever it stands
pub be_at : (w v : ℕ) (p q : List ℕ) → v < 256 ^ w → be w (p ++ (octets w v ++ q)) (length p) ≡ v
unfolding be octets
be_at zero v p q h = omega arith
be_at (suc w) v p q h =
    let d : v / 256 < 256 ^ w = omega (arith, rw pow-suc at h) in
    let l : octets w (v / 256) ++ (v % 256 ∷ []) ++ q ≡ octets w (v / 256) ++ (v % 256 ∷ q) = append_assoc (octets w (v / 256)) (v % 256 ∷ []) q in
    let hi = be_at w (v / 256) p (v % 256 ∷ q) d in
    let lo : get_or (p ++ (octets w (v / 256) ++ (v % 256 ∷ q))) (length p + w) 0 ≡ v % 256 = get_or-append-add p (octets w (v / 256) ++ (v % 256 ∷ q)) w 0 ∙ get_or_at (octets w (v / 256)) (v % 256) q 0 w (length_octets w (v / 256)) in
    rw (l, hi, lo) (omega arith)

-- what is read is written again
pub octets_be : (w i : ℕ) (s : List ℕ) → ((j : ℕ) → get_or s j 0 < 256) → i + w ≤ length s → octets w (be w s i) ≡ take w (drop i s)
unfolding octets be
octets_be zero i s o h = refl
octets_be (suc w) i s o h =
    let b = o (i + w) in
    let hi : (be w s i * 256 + get_or s (i + w) 0) / 256 ≡ be w s i = omega arith in
    let lo : (be w s i * 256 + get_or s (i + w) 0) % 256 ≡ get_or s (i + w) 0 = omega arith in
    let l : w < length (drop i s) = simp length-drop (omega arith) in
    rw (hi, lo, octets_be w i s o (omega arith), take-suc (drop i s) w 0 l, get_or-drop)

-- a field behind a first part is a field of the rest
pub be_shift : (w : ℕ) (p q : List ℕ) (n i : ℕ) → length p ≡ n → be w (p ++ q) (n + i) ≡ be w q i
unfolding be
be_shift zero p q n i e = refl
be_shift (suc w) p q n i e =
    let g : get_or (p ++ q) (n + i + w) 0 ≡ get_or q (i + w) 0 = rw (← e, add_assoc) (get_or-append-add p q (i + w) 0) in
    rw (be_shift w p q n i e, g)
