-- Decimal digits say their number, and in one way only: each is one of '0' to '9', there are one to twenty of them, and none is a
-- leading zero. Assumes nothing.
use Prim.Native.Nat.{ℕ, zero, suc, ◌+◌, ◌-◌, ◌*◌, ◌/◌, ◌%◌, ◌^◌, ◌≤◌, ◌<◌, max}
use native.Mathlib.Nat.{pow-suc}
use Rattle.std.proofs.Math.Nat.{one-le-pow}
use native.Mathlib.Omega.{arith}
use mathlib.Core.Path.{◌≡◌, refl, sym, ap, ◌∙◌}
use mathlib.Core.Logic.{◌⊎◌, inl, inr, ⊎_elim}
use mathlib.Core.Bool.{true, false}
use mathlib.Core.List.{List, [], ◌∷◌, ◌++◌}
use borrow.Author.Tests.{ltb-true, ltb-false, lt-ltb, le-ltb}
use lib.Dec.{ltb}
use lib.ListN.{length, get_or, length-append, get_or-append}
use lib.Seq.{get_or_at}
use Rattle.fields.proofs.Tests.{either}
use Rattle.lines.specs.Text.{digits_within, decimal, value_behind, value}

-- below ten, or not
one-digit? : (n : ℕ) → (n < 10) ⊎ (10 ≤ n)
one-digit? n =
    ⊎_elim (λ (t : ltb n 10 ≡ true). inl (ltb-true n 10 t)) (λ (t : ltb n 10 ≡ false). inr (ltb-false n 10 t)) (either (ltb n 10))

-- below ten: one digit
within_one : (k n : ℕ) → n < 10 → digits_within (suc k) n ≡ (48 + n) ∷ []
unfolding digits_within
within_one k n h = rw (lt-ltb n 10 h)

-- from ten on: the digits of the tens, and that of the units
within_more : (k n : ℕ) → 10 ≤ n → digits_within (suc k) n ≡ digits_within k (n / 10) ++ ((48 + n % 10) ∷ [])
unfolding digits_within
within_more k n h = rw (le-ltb n 10 h)

-- what holds of both holds of all digits
by_digits : (P : List ℕ → Type 0) (k n : ℕ) → (n < 10 → P ((48 + n) ∷ [])) → (10 ≤ n → P (digits_within k (n / 10) ++ ((48 + n % 10) ∷ [])))
    → P (digits_within (suc k) n)
by_digits P k n p q =
    ⊎_elim (λ (h : n < 10). rw (within_one k n h) (p h)) (λ (h : 10 ≤ n). rw (within_more k n h) (q h)) (one-digit? n)

-- the tens of a number with room for one digit more
tens_within : (k n : ℕ) → n < 10 ^ suc k → n / 10 < 10 ^ k
tens_within k n h = omega (arith, rw pow-suc at h)

value_snoc : (v d : ℕ) (ds : List ℕ) → value_behind v (ds ++ (d ∷ [])) ≡ value_behind v ds * 10 + (d - 48)
unfolding value_behind
value_snoc v d [] = refl
value_snoc v d (x ∷ ds) = value_snoc (v * 10 + (x - 48)) d ds

value_within : (k n : ℕ) → n < 10 ^ k → value (digits_within k n) ≡ n
unfolding digits_within value_behind
value_within zero n h = omega arith
value_within (suc k) n h =
    by_digits (λ (ds : List ℕ). value ds ≡ n) k n
    (λ (l : n < 10). omega arith)
    (λ (l : 10 ≤ n). value_snoc 0 (48 + n % 10) (digits_within k (n / 10)) ∙ rw (value_within k (n / 10) (tens_within k n h)) (omega arith))

-- room for one digit more changes nothing
within_enough : (k n : ℕ) → n < 10 ^ suc k → digits_within (suc k) n ≡ digits_within (suc (suc k)) n
within_enough zero n h = within_one 0 n (omega arith) ∙ sym (within_one 1 n (omega arith))
within_enough (suc k) n h =
    by_digits (λ (ds : List ℕ). ds ≡ digits_within (suc (suc (suc k))) n) (suc k) n
    (λ (l : n < 10). sym (within_one (suc (suc k)) n l))
    (λ (l : 10 ≤ n). rw (within_enough k (n / 10) (tens_within (suc k) n h)) (sym (within_more (suc (suc k)) n l)))

-- a number of 64 bits has room
sixty_four : (n : ℕ) → n < 2 ^ 64 → n < 10 ^ 20
sixty_four n h = omega arith

-- "Numbers are decimal": the digits of a number say it
pub value_decimal : (n : ℕ) → n < 2 ^ 64 → value (decimal n) ≡ n
unfolding decimal
value_decimal n h = value_within 20 n (sixty_four n h)

-- two numbers with the same digits are the same
pub decimal_injective : (m n : ℕ) → m < 2 ^ 64 → n < 2 ^ 64 → decimal m ≡ decimal n → m ≡ n
decimal_injective m n hm hn e = sym (value_decimal m hm) ∙ ap (λ (ds : List ℕ). value ds) e ∙ value_decimal n hn

-- below ten: one digit
pub decimal_one : (n : ℕ) → n < 10 → decimal n ≡ (48 + n) ∷ []
unfolding decimal
decimal_one n h = within_one 19 n h

-- from ten on: the digits of the tens, and that of the units
pub decimal_more : (n : ℕ) → n < 2 ^ 64 → 10 ≤ n → decimal n ≡ decimal (n / 10) ++ ((48 + n % 10) ∷ [])
unfolding decimal
decimal_more n h l =
    within_more 19 n l ∙ ap (λ (ds : List ℕ). ds ++ ((48 + n % 10) ∷ [])) (within_enough 18 (n / 10) (tens_within 19 n (sixty_four n h)))

-- one digit at least
some_within : (k n : ℕ) → 1 ≤ length (digits_within (suc k) n)
some_within k n =
    by_digits (λ (ds : List ℕ). 1 ≤ length ds) k n (λ (h : n < 10). omega arith) (λ (h : 10 ≤ n). simp length-append (omega arith))

most_within : (k n : ℕ) → length (digits_within k n) ≤ k
unfolding digits_within
most_within zero n = omega arith
most_within (suc k) n =
    by_digits (λ (ds : List ℕ). length ds ≤ suc k) k n
    (λ (h : n < 10). omega arith)
    (λ (h : 10 ≤ n). simp length-append (omega (arith, most_within k (n / 10))))

-- one to twenty digits
pub decimal_length : (n : ℕ) → (1 ≤ length (decimal n)) × (length (decimal n) ≤ 20)
unfolding decimal
decimal_length n = (some_within 19 n, most_within 20 n)

-- an element of a row with one more behind it
snoc_cases : (P : ℕ → Type 0) (xs : List ℕ) (d i : ℕ) → i < length (xs ++ (d ∷ [])) → (i < length xs → P (get_or xs i 0)) → P d → P (get_or (xs ++ (d ∷ [])) i 0)
snoc_cases P xs d i h p q =
    ⊎_elim
    (λ (t : ltb i (length xs) ≡ true). let l : i < length xs = ltb-true i (length xs) t in rw (get_or-append xs (d ∷ []) 0 i l) (p l))
    (λ (t : ltb i (length xs) ≡ false).
    let l : length xs ≤ i = ltb-false i (length xs) t in
    let e : length xs ≡ i = omega (arith, simp length-append at h) in
    rw (get_or_at xs d [] 0 i e) q)
    (either (ltb i (length xs)))

-- an octet from '0' to '9'
abbrev pub Digit : ℕ → Type 0
Digit d = (48 ≤ d) × (d ≤ 57)

digits_within_lem : (k n i : ℕ) → i < length (digits_within k n) → Digit (get_or (digits_within k n) i 0)
unfolding digits_within
digits_within_lem zero n i h = absurd (omega arith)
digits_within_lem (suc k) n i h =
    by_digits (λ (ds : List ℕ). i < length ds → Digit (get_or ds i 0)) k n
    (λ (l : n < 10). λ (j : i < 1). snoc_cases Digit [] (48 + n) i j (λ (z : i < 0). absurd (omega arith)) (omega arith, omega arith))
    (λ (l : 10 ≤ n).
    λ (j : i < length (digits_within k (n / 10) ++ ((48 + n % 10) ∷ []))).
    snoc_cases Digit (digits_within k (n / 10)) (48 + n % 10) i j (digits_within_lem k (n / 10) i) (omega arith, omega arith))
    h

-- each is one of '0' to '9'
pub decimal_digits : (n i : ℕ) → i < length (decimal n) → Digit (get_or (decimal n) i 0)
unfolding decimal
decimal_digits n i h = digits_within_lem 20 n i h

first_within : (k n : ℕ) → n < 10 ^ k → 0 < n → 48 < get_or (digits_within k n) 0 0
first_within zero n h p = absurd (omega arith)
first_within (suc zero) n h p = rw (within_one 0 n (omega arith)) (omega arith)
first_within (suc (suc k)) n h p =
    by_digits (λ (ds : List ℕ). 48 < get_or ds 0 0) (suc k) n
    (λ (l : n < 10). omega arith)
    (λ (l : 10 ≤ n).
    rw (get_or-append (digits_within (suc k) (n / 10)) ((48 + n % 10) ∷ []) 0 0 (some_within k (n / 10)))
    (first_within (suc k) (n / 10) (tens_within (suc k) n h) (omega arith)))

-- no leading zero, unless the number is 0
pub decimal_first : (n : ℕ) → n < 2 ^ 64 → 0 < n → 48 < get_or (decimal n) 0 0
unfolding decimal
decimal_first n h p = first_within 20 n (sixty_four n h) p

-- one digit more than the tens have
pub length_more : (n : ℕ) → n < 2 ^ 64 → 10 ≤ n → length (decimal n) ≡ length (decimal (n / 10)) + 1
length_more n h l = rw (decimal_more n h l) (length-append (decimal (n / 10)) ((48 + n % 10) ∷ []))

-- below ten: one digit
pub length_one : (n : ℕ) → n < 10 → length (decimal n) ≡ 1
length_one n h = rw (decimal_one n h) refl

-- and from ten on not
pub one_digit : (n : ℕ) → n < 2 ^ 64 → length (decimal n) ≤ 1 → n < 10
one_digit n h l =
    ⊎_elim (λ (few : n < 10). few) (λ (more : 10 ≤ n). absurd (omega (arith, l, length_more n h more, decimal_length (n / 10)))) (one-digit? n)

pub more_digits : (n : ℕ) → 1 < length (decimal n) → 9 < n
more_digits n l =
    ⊎_elim (λ (few : n < 10). absurd (omega (arith, l, length_one n few))) (λ (more : 10 ≤ n). more) (one-digit? n)

-- as many as the power of ten that it reaches says
pub length_power : (k n : ℕ) → n < 2 ^ 64 → 10 ^ k ≤ n → n < 10 * 10 ^ k → length (decimal n) ≡ 1 + k
length_power zero n h l u = length_one n (omega (arith, u))
length_power (suc k) n h l u =
    let p : 10 * 10 ^ k ≤ n = omega (arith, rw pow-suc at l) in
    let q : n < 10 * (10 * 10 ^ k) = omega (arith, rw pow-suc at u) in
    let few : 1 ≤ 10 ^ k = one-le-pow k 10 (omega arith) in
    length_more n h (omega (arith, p, few)) ∙ ap (λ (d : ℕ). d + 1) (length_power k (n / 10) (omega arith) (omega (arith, p)) (omega (arith, q))) ∙ omega arith

-- and 0 has as many as 1
pub length_least : (n m k : ℕ) → n < 2 ^ 64 → m ≡ max n 1 → 10 ^ k ≤ m → m < 10 * 10 ^ k → 1 + k ≡ length (decimal n)
length_least n m k h e l u =
    sym (length_power k m (omega (arith, e)) l u)
    ∙ ⊎_elim (λ (few : n < 10). length_one m (omega (arith, e)) ∙ sym (length_one n few))
    (λ (more : 10 ≤ n). let s : m ≡ n = omega (arith, e) in ap (λ (x : ℕ). length (decimal x)) s) (one-digit? n)
