-- The numbers of a line are found again from its text: no two lists of numbers have the same. Assumes nothing.
use Prim.Native.Nat.{ℕ, suc, ◌<◌, ◌^◌}
use mathlib.Core.Path.{◌≡◌, refl, sym, ap, ◌∙◌}
use mathlib.Core.List.{List, [], ◌∷◌, ◌++◌, append_assoc}
use native.Mathlib.Omega.{arith}
use lib.ListN.{length, get_or}
use Rattle.lines.specs.Text.{decimal, field, fields_of, line}
use Rattle.lines.proofs.Decimal.{Digit, decimal_digits, decimal_injective}

-- what stands behind the same text is the same
same_behind : (xs ys zs : List ℕ) → xs ++ ys ≡ xs ++ zs → ys ≡ zs
same_behind [] ys zs e = e
same_behind (x ∷ xs) ys zs e = same_behind xs ys zs cc

-- digits end where something else stands
abbrev Digits : List ℕ → Type 0
Digits ds = (i : ℕ) → i < length ds → Digit (get_or ds i 0)

later : (d : ℕ) (ds : List ℕ) → Digits (d ∷ ds) → Digits ds
later d ds h i l = h (suc i) (omega arith)

digits_end : (ds es : List ℕ) (x y : ℕ) (xs ys : List ℕ) → Digits ds → Digits es → (Digit x → ⊥) → (Digit y → ⊥) → ds ++ (x ∷ xs) ≡ es ++ (y ∷ ys)
    → (ds ≡ es) × (x ∷ xs ≡ y ∷ ys)
digits_end [] [] x y xs ys h g p q e = (refl, e)
digits_end [] (c ∷ es) x y xs ys h g p q e =
    let z : x ≡ c = cc in
    absurd (p (rw z (g 0 (omega arith))))
digits_end (d ∷ ds) [] x y xs ys h g p q e =
    let z : d ≡ y = cc in
    absurd (q (rw (sym z) (h 0 (omega arith))))
digits_end (d ∷ ds) (c ∷ es) x y xs ys h g p q e =
    let r = digits_end ds es x y xs ys (later d ds h) (later c es g) p q cc in
    let z : d ≡ c = cc in
    (rw (z, r.0) refl, r.1)

-- numbers of at most 64 bits
pub data Narrow : List ℕ → Type 0 where
  none : Narrow []
  more : (n : ℕ) (ns : List ℕ) → n < 2 ^ 64 → Narrow ns → Narrow (n ∷ ns)

-- behind a number comes a space or the line's end
abbrev rest : List ℕ → List ℕ
rest ns = fields_of ns ++ (10 ∷ [])

module _ (n m : ℕ) (n-narrow : n < 2 ^ 64) (m-narrow : m < 2 ^ 64) where
  numbers_end : (x y : ℕ) (xs ys : List ℕ) → (Digit x → ⊥) → (Digit y → ⊥) → decimal n ++ (x ∷ xs) ≡ decimal m ++ (y ∷ ys) → (n ≡ m) × (x ∷ xs ≡ y ∷ ys)
  numbers_end x y xs ys p q e =
      let r = digits_end (decimal n) (decimal m) x y xs ys (decimal_digits n) (decimal_digits m) p q e in
      (decimal_injective n m n-narrow m-narrow r.0, r.1)

  first_found : (ns ms : List ℕ) → decimal n ++ rest ns ≡ decimal m ++ rest ms → (n ≡ m) × (rest ns ≡ rest ms)
  unfolding fields_of field
  first_found [] [] e = numbers_end 10 10 [] [] (λ d. omega (arith, d.0)) (λ d. omega (arith, d.0)) e
  first_found [] (b ∷ ms) e = numbers_end 10 32 [] _ (λ d. omega (arith, d.0)) (λ d. omega (arith, d.0)) e
  first_found (a ∷ ns) [] e = numbers_end 32 10 _ [] (λ d. omega (arith, d.0)) (λ d. omega (arith, d.0)) e
  first_found (a ∷ ns) (b ∷ ms) e = numbers_end 32 32 _ _ (λ d. omega (arith, d.0)) (λ d. omega (arith, d.0)) e

behind_space : (n : ℕ) (ns : List ℕ) → rest (n ∷ ns) ≡ 32 ∷ (decimal n ++ rest ns)
unfolding fields_of field
behind_space n ns = ap (λ (xs : List ℕ). 32 ∷ xs) (append_assoc (decimal n) (fields_of ns) (10 ∷ []))

fields_found : (ns ms : List ℕ) → Narrow ns → Narrow ms → rest ns ≡ rest ms → ns ≡ ms
unfolding fields_of
fields_found [] [] h g e = refl
fields_found [] (m ∷ ms) h g e =
    let q : 10 ∷ [] ≡ 32 ∷ (decimal m ++ rest ms) = e ∙ behind_space m ms in
    let z : ◌≡◌ {A = ℕ} 10 32 = cc in
    absurd (omega (arith, z))
fields_found (n ∷ ns) [] h g e =
    let q : 32 ∷ (decimal n ++ rest ns) ≡ 10 ∷ [] = sym (behind_space n ns) ∙ e in
    let z : ◌≡◌ {A = ℕ} 32 10 = cc in
    absurd (omega (arith, z))
fields_found (n ∷ ns) (m ∷ ms) (more _ _ a h) (more _ _ b g) e =
    let q : 32 ∷ (decimal n ++ rest ns) ≡ 32 ∷ (decimal m ++ rest ms) = sym (behind_space n ns) ∙ e ∙ behind_space m ms in
    let f = first_found n m a b ns ms cc in
    rw (f.0, fields_found ns ms h g f.1) refl

pub line_found : (word ns ms : List ℕ) → Narrow ns → Narrow ms → line word ns ≡ line word ms → ns ≡ ms
unfolding line
line_found word ns ms h g e =
    let a = append_assoc word (fields_of ns) (10 ∷ []) in
    let b = append_assoc word (fields_of ms) (10 ∷ []) in
    fields_found ns ms h g (same_behind word (rest ns) (rest ms) (sym a ∙ e ∙ b))
