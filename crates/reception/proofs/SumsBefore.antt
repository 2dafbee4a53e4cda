-- The octets before a place of a sending, and a list of short lengths made to a sum. Assumes nothing.
use Prim.Native.Nat.{ℕ, zero, suc, ◌+◌, ◌*◌, ◌-◌, ◌≤◌, min}
use mathlib.Core.Path.{◌≡◌, refl, ap}
use mathlib.Core.List.{List, [], ◌∷◌, ◌++◌}
use native.Mathlib.Decide.{le_ind}
use native.Mathlib.Omega.{arith}
use lib.ListN.{length, get_or, take}
use Rattle.units.specs.Limits.{most_payload}
use Rattle.frame.specs.Counts.{sum_of}

-- each length is at most 4,095
abbrev pub Short : List ℕ → Type 0
Short s = (k : ℕ) → get_or s k 0 ≤ most_payload

-- the octets before place k
abbrev pub before : List ℕ → ℕ → ℕ
before s k = sum_of (take k s)

pub before_start : (s : List ℕ) → before s 0 ≡ 0
unfolding sum_of
before_start s = refl

pub before_next : (s : List ℕ) (k : ℕ) → before s (suc k) ≡ before s k + get_or s k 0
unfolding sum_of
before_next [] zero = refl
before_next [] (suc k) = refl
before_next (x ∷ s) zero = omega arith
before_next (x ∷ s) (suc k) = omega (arith, before_next s k)

pub before_end : (s : List ℕ) → before s (length s) ≡ sum_of s
unfolding sum_of
before_end [] = refl
before_end (x ∷ s) = omega (arith, before_end s)

pub sum_append : (s t : List ℕ) → sum_of (s ++ t) ≡ sum_of s + sum_of t
unfolding sum_of
sum_append [] t = omega arith
sum_append (x ∷ s) t = omega (arith, sum_append s t)

pub short_append : (s t : List ℕ) → Short s → Short t → Short (s ++ t)
short_append [] t a b k = b k
short_append (x ∷ s) t a b zero = a 0
short_append (x ∷ s) t a b (suc k) = short_append s t (λ j. a (suc j)) b k

-- from place i to place j the octets do not fall, and rise by at most 4,095 for each packet
pub climb : (s : List ℕ) → Short s → (i j : ℕ) → i ≤ j
    → (before s i ≤ before s j) × (before s j + most_payload * i ≤ before s i + most_payload * j)
climb s ok i =
    le_ind (λ (j : ℕ). (before s i ≤ before s j) × (before s j + most_payload * i ≤ before s i + most_payload * j)) (omega arith)
    (λ m h p. omega (arith, before_next s m, ok m))

-- n lengths with the sum d, where 4,095 for each is enough
unfoldable pub spread : ℕ → ℕ → List ℕ
spread zero d = []
spread (suc n) d = min d most_payload ∷ spread n (d - most_payload)

pub length_spread : (n d : ℕ) → length (spread n d) ≡ n
unfolding spread
length_spread zero d = refl
length_spread (suc n) d = ap suc (length_spread n (d - most_payload))

pub sum_spread : (n d : ℕ) → d ≤ most_payload * n → sum_of (spread n d) ≡ d
unfolding spread sum_of
sum_spread zero d h = omega arith
sum_spread (suc n) d h = omega (arith, sum_spread n (d - most_payload) (omega arith))

pub short_spread : (n d : ℕ) → Short (spread n d)
unfolding spread
short_spread zero d k = omega arith
short_spread (suc n) d zero = omega arith
short_spread (suc n) d (suc k) = short_spread n (d - most_payload) k
