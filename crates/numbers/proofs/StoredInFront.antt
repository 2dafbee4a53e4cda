-- Stores into the first places of a list are numbers in front of it. Assumes nothing.
use Prim.Native.Nat.{ℕ, ◌≤◌}
use mathlib.Core.Path.{◌≡◌, refl}
use mathlib.Core.List.{List, [], ◌∷◌}
use native.Mathlib.Omega.{arith}
use lib.ListN.{length, set}
use Rattle.fields.specs.Runs.{front}

pub six : (s : List ℕ) (a b c d e f : ℕ) → 6 ≤ length s → set (set (set (set (set (set s 0 a) 1 b) 2 c) 3 d) 4 e) 5 f ≡ front s (a ∷ b ∷ c ∷ d ∷ e ∷ f ∷ [])
unfolding front
six [] a b c d e f h = absurd (omega arith)
six (x0 ∷ []) a b c d e f h = absurd (omega arith)
six (x0 ∷ x1 ∷ []) a b c d e f h = absurd (omega arith)
six (x0 ∷ x1 ∷ x2 ∷ []) a b c d e f h = absurd (omega arith)
six (x0 ∷ x1 ∷ x2 ∷ x3 ∷ []) a b c d e f h = absurd (omega arith)
six (x0 ∷ x1 ∷ x2 ∷ x3 ∷ x4 ∷ []) a b c d e f h = absurd (omega arith)
six (x0 ∷ x1 ∷ x2 ∷ x3 ∷ x4 ∷ x5 ∷ s) a b c d e f h = refl

pub seven : (s : List ℕ) (a b c d e f g : ℕ) → 7 ≤ length s
    → set (set (set (set (set (set (set s 0 a) 1 b) 2 c) 3 d) 4 e) 5 f) 6 g ≡ front s (a ∷ b ∷ c ∷ d ∷ e ∷ f ∷ g ∷ [])
unfolding front
seven [] a b c d e f g h = absurd (omega arith)
seven (x0 ∷ []) a b c d e f g h = absurd (omega arith)
seven (x0 ∷ x1 ∷ []) a b c d e f g h = absurd (omega arith)
seven (x0 ∷ x1 ∷ x2 ∷ []) a b c d e f g h = absurd (omega arith)
seven (x0 ∷ x1 ∷ x2 ∷ x3 ∷ []) a b c d e f g h = absurd (omega arith)
seven (x0 ∷ x1 ∷ x2 ∷ x3 ∷ x4 ∷ []) a b c d e f g h = absurd (omega arith)
seven (x0 ∷ x1 ∷ x2 ∷ x3 ∷ x4 ∷ x5 ∷ []) a b c d e f g h = absurd (omega arith)
seven (x0 ∷ x1 ∷ x2 ∷ x3 ∷ x4 ∷ x5 ∷ x6 ∷ s) a b c d e f g h = refl
