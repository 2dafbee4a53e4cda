-- Checking is linear, for every generator: the check of two rows added place by place is the sum of their checks.
-- Assumes nothing.
use mathlib.Core.Path.{◌≡◌, sym, ap, ap₂, ◌∙◌}
use mathlib.Core.List.{List, [], ◌∷◌}
use Prim.Native.Nat.{ℕ, ◌^◌, ◌<◌}
use native.Mathlib.Omega.{arith}
use lib.Pow.{pow_pos}
use lib.ListN.{length}
use lib.Bits.{bit_xor}
use Rattle.checks.specs.Check.{check}
use Rattle.checks.specs.Inside.{Generator, feed}
use Rattle.checks.specs.Rows.{added}
use Rattle.checks.proofs.Division.{feed_lt, feed_xor}
use Rattle.checks.proofs.Rows.{run, run_nil, run_cons, run_lt, check_run}

module _ {g k : ℕ} (G : Generator g k) where
  run_xor : (xs ys : List ℕ) (r s : ℕ) → length xs ≡ length ys → r < 2 ^ k → s < 2 ^ k
      → run g k (bit_xor r s) (added xs ys) ≡ bit_xor (run g k r xs) (run g k s ys)
  unfolding added
  run_xor [] [] r s e hr hs = run_nil g k (bit_xor r s) ∙ ap₂ bit_xor (sym (run_nil g k r)) (sym (run_nil g k s))
  run_xor [] (y ∷ ys) r s e hr hs = absurd (omega arith)
  run_xor (x ∷ xs) [] r s e hr hs = absurd (omega arith)
  run_xor (x ∷ xs) (y ∷ ys) r s e hr hs =
      run_cons g k (bit_xor r s) (bit_xor x y) (added xs ys)
      ∙ ap (λ (m : ℕ). run g k m (added xs ys)) (feed_xor G 8 r s x y hr hs)
      ∙ run_xor xs ys (feed g k 8 r x) (feed g k 8 s y) (omega arith) (feed_lt G 8 r x hr) (feed_lt G 8 s y hs)
      ∙ ap₂ bit_xor (sym (run_cons g k r x xs)) (sym (run_cons g k s y ys))

  pub check_added : (xs ys : List ℕ) → length xs ≡ length ys → check g k (added xs ys) ≡ bit_xor (check g k xs) (check g k ys)
  check_added xs ys e =
      check_run g k (added xs ys)
      ∙ ap (λ (m : ℕ). feed g k k m 0) (run_xor xs ys 0 0 e (pow_pos k) (pow_pos k))
      ∙ feed_xor G k (run g k 0 xs) (run g k 0 ys) 0 0 (run_lt G 0 xs (pow_pos k)) (run_lt G 0 ys (pow_pos k))
      ∙ ap₂ bit_xor (sym (check_run g k xs)) (sym (check_run g k ys))
