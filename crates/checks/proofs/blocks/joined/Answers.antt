-- `checks::blocks::joined` meets its contract: two words in place of four, one in place of two. Assumes nothing.
use mathlib.Core.Path.{◌≡◌, refl, ap, sym, ◌∙◌}
use mathlib.Core.List.{[], ◌∷◌}
use Prim.Native.Nat.{ℕ}
use native.Mathlib.Omega.{arith}
use lib.ListN.{get_or, length}
use Rattle.checks.specs.Inside.{value}
use Rattle.checks.proofs.Folding.{eight, joint}
use Rattle.checks.proofs.ShortSums.{payload, payload_64, payload_128, payload_256}
use Rattle.checks.proofs.blocks.joined.Goals as goal

pub returns : goal.returns
returns c =
    let a = c.args.a in
    let w : ℕ → ℕ = λ i. get_or a i 0 in
    let l : 8 ≡ length a = omega arith in
    let f1 = joint payload (1 ∷ 4 ∷ 6 ∷ []) (w 0 ∷ []) (w 1 ∷ []) (w 0) (w 1) c.with.result payload_64 refl refl c.with.ensures in
    let f2 = joint payload (1 ∷ 4 ∷ 6 ∷ []) (w 2 ∷ []) (w 3 ∷ []) (w 2) (w 3) c.with-2.result payload_64 refl refl c.with-2.ensures in
    let p = joint payload (2 ∷ 8 ∷ 12 ∷ []) (w 0 ∷ w 1 ∷ []) (w 2 ∷ w 3 ∷ []) c.with.result c.with-2.result c.with-p.result payload_128 f1 f2 c.with-p.ensures in
    let f4 = joint payload (1 ∷ 4 ∷ 6 ∷ []) (w 4 ∷ []) (w 5 ∷ []) (w 4) (w 5) c.with-3.result payload_64 refl refl c.with-3.ensures in
    let f5 = joint payload (1 ∷ 4 ∷ 6 ∷ []) (w 6 ∷ []) (w 7 ∷ []) (w 6) (w 7) c.with-4.result payload_64 refl refl c.with-4.ensures in
    let q = joint payload (2 ∷ 8 ∷ 12 ∷ []) (w 4 ∷ w 5 ∷ []) (w 6 ∷ w 7 ∷ []) c.with-3.result c.with-4.result c.with-q.result payload_128 f4 f5 c.with-q.ensures in
    joint payload (4 ∷ 16 ∷ 24 ∷ []) (w 0 ∷ w 1 ∷ w 2 ∷ w 3 ∷ []) (w 4 ∷ w 5 ∷ w 6 ∷ w 7 ∷ []) c.with-p.result c.with-q.result c.with-5.result payload_256 p q c.with-5.ensures
    ∙ ap value (sym (eight a l))
