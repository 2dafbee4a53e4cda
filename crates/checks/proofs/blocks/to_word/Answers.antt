-- `checks::blocks::to_word` meets its contract: the block leaves what the octets so far leave. Assumes nothing.
use mathlib.Core.Path.{◌≡◌, ap, ◌∙◌}
use mathlib.Core.List.{[], ◌∷◌}
use Prim.Native.Nat.{◌%◌, ◌+◌}
use native.Mathlib.Omega.{arith}
use lib.ListN.{length}
use Rattle.checks.specs.Inside.{passed}
use Rattle.checks.proofs.Folding.{lead}
use Rattle.checks.proofs.ShortSums.{payload, payload_64, payload_38}
use Rattle.checks.proofs.blocks.to_word.Goals as goal

pub loop-k-init : goal.loop-k-init
loop-k-init c =
    let s = c.args.s.now in
    let x = c.in_one_word-x.result in
    let e : length s % 64 ≡ length s % 64 + 0 = omega arith in
    lead payload (0 ∷ 0 ∷ 0 ∷ 0 ∷ 0 ∷ 0 ∷ x ∷ [])
    ∙ lead payload (0 ∷ 0 ∷ 0 ∷ 0 ∷ 0 ∷ x ∷ [])
    ∙ lead payload (0 ∷ 0 ∷ 0 ∷ 0 ∷ x ∷ [])
    ∙ lead payload (0 ∷ 0 ∷ 0 ∷ x ∷ [])
    ∙ lead payload (0 ∷ 0 ∷ x ∷ [])
    ∙ lead payload (0 ∷ x ∷ [])
    ∙ lead payload (x ∷ [])
    ∙ c.in_one_word-x.ensures.same payload payload_64 payload_38
    ∙ ap (passed 0x633 10 s) e
