-- `printout::begin` meets its contract. Assumes nothing.
use Rattle.std.proofs.Common.{refl, ap, ◌∙◌, ℕ, replicate}
use Rattle.hearing.specs.declared.contradicting.Span.{Span}
use Rattle.hearing.proofs.Cleared.{heard_outside}
use Rattle.printout.specs.Stepping.{between_in}
use Rattle.printout.proofs.StaysReady.{placed_lists}
use Rattle.printout.proofs.Stepped.{all_outside, keyed}
use Rattle.printout.proofs.begin.Goals as goal
use Rattle.printout.proofs.begin.Goals.{in-Some, in-None}

pub clear_heard-requires : goal.clear_heard-requires
clear_heard-requires c =
    let y = c.requires.placed in
    let m = placed_lists _ _ _ _ y in
    elim c.match-g.branch [
      | in-Some w ↦ let h = rw w.in-Some.is at y.heard in rw w.held-is (heard_outside w.in-Some.b.head _ _ _ _ m h.before h.from_end h.undamaged)
      | in-None w ↦ rw (w.held-is, w.whole-held.ensures) (all_outside _ _ _ m)
    ]

pub returns : goal.returns
returns c =
    let a = c.args in
    let q = ap (λ (n : ℕ). replicate {A = ℕ} n 0) c.requires.placed.marks_long in
    let z = c.clear_heard.ensures in
    keyed (between_in a.g a.marks.now a.elapsed.now a.sizes.now) _ c.requires.stamp_bound _ _ _ _ _ _ _ _ _ c.account_before.ensures c.open_head.ensures (z.0 ∙ q) (z.1 ∙ q) (z.2 ∙ q)
    (ap (λ (x : Span). x.end) c.empty_span.ensures) refl refl
