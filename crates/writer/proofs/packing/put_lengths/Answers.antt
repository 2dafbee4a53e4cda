-- `writer::packing::put_lengths` meets its contract: what is left, laid from here, is all, laid from the start. Assumes nothing.
use mathlib.Core.Path.{◌≡◌, refl, sym, ◌∙◌}
use mathlib.Core.List.{List, [], ◌∷◌}
use mathlib.Core.Bool.{false}
use Prim.Native.Nat.{ℕ, ◌+◌, ◌-◌, ◌*◌, ◌<◌, ◌≤◌}
use native.Mathlib.Omega.{arith}
use lib.ListN.{length, take, drop, get_or, length-drop}
use Rattle.fields.specs.Numbers.{octets}
use Rattle.fields.proofs.Laying.{laid_then, laid_none, to_end}
use Rattle.frame.specs.Counts.{any_above}
use Rattle.frame.specs.Layout.{filled}
use Rattle.frame.specs.Writing.{packed}
use Rattle.frame.proofs.Fitting.{above_head}
use Rattle.writer.proofs.packing.put_lengths.Goals as goal

-- what follows two lengths
abbrev more : List ℕ → List ℕ
more ls = take (length ls - 2) (drop 2 ls)

two : (ls : List ℕ) → 2 ≤ length ls → ls ≡ get_or ls 0 0 ∷ get_or ls 1 0 ∷ more ls
two [] h = absurd (omega arith)
two (a ∷ []) h = absurd (omega arith)
two (a ∷ b ∷ ls) h = rw (to_end 2 (a ∷ b ∷ ls))

one : (ls : List ℕ) → 1 ≤ length ls → length ls < 2 → ls ≡ get_or ls 0 0 ∷ []
one [] h l = absurd (omega arith)
one (a ∷ []) h l = refl
one (a ∷ b ∷ ls) h l = absurd (omega arith)

none : (ls : List ℕ) → length ls < 1 → ls ≡ []
none [] l = refl
none (a ∷ ls) l = absurd (omega arith)

-- neither of two lengths, nor what follows them, is above
short : (ls : List ℕ) → 2 ≤ length ls → any_above ls ≡ false
    → (get_or ls 0 0 ≤ 4095) × (get_or ls 1 0 ≤ 4095) × (any_above (more ls) ≡ false)
short ls h w =
    let p = above_head (get_or ls 0 0) (get_or ls 1 0 ∷ more ls) (rw (two ls h) at w) in
    let q = above_head (get_or ls 1 0) (more ls) p.1 in
    (p.0, q.0, q.1)

pub put_two-requires : goal.put_two-requires
put_two-requires c =
    let s = short _ c.in-len2-up.len_at_least c.loop-rest.invariant.1 in
    (s.0, s.1, omega arith)

pub loop-rest-preserved : goal.loop-rest-preserved
unfolding octets packed
loop-rest-preserved c =
    let l = c.loop-rest in
    let ls = l.rest.now in
    let h = c.in-len2-up.len_at_least in
    let v = get_or ls 0 0 * 4096 + get_or ls 1 0 in
    let room : l.at + 3 + filled (length (more ls)) ≤ length c.put_two.new.out = simp (to_end 2 ls, length-drop) (omega (arith, c.put_two.auto.out)) in (
      room,
      (short ls h l.invariant.1).2,
      laid_then l.out (octets 3 v) (packed (more ls)) l.at (omega arith) c.put_two.ensures ∙ (rw (two ls h) at l.invariant.2),
    )

pub put_one-requires : goal.put_one-requires
put_one-requires c =
    let ls = c.loop-rest.rest.now in
    let e = one ls c.in-len1-up.len_at_least c.in_default.len_below in
    ((above_head _ [] (rw e at c.loop-rest.invariant.1)).0, omega arith)

pub returns-in-empty : goal.returns-in-empty
unfolding packed
returns-in-empty c =
    let l = c.loop-rest in
    let e = none l.rest.now (omega arith) in
    sym (laid_none l.out l.at) ∙ (rw e at l.invariant.2)

pub returns-in-len1-up : goal.returns-in-len1-up
unfolding packed
returns-in-len1-up c =
    let l = c.loop-rest in
    c.put_one.ensures ∙ (rw (one l.rest.now c.in-len1-up.len_at_least c.in_default.len_below) at l.invariant.2)
