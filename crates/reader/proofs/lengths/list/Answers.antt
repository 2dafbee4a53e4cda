-- `reader::lengths::list` meets its contract: what is left to list goes on from what is listed. Assumes nothing.
use mathlib.Core.Path.{◌≡◌, refl, sym, ap, ◌∙◌}
use mathlib.Core.List.{List, [], ◌∷◌, ◌++◌, append-nil}
use Prim.Native.Nat.{ℕ, zero, suc, ◌+◌, ◌-◌, ◌<◌, ◌≤◌}
use native.Mathlib.Nat.{sub-zero}
use native.Mathlib.Numerals.{add-one}
use lib.ListN.{length, take, drop, set, take-append-drop}
use lib.Seq.{take-suc-set, drop-set-lt, append_snoc}
use Rattle.fields.specs.Runs.{front}
use Rattle.frame.specs.Layout.{length_at, lengths_of}
use native.Mathlib.Omega.{arith}
use Rattle.reader.proofs.lengths.list.Goals as goal

-- a turn's store takes the next length from what is left to what is there
turn : (s out : List ℕ) (n i v : ℕ) → i < n → n ≤ length out → v ≡ length_at s i
    → take (i + 1) (set out i v) ++ lengths_of s (i + 1) (n - (i + 1)) ++ drop n (set out i v) ≡ take i out ++ lengths_of s i (n - i) ++ drop n out
unfolding lengths_of
turn s out n i v h l e =
    let m : n - i ≡ suc (n - (i + 1)) = omega arith in
    let t : take (suc i) (set out i v) ≡ take i out ++ (v ∷ []) = take-suc-set out i v (omega arith) in
    rw (m, add-one, t, drop-set-lt n out i v h, ← e, append_snoc)

length_listed : (s : List ℕ) (i n : ℕ) → length (lengths_of s i n) ≡ n
unfolding lengths_of
length_listed s i zero = refl
length_listed s i (suc n) = ap suc (length_listed s (suc i) n)

listed_all : (s out old : List ℕ) (n i : ℕ) → i ≡ n → take i out ++ lengths_of s i (n - i) ++ drop n out ≡ lengths_of s 0 n ++ drop n old → out ≡ front old (lengths_of s 0 n)
unfolding lengths_of front
listed_all s out old n i e h =
    let z : n - n ≡ 0 = omega arith in
    let g : take n out ++ drop n out ≡ lengths_of s 0 n ++ drop n old = rw (e, z, append-nil) at h in
    sym (take-append-drop n out) ∙ g ∙ rw length_listed

pub loop-i-init : goal.loop-i-init
loop-i-init c = rw sub-zero

pub loop-i-preserved : goal.loop-i-preserved
loop-i-preserved c =
    let a = c.args in
    let l = c.loop-i in
    turn a.frame.now l.out a.n l.i c.length_at.result (omega arith) (omega arith) c.length_at.ensures.0 ∙ l.invariant

pub returns : goal.returns
returns c =
    let a = c.args in
    let l = c.loop-i in
    listed_all a.frame.now l.out a.out.now a.n l.i (omega arith) l.invariant
