-- A part of a row of octets, however its ends are given. Assumes nothing.
use Prim.Native.Nat.{ℕ, ◌-◌, min}
use mathlib.Core.Path.{◌≡◌, sym, ap, ◌∙◌}
use mathlib.Core.Logic.{⊎_elim}
use mathlib.Core.Bool.{true, false}
use mathlib.Core.List.{List, []}
use native.Mathlib.Omega.{arith}
use lib.Dec.{leb}
use lib.ListN.{length, take, drop, length-drop, drop_of_length-le}
use lib.Seq.{take_all, take-nil}
use borrow.Author.Tests.{leb-true, leb-false}
use Rattle.fields.proofs.Tests.{either}

-- no more can be taken than there is
take_less : (n : ℕ) (s : List ℕ) → take (min n (length s)) s ≡ take n s
take_less n s =
    ⊎_elim
    (λ (t : leb n (length s) ≡ true).
    let p = leb-true n (length s) t in
    let e : min n (length s) ≡ n = omega (arith, p) in
    ap (λ (k : ℕ). take k s) e)
    (λ (t : leb n (length s) ≡ false).
    let p = leb-false n (length s) t in
    take_all (min n (length s)) s (omega (arith, p)) ∙ sym (take_all n s (omega (arith, p))))
    (either (leb n (length s)))

pub part_is : (s : List ℕ) (from end begin stop : ℕ) → begin ≡ min from (length s) → stop - begin ≡ min (end - begin) (length s - begin)
    → take (stop - begin) (drop begin s) ≡ take (end - from) (drop from s)
part_is s from end begin stop b l =
    ⊎_elim
    (λ (t : leb from (length s) ≡ true).
    let p = leb-true from (length s) t in
    let e : begin ≡ from = omega (arith, p, b) in
    let m : stop - from ≡ min (end - from) (length (drop from s)) = rw (length-drop from s) (rw e at l) in
    rw (e, m) (take_less (end - from) (drop from s)))
    (λ (t : leb from (length s) ≡ false).
    let p = leb-false from (length s) t in
    let none : drop from s ≡ [] = drop_of_length-le s {i = from} (omega (arith, p)) in
    let too : drop begin s ≡ [] = drop_of_length-le s {i = begin} (omega (arith, p, b)) in
    rw (none, too) (take-nil (stop - begin) ∙ sym (take-nil (end - from))))
    (either (leb from (length s)))
