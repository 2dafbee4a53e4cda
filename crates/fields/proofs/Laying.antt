-- Runs laid into lent memory, one behind the other. Assumes nothing.
use Prim.Native.Nat.{ℕ, suc, ◌+◌, ◌-◌, ◌/◌, ◌%◌, ◌<◌, ◌≤◌}
use native.Mathlib.Nat.{zero-add, add-zero, lt-suc_self, add_assoc}
use native.Mathlib.Numerals.{add-one, add-two}
use native.Mathlib.Omega.{arith}
use mathlib.Core.Path.{◌≡◌, ap, sym, ◌∙◌}
use mathlib.Core.List.{List, [], ◌∷◌, ◌++◌, append_assoc, append-nil}
use lib.ListN.{length, take, drop, set, length-append, take-append-drop, length-drop}
use lib.Seq.{append_snoc, take_at, drop_at, drop-append-add, drop-drop, take-take, drop-cons, get_or-set_same, drop-set-lt, lt-length-set, length-take-le, take_all, sets-eq}
use Rattle.fields.specs.Numbers.{octets}
use Rattle.fields.specs.Runs.{laid, front}

pub laid_none : (old : List ℕ) (at : ℕ) → laid old at [] ≡ old
unfolding laid
laid_none old at = rw (add-zero, append-nil) (take-append-drop at old)

-- octets that are stored one after the other are a run that is laid
pub stored : (old : List ℕ) (at a : ℕ) → at < length old → set old at a ≡ laid old at (a ∷ [])
unfolding laid
stored old at a h = sets-eq (a ∷ []) old at (omega arith)

pub stored_two : (old : List ℕ) (at a b : ℕ) → at + 2 ≤ length old → set (set old at a) (at + 1) b ≡ laid old at (a ∷ b ∷ [])
unfolding laid
stored_two old at a b h = rw (add-one at) (sets-eq (a ∷ b ∷ []) old at h)

pub stored_three : (old : List ℕ) (at a b c : ℕ) → at + 3 ≤ length old → set (set (set old at a) (at + 1) b) (at + 2) c ≡ laid old at (a ∷ b ∷ c ∷ [])
unfolding laid
stored_three old at a b c h = rw (add-one at, add-two at) (sets-eq (a ∷ b ∷ c ∷ []) old at h)

pub laid_first : (old xs : List ℕ) → laid old 0 xs ≡ front old xs
unfolding laid front
laid_first old xs = rw zero-add

-- behind what already stands in front
pub laid_next : (old xs ys : List ℕ) (n : ℕ) → length xs ≡ n → laid (front old xs) n ys ≡ front old (xs ++ ys)
unfolding laid front
laid_next old xs ys n e =
    let t : take n (xs ++ drop (length xs) old) ≡ xs = take_at xs (drop (length xs) old) n e in
    let d : drop (length xs + length ys) (xs ++ drop (length xs) old) ≡ drop (length xs + length ys) old = drop-append-add xs (drop (length xs) old) (length ys) ∙ drop-drop (length ys) (length xs) old in
    rw (t, ← e, d, length-append)

-- a run in two parts
pub laid_split : (old xs ys : List ℕ) (at : ℕ) → at ≤ length old → laid old at (xs ++ ys) ≡ laid (laid old at xs) (at + length xs) ys
unfolding laid
laid_split old xs ys at h =
    let l : length (take at old ++ xs) ≡ at + length xs = length-append (take at old) xs ∙ rw (length-take-le at old h) in
    let t : take (at + length xs) (take at old ++ xs ++ drop (at + length xs) old) ≡ take at old ++ xs = take_at (take at old ++ xs) (drop (at + length xs) old) (at + length xs) l in
    let d : drop (at + length xs + length ys) (take at old ++ xs ++ drop (at + length xs) old) ≡ drop (at + length xs + length ys) old = rw (← l) (drop-append-add (take at old ++ xs) (drop (length (take at old ++ xs)) old) (length ys) ∙ drop-drop (length ys) (length (take at old ++ xs)) old) in
    rw (t, d, length-append, ← (append_assoc (take at old) xs ys), add_assoc)

-- what stands in front
pub take_front : (old xs : List ℕ) (n : ℕ) → length xs ≡ n → take n (front old xs) ≡ xs
unfolding front
take_front old xs n e = take_at xs (drop (length xs) old) n e

-- a front that was not written to stays, also where less of it is looked at
pub take_less : (s t : List ℕ) (m n : ℕ) → m ≤ n → take n s ≡ take n t → take m s ≡ take m t
take_less s t m n h e = sym (take-take m n s h) ∙ ap (take m) e ∙ take-take m n t h

-- an octet of a number, stored below those that stand already
pub octet_below : (s : List ℕ) (i w v : ℕ) → i < length s → octets w (v / 256) ++ drop i (set s i (v % 256)) ≡ octets (suc w) v ++ drop (suc i) s
unfolding octets
octet_below s i w v h =
    let b = v % 256 in
    let e : drop i (set s i b) ≡ b ∷ drop (suc i) s = drop-cons (set s i b) i 0 (lt-length-set s i b h) ∙ rw (get_or-set_same s i b 0 h, drop-set-lt (suc i) s i b (lt-suc_self i)) in
    rw e (sym (append_snoc (octets w (v / 256)) b (drop (suc i) s)))

-- a part to the end
pub to_end : (n : ℕ) (s : List ℕ) → take (length s - n) (drop n s) ≡ drop n s
to_end n s = take_all (length s - n) (drop n s) (simp length-drop (omega arith))

-- memory o holds xs from at on, and ys is laid behind it
pub laid_then : (old xs ys : List ℕ) (at : ℕ) {o : List ℕ} → at ≤ length old → o ≡ laid old at xs → laid o (at + length xs) ys ≡ laid old at (xs ++ ys)
laid_then old xs ys at h e = ap (λ (o : List ℕ). laid o (at + length xs) ys) e ∙ sym (laid_split old xs ys at h)

-- memory o holds xs in front, and o' is o with ys laid behind it
pub laid_on : (old xs ys : List ℕ) (n : ℕ) {o o' : List ℕ} → length xs ≡ n → o ≡ front old xs → o' ≡ laid o n ys → o' ≡ front old (xs ++ ys)
laid_on old xs ys n l e f = f ∙ ap (λ (o : List ℕ). laid o n ys) e ∙ laid_next old xs ys n l

-- what stands from where a run was laid
drop_laid : (old ys : List ℕ) (n : ℕ) → n ≤ length old → drop n (laid old n ys) ≡ ys ++ drop (n + length ys) old
unfolding laid
drop_laid old ys n h =
    rw (append_assoc (take n old) ys (drop (n + length ys) old)) (drop_at (take n old) (ys ++ drop (n + length ys) old) n (length-take-le n old h))

-- a run, taken from where it was laid
pub part_laid : (old ys : List ℕ) (n m : ℕ) → n ≤ length old → length ys ≡ m → take m (drop n (laid old n ys)) ≡ ys
part_laid old ys n m h e = rw (drop_laid old ys n h) (take_at ys (drop (n + length ys) old) m e)

-- in front of a run that was laid before
pub front_before : (old xs ys : List ℕ) (n : ℕ) → length xs ≡ n → n ≤ length old → front (laid old n ys) xs ≡ front old (xs ++ ys)
unfolding front
front_before old xs ys n e h = rw (length-append, e, drop_laid old ys n h) (sym (append_assoc xs ys (drop (n + length ys) old)))
