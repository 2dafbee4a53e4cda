-- Text that was added behind text, and how much of it there can be. Assumes nothing.
use Prim.Native.Nat.{ℕ, ◌+◌, ◌*◌, ◌≤◌, ◌<◌}
use native.Mathlib.Numerals.{add-one}
use native.Mathlib.Omega.{arith}
use mathlib.Core.Path.{◌≡◌, refl, sym, ap, ◌∙◌}
use mathlib.Core.List.{List, [], ◌∷◌, ◌++◌, append_assoc, append-nil}
use lib.ListN.{length, get_or, take, length-append, length-drop}
use lib.Seq.{length-take-le, take-suc}
use Rattle.fields.specs.Runs.{laid}
use Rattle.lines.specs.declared.Text.{Text}
use Rattle.lines.specs.Text.{field, fields_of, line, Puts}
use Rattle.lines.specs.Adding.{Adds}
use Rattle.lines.proofs.Putting.{puts_none, puts_then, fields_snoc}

-- memory keeps its length where what is put has room
laid_long : (text old : List ℕ) (at : ℕ) → at + length text ≤ length old → length (laid old at text) ≡ length old
unfolding laid
laid_long text old at h =
    let t : length (take at old) ≡ at = length-take-le at old (omega arith) in
    simp (length-append, length-drop) (omega (arith, t))

-- text that was put
pub adds : {text : List ℕ} {most : ℕ} {old new : Text} → new.out.ghost_name ≡ old.out.ghost_name → Puts text old.out.now old.at new.at new.out.now
    → length text ≤ most → old.at + length text ≤ length old.out.now → Adds text most old new
adds {text} {most} {old} {new} s p m h =
    record { same = s; long = ap length p.leaves ∙ laid_long text old.out.now old.at h; puts = p; within = omega (arith, p.ends) }

-- nothing
pub adds_none : (t : Text) (most : ℕ) → Adds [] most t t
adds_none t most = record { same = refl; long = refl; puts = puts_none t.out.now t.at; within = omega arith }

-- b behind a
pub adds_then : {a b : List ℕ} {m n : ℕ} {s t u : Text} → Adds a m s t → Adds b n t u → Adds (a ++ b) (m + n) s u
adds_then {a} {b} {m} {n} {s} {t} {u} p q =
    record { same = q.same ∙ p.same; long = q.long ∙ p.long; puts = puts_then s.inside p.puts q.puts; within = omega (arith, p.within, q.within) }

-- and more room than it takes
pub adds_in : {text : List ℕ} {m : ℕ} {old new : Text} (n : ℕ) → m ≤ n → Adds text m old new → Adds text n old new
adds_in n le p = record { same = p.same; long = p.long; puts = p.puts; within = omega (arith, p.within, le) }

-- a word begins a line with no field yet
pub adds_word : {word : List ℕ} {m : ℕ} {s t : Text} → Adds word m s t → Adds (word ++ fields_of []) (m + 0) s t
unfolding fields_of
adds_word {word} p = rw append-nil (adds_in _ (omega arith) p)

-- a field more
pub adds_field : (word xs : List ℕ) (k : ℕ) {s t u : Text} → k < length xs → Adds (word ++ fields_of (take k xs)) (length word + 21 * k) s t
    → Adds (field (get_or xs k 0)) 21 t u → Adds (word ++ fields_of (take (k + 1) xs)) (length word + 21 * (k + 1)) s u
adds_field word xs k h p q =
    let more : take k xs ++ (get_or xs k 0 ∷ []) ≡ take (k + 1) xs = rw (add-one k) (sym (take-suc xs k 0 h)) in
    let e : word ++ fields_of (take k xs) ++ field (get_or xs k 0) ≡ word ++ fields_of (take (k + 1) xs) =
    append_assoc word (fields_of (take k xs)) (field (get_or xs k 0))
    ∙ ap (λ (l : List ℕ). word ++ l) (fields_snoc (take k xs) (get_or xs k 0) ∙ ap fields_of more) in
    rw e at (adds_in (length word + 21 * (k + 1)) (omega arith) (adds_then p q))

-- the line's end makes it a line
pub adds_line : (word ns : List ℕ) {m : ℕ} {s t u : Text} → Adds (word ++ fields_of ns) m s t → Adds (10 ∷ []) 1 t u → Adds (line word ns) (m + 1) s u
unfolding line
adds_line word ns p q = adds_then p q
