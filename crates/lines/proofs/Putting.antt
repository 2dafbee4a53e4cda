-- Text put behind text: a chain of calls puts all their texts, and a chain of fields is a line. Assumes nothing.
use Prim.Native.Nat.{ℕ, ◌+◌, ◌*◌, ◌≤◌, ◌<◌}
use native.Mathlib.Nat.{add_assoc, add-zero, zero-add}
use native.Mathlib.Numerals.{add-one}
use native.Mathlib.Omega.{arith}
use mathlib.Core.Path.{◌≡◌, refl, sym, ap, ◌∙◌}
use mathlib.Core.List.{List, [], ◌∷◌, ◌++◌, append_assoc, append-nil}
use lib.ListN.{length, set, take, length-append}
use lib.Seq.{set_split, append_snoc, take_all}
use borrow.Rule.Slice.PartMut.{put_mid}
use Rattle.std.proofs.lemmas.Slice.{put_mid-paste}
use Rattle.fields.specs.Runs.{laid}
use Rattle.fields.proofs.Laying.{laid_then, laid_none, laid_first, take_front}
use Rattle.lines.specs.Text.{field, fields_of, line, Puts}
use Rattle.lines.proofs.Decimal.{decimal_length}

-- nothing put
pub puts_none : (old : List ℕ) (at : ℕ) → Puts [] old at at old
puts_none old at = record { leaves = sym (laid_none old at); ends = sym (add-zero at) }

-- one octet put
pub puts_one : (old : List ℕ) (at d : ℕ) → at < length old → Puts (d ∷ []) old at (at + 1) (set old at d)
unfolding laid
puts_one old at d h =
    record { leaves = set_split old at d h ∙ rw (add-one at) (sym (append_snoc (take at old) d _)); ends = refl }

-- a text that fills a part of memory
pub puts_part : (text old part : List ℕ) (at r k : ℕ) → part ≡ text → r ≡ at + length text → k ≡ length text → Puts text old at r (put_mid at k old part)
unfolding laid
puts_part text old part at r k e x l =
    record { leaves = put_mid-paste at k old part text (length text) e (sym l) refl ∙ rw (take_all (length text) text (omega arith)) refl; ends = x }

-- b put behind a
pub puts_then : {a b old mid new : List ℕ} {at r s : ℕ} → at ≤ length old → Puts a old at r mid → Puts b mid r s new → Puts (a ++ b) old at s new
puts_then {a} {b} {old} {mid} {new} {at} {r} {s} h p q =
    record {
      leaves = q.leaves ∙ rw p.ends (laid_then old a b at h p.leaves);
      ends = q.ends ∙ rw (p.ends, length-append a b) (add_assoc at (length a) (length b));
    }

-- what was put from the start of memory is there
pub puts_whole : {text old new : List ℕ} {r : ℕ} → Puts text old 0 r new → take r new ≡ text
puts_whole {text} {old} {new} {r} p =
    rw (p.leaves, laid_first old text) (take_front old text r (sym (p.ends ∙ zero-add (length text))))

-- fields, and one more behind them
pub fields_snoc : (ns : List ℕ) (n : ℕ) → fields_of ns ++ field n ≡ fields_of (ns ++ (n ∷ []))
unfolding fields_of
fields_snoc [] n = sym (append-nil (field n))
fields_snoc (m ∷ ns) n = append_assoc (field m) (fields_of ns) (field n) ∙ ap (λ (xs : List ℕ). field m ++ xs) (fields_snoc ns n)

-- a number takes 21 octets at most
pub field_length : (n : ℕ) → length (field n) ≤ 21
unfolding field
field_length n = omega (arith, decimal_length n)

fields_length : (ns : List ℕ) → length (fields_of ns) ≤ 21 * length ns
unfolding fields_of
fields_length [] = omega arith
fields_length (n ∷ ns) = simp length-append (omega (arith, field_length n, fields_length ns))

-- what a line takes at most
pub line_length : (word ns : List ℕ) → length (line word ns) ≤ length word + 21 * length ns + 1
unfolding line
line_length word ns = simp length-append (omega (arith, fields_length ns))
