-- What the lists of a record hold after a frame was kept in them, and that they stay of one length. Assumes nothing.
use Prim.Native.Nat.{ℕ, zero, suc, ◌≤◌, ◌<◌}
use mathlib.Core.Path.{◌≡◌, refl, sym, ap, ◌∙◌}
use mathlib.Core.Logic.{⊎_elim}
use mathlib.Core.Bool.{true, false, cond, not}
use mathlib.Core.List.{List}
use lib.Dec.{ltb, eqb}
use lib.ListN.{length, get_or, set, replicate, length-set, length-replicate}
use lib.Seq.{get_or-set_same, get_or-set_other, ext_get_or}
use borrow.Author.Tests.{ltb-false, le-ltb, eqb-true, eqb-false, eq-eqb, not-false}
use Rattle.units.specs.Limits.{most_capacity}
use Rattle.fields.proofs.Tests.{either, or_false}
use Rattle.reception.specs.declared.Head.{Head}
use Rattle.reception.specs.Sendings.{Held}
use Rattle.reception.specs.Damage.{Matched}
use Rattle.reception.specs.Adding.{with_packet, with_closing, empty_record}
use Rattle.reception.specs.Hearing.{Kept, held_by, lists_differ, keep_packet, keep_closing, empty_kept}

-- a list with one place set, read at any place
pub read_set : (l : List ℕ) (n a : ℕ) → n < length l → (j : ℕ) → get_or (set l n a) j 0 ≡ cond (eqb j n) a (get_or l j 0)
read_set l n a lt j =
    ⊎_elim (λ (t : eqb j n ≡ true). rw (t, eqb-true j n t) (get_or-set_same l n a 0 lt))
    (λ (t : eqb j n ≡ false). rw t (get_or-set_other l n j a 0 (eqb-false j n t))) (either (eqb j n))

-- zeros are read as zeros, at whatever place
pub read_zeros : (c j : ℕ) → ◌≡◌ {A = ℕ} (get_or (replicate c 0) j 0) 0
read_zeros zero j = refl
read_zeros (suc c) zero = refl
read_zeros (suc c) (suc j) = read_zeros c j

-- the lists of a record that refusal 14 does not apply to
abbrev pub MatchedKept : Kept → Type 0
MatchedKept k = Matched k.marks k.elapsed k.sizes

pub lists_matched : (m e l : List ℕ) → lists_differ (length m) (length e) (length l) ≡ false → Matched m e l
unfolding lists_differ
lists_matched m e l h =
    let p = or_false (ltb most_capacity (length m)) _ h in
    let q = or_false (not (eqb (length e) (length m))) (not (eqb (length l) (length m))) p.1 in
    record {
      room = ltb-false _ _ p.0;
      elapseds = eqb-true _ _ (not-false _ q.0);
      lengths = eqb-true _ _ (not-false _ q.1);
    }

pub matched_lists : (m e l : List ℕ) → Matched m e l → lists_differ (length m) (length e) (length l) ≡ false
unfolding lists_differ
matched_lists m e l h =
    simp (le-ltb most_capacity (length m) h.room, eq-eqb (length e) (length m) h.elapseds, eq-eqb (length l) (length m) h.lengths)

-- a packet that is kept is held, and no other place changes
pub held_packet : (k : Kept) (n e l : ℕ) → MatchedKept k → n < length k.marks → held_by (keep_packet k n e l) ≡ with_packet (held_by k) n e l
held_packet k n e l m lt =
    λ i.
    record {
      capacity = length-set k.marks n 1 i;
      mark = λ j. read_set k.marks n 1 lt j i;
      elapsed = λ j. read_set k.elapsed n e (rw m.elapseds lt) j i;
      size = λ j. read_set k.sizes n l (rw m.lengths lt) j i;
      closed = k.head.closed;
      count = k.head.count.0;
      total = k.head.total.0;
    }

-- and a closing that is kept
pub held_closing : (k : Kept) (n t : ℕ) → held_by (keep_closing k n t) ≡ with_closing (held_by k) n t
held_closing k n t = refl

-- a record in which nothing was heard yet holds nothing
pub held_empty : (bearer period stamp c : ℕ) → held_by (empty_kept bearer period stamp c) ≡ empty_record c
held_empty bearer period stamp c =
    λ i.
    record {
      capacity = length-replicate {A = ℕ} c 0 i;
      mark = λ j. read_zeros c j i;
      elapsed = λ j. read_zeros c j i;
      size = λ j. read_zeros c j i;
      closed = false;
      count = 0;
      total = 0;
    }

-- its lists are of one length, and stay so with a packet kept
pub empty_matched : (bearer period stamp c : ℕ) → c ≤ most_capacity → MatchedKept (empty_kept bearer period stamp c)
empty_matched bearer period stamp c le = record { room = rw (length-replicate {A = ℕ} c 0) le; elapseds = refl; lengths = refl }

pub packet_matched : (k : Kept) (n e l : ℕ) → MatchedKept k → MatchedKept (keep_packet k n e l)
packet_matched k n e l m =
    let same = length-set k.marks n 1 in
    record {
      room = rw same m.room;
      elapseds = rw same (length-set k.elapsed n e ∙ m.elapseds);
      lengths = rw same (length-set k.sizes n l ∙ m.lengths);
    }

-- two heads of one key
pub record SameKey (a b : Head) : Type 0 where
  pub bearers : a.bearer ≡ b.bearer
  pub periods : a.period ≡ b.period
  pub stamps : a.stamp ≡ b.stamp

-- a record is told by its key and by what it holds, lists and all
pub told_by_held : (a b : Kept) → MatchedKept a → MatchedKept b → SameKey a.head b.head → held_by a ≡ held_by b → a ≡ b
told_by_held a b m n key h =
    λ i.
    record {
      head =
          record {
            bearer = key.bearers i;
            period = key.periods i;
            stamp = key.stamps i;
            closed = (h i).closed;
            count = record { 0 = (h i).count };
            total = record { 0 = (h i).total };
          };
      marks = ext_get_or 0 a.marks b.marks long (λ j _. ap (λ (r : Held). r.mark j) h) i;
      elapsed = ext_get_or 0 a.elapsed b.elapsed (m.elapseds ∙ long ∙ sym n.elapseds) (λ j _. ap (λ (r : Held). r.elapsed j) h) i;
      sizes = ext_get_or 0 a.sizes b.sizes (m.lengths ∙ long ∙ sym n.lengths) (λ j _. ap (λ (r : Held). r.size j) h) i;
    }
  where
    long : length a.marks ≡ length b.marks
    long = ap (λ (r : Held). r.capacity) h
