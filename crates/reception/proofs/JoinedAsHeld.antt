-- What the lists of two joined records hold: at each place what either heard. Assumes nothing.
use Prim.Native.Nat.{ℕ, zero, suc, ◌<◌}
use mathlib.Core.Path.{◌≡◌, refl, sym, ap, ◌∙◌}
use mathlib.Core.Bool.{Bool, true, false, cond, ◌||◌}
use mathlib.Core.List.{List, [], ◌∷◌}
use native.Mathlib.Omega.{arith}
use lib.Dec.{eqb}
use lib.ListN.{length, get_or}
use lib.Seq.{ext_get_or}
use Rattle.units.specs.declared.Octets.{Octets}
use Rattle.units.specs.declared.Packets.{Packets}
use Rattle.reception.specs.Sendings.{Held}
use Rattle.reception.specs.Hearing.{Kept, held_by}
use Rattle.reception.specs.Joining.{union, chosen, joined_kept}
use Rattle.reception.proofs.KeptAsHeld.{MatchedKept, SameKey}

-- a choice keeps the length of the left list
pub length_chosen : (m l r : List ℕ) → length (chosen m l r) ≡ length l
unfolding chosen
length_chosen [] l r = refl
length_chosen (x ∷ m) [] r = refl
length_chosen (x ∷ m) (a ∷ l) [] = refl
length_chosen (x ∷ m) (a ∷ l) (b ∷ r) = ap suc (length_chosen m l r)

-- and is read place by place, where the lists are of one length
pub read_chosen : (m l r : List ℕ) → length l ≡ length m → length r ≡ length m → (j : ℕ)
    → get_or (chosen m l r) j 0 ≡ cond (eqb (get_or m j 0) 1) (get_or l j 0) (get_or r j 0)
unfolding chosen
read_chosen [] [] [] p q j = refl
read_chosen [] [] (b ∷ r) p q j = absurd (omega arith)
read_chosen [] (a ∷ l) r p q j = absurd (omega arith)
read_chosen (x ∷ m) [] r p q j = absurd (omega arith)
read_chosen (x ∷ m) (a ∷ l) [] p q j = absurd (omega arith)
read_chosen (x ∷ m) (a ∷ l) (b ∷ r) p q zero = refl
read_chosen (x ∷ m) (a ∷ l) (b ∷ r) p q (suc j) = read_chosen m l r (omega arith) (omega arith) j

count_chosen : (c : Bool) (x y : Packets) → (cond c x y).0 ≡ cond c x.0 y.0
count_chosen true x y = refl
count_chosen false x y = refl

total_chosen : (c : Bool) (x y : Octets) → (cond c x y).0 ≡ cond c x.0 y.0
total_chosen true x y = refl
total_chosen false x y = refl

-- the record that joining leaves holds what either heard
pub joined_held : (a b : Kept) → MatchedKept a → MatchedKept b → length a.marks ≡ length b.marks
    → held_by (joined_kept a b) ≡ union (held_by a) (held_by b)
joined_held a b m n long =
    λ i.
    record {
      capacity = length_chosen a.marks a.marks b.marks i;
      mark = λ j. read_chosen a.marks a.marks b.marks refl (sym long) j i;
      elapsed = λ j. read_chosen a.marks a.elapsed b.elapsed m.elapseds (n.elapseds ∙ sym long) j i;
      size = λ j. read_chosen a.marks a.sizes b.sizes m.lengths (n.lengths ∙ sym long) j i;
      closed = a.head.closed || b.head.closed;
      count = count_chosen a.head.closed a.head.count b.head.count i;
      total = total_chosen a.head.closed a.head.total b.head.total i;
    }

-- its lists are of one length
pub joined_matched : (a b : Kept) → MatchedKept a → MatchedKept (joined_kept a b)
joined_matched a b m =
    let same = length_chosen a.marks a.marks b.marks in
    record {
      room = rw same m.room;
      elapseds = rw same (length_chosen a.marks a.elapsed b.elapsed ∙ m.elapseds);
      lengths = rw same (length_chosen a.marks a.sizes b.sizes ∙ m.lengths);
    }

-- two records hold the same
pub record Same (a b : Held) : Type 0 where
  pub capacities : a.capacity ≡ b.capacity
  pub marks : (k : ℕ) → k < a.capacity → a.mark k ≡ b.mark k
  pub elapseds : (k : ℕ) → k < a.capacity → a.elapsed k ≡ b.elapsed k
  pub sizes : (k : ℕ) → k < a.capacity → a.size k ≡ b.size k
  pub closeds : a.closed ≡ b.closed
  pub counts : a.count ≡ b.count
  pub totals : a.total ≡ b.total

-- a record is told by its key and by what it holds in its places
pub told_by_places : (a b : Kept) → MatchedKept a → MatchedKept b → SameKey a.head b.head → Same (held_by a) (held_by b) → a ≡ b
told_by_places a b m n key h =
    λ i.
    record {
      head =
          record {
            bearer = key.bearers i;
            period = key.periods i;
            stamp = key.stamps i;
            closed = h.closeds i;
            count = record { 0 = h.counts i };
            total = record { 0 = h.totals i };
          };
      marks = ext_get_or 0 a.marks b.marks h.capacities h.marks i;
      elapsed = ext_get_or 0 a.elapsed b.elapsed (m.elapseds ∙ h.capacities ∙ sym n.elapseds) (λ j lt. h.elapseds j (rw m.elapseds at lt)) i;
      sizes = ext_get_or 0 a.sizes b.sizes (m.lengths ∙ h.capacities ∙ sym n.lengths) (λ j lt. h.sizes j (rw m.lengths at lt)) i;
    }
