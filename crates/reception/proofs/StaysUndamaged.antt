-- An undamaged record with a frame added that does not contradict it is undamaged, and the empty record is. Assumes nothing.
use Prim.Native.Nat.{ℕ, ◌≤◌, ◌<◌}
use mathlib.Core.Path.{◌≡◌, refl, sym}
use mathlib.Core.Logic.{◌⊎◌, inl, inr}
use mathlib.Core.Bool.{Bool, true, false, cond, false≢true}
use mathlib.Core.List.{[]}
use native.Mathlib.Omega.{arith}
use lib.Dec.{eqb}
use Rattle.units.specs.Limits.{last_stamp, most_capacity}
use Rattle.reception.specs.Sendings.{Held}
use Rattle.reception.specs.Damage.{Undamaged}
use Rattle.reception.specs.Adding.{with_packet, with_closing, empty_record, packet_contradicts, closing_contradicts}
use Rattle.reception.proofs.Decided.{Sized}
use Rattle.reception.proofs.ContradictsExactly.{explains_added, explains_closed, packet_agrees, closing_agrees}

-- an undamaged record is within the limits of the walk
pub sized : (stamp : ℕ) (r : Held) → r.capacity ≤ most_capacity → Undamaged stamp r → Sized r
sized stamp r fits u = record { capacity_fits = fits; count_fits = λ _. omega (arith, fits, u.within) }

pub packet_added : (stamp : ℕ) (r : Held) (k e l : ℕ) → r.capacity ≤ most_capacity → Undamaged stamp r → k < r.capacity
    → packet_contradicts r k e l ≡ false → Undamaged stamp (with_packet r k e l)
packet_added stamp r k e l fits u lt h =
    let x = packet_agrees r k e l (sized stamp r fits u) lt u.explained h in
    record {
      in_range = u.in_range;
      marks = λ j q. marks j q (eqb j k) refl;
      unheard = λ j q m. unheard j q m (eqb j k) refl;
      unclosed = u.unclosed;
      within = u.within;
      explained = (x.0, explains_added r k e l x.0 x.1 x.2);
    }
  where
    marks : (j : ℕ) → j < r.capacity → (b : Bool) → eqb j k ≡ b
        → (cond (eqb j k) 1 (r.mark j) ≡ 1) ⊎ (cond (eqb j k) 1 (r.mark j) ≡ 0)
    marks j q true t = inl (rw t)
    marks j q false t = rw t (u.marks j q)

    unheard : (j : ℕ) → j < r.capacity → cond (eqb j k) 1 (r.mark j) ≡ 0 → (b : Bool) → eqb j k ≡ b
        → (cond (eqb j k) e (r.elapsed j) ≡ 0) × (cond (eqb j k) l (r.size j) ≡ 0)
    unheard j q m true t = let one : ◌≡◌ {A = ℕ} 1 0 = rw t at m in omega (arith, one)
    unheard j q m false t = rw t (u.unheard j q (rw t at m))

pub closing_added : (stamp : ℕ) (r : Held) (n t : ℕ) → r.capacity ≤ most_capacity → Undamaged stamp r → n ≤ r.capacity
    → closing_contradicts r n t ≡ false → Undamaged stamp (with_closing r n t)
closing_added stamp r n t fits u le h =
    let x = closing_agrees r n t (sized stamp r fits u) (omega arith) u.explained h in
    record {
      in_range = u.in_range;
      marks = u.marks;
      unheard = u.unheard;
      unclosed = λ f. absurd (false≢true (sym f));
      within = le;
      explained = (x.0, explains_closed r n t x.0 x.1 x.2);
    }

pub empty_undamaged : (stamp capacity : ℕ) → stamp ≤ last_stamp → Undamaged stamp (empty_record capacity)
empty_undamaged stamp capacity le =
    record {
      in_range = le;
      marks = λ _ _. inr refl;
      unheard = λ _ _ _. (refl, refl);
      unclosed = λ _. (refl, refl);
      within = omega arith;
      explained = (
        [],
        record {
          sending = record { few = omega arith; short = λ _ _. omega arith };
          packets = λ k q. let no : ◌≡◌ {A = ℕ} 0 1 = q.marked in absurd (omega (arith, no));
          closing = λ c. absurd (false≢true c);
        },
      );
    }
