-- A gap, where there is one, put into three lent lists behind those that stand there. Assumes nothing.
use Prim.Native.Nat.{ℕ, suc, ◌+◌, ◌-◌, ◌≤◌, ◌<◌}
use mathlib.Core.Path.{◌≡◌, refl, sym, ap, ◌∙◌}
use mathlib.Core.List.{List, [], ◌∷◌, ◌++◌, map, map-append}
use native.Mathlib.Numerals.{add-one}
use native.Mathlib.Omega.{arith}
use lib.ListN.{length, set, take, drop, length-append, length-take, length-drop, length-map}
use lib.Seq.{set_split, append_snoc}
use borrow.Author.Tests.{eq-eqb, ne_eqb}
use Rattle.fields.specs.Runs.{laid, front}
use Rattle.fields.proofs.Laying.{laid_none, laid_first, laid_split}
use Rattle.reception.specs.Reporting.{Gap, gap_to}
use Rattle.reception.specs.Missing.{packets_in, octets_in}
use Rattle.reporting.specs.declared.writing.Filled.{Filled}
use Rattle.reporting.specs.Writing.{Room, Puts}

laid_one : (s : List ℕ) (w x : ℕ) → w < length s → set s w x ≡ laid s w (x ∷ [])
unfolding laid
laid_one s w x lt = rw (add-one w, append_snoc (take w s) x (drop (suc w) s)) (set_split s w x lt)

module _ (w : Filled) (i a k e : ℕ) (firsts counts octets : List ℕ) where
  -- there is none
  pub put_none : i ≡ k → Puts w (gap_to i a k e) firsts counts octets w firsts counts octets
  unfolding packets_in octets_in
  put_none same =
      rw (eq-eqb i k same)
      (record {
        next = omega arith;
        packets = omega arith;
        octets_in_fact = omega arith;
        firsts_are = sym (laid_none firsts w.next);
        counts_are = sym (laid_none counts w.next);
        octets_are = sym (laid_none octets w.next);
      })

  -- there is one, and room for it
  module _ (off : i ≡ k → ⊥) (room : Room w.next (gap_to i a k e) firsts counts octets) where
    pub room_one : (w.next < length firsts) × (w.next < length counts) × (w.next < length octets)
    room_one =
        let x : Room w.next (record { first = i; count = k - i; octets = e - a } ∷ []) firsts counts octets = rw (ne_eqb i k off) at room in
        (omega (arith, x.firsts_fit), omega (arith, x.counts_fit), omega (arith, x.octets_fit))

    pub put_one : Puts w (gap_to i a k e) firsts counts octets
        (record { next = w.next + 1; packets = record { 0 = w.packets.0 + (k - i) }; octets = record { 0 = w.octets.0 + (e - a) } })
        (set firsts w.next i) (set counts w.next (k - i)) (set octets w.next (e - a))
    unfolding packets_in octets_in
    put_one =
        rw (ne_eqb i k off)
        (record {
          next = refl;
          packets = omega arith;
          octets_in_fact = omega arith;
          firsts_are = laid_one firsts w.next i room_one.0;
          counts_are = laid_one counts w.next (k - i) room_one.1;
          octets_are = laid_one octets w.next (e - a) room_one.2;
        })

-- one of a gap's numbers in its lent list: what is laid already, with that of the gaps gs to come, is that of all gaps in front
pub record Laying (f : Gap → ℕ) (old new : List ℕ) (w : ℕ) (gs all : List Gap) : Type 0 where
  pub long : length new ≡ length old
  pub same : laid new w (map f gs) ≡ front old (map f all)

length_laid : (s xs : List ℕ) (w : ℕ) → w + length xs ≤ length s → length (laid s w xs) ≡ length s
unfolding laid
length_laid s xs w le = simp (length-append, length-take, length-drop) (omega arith)

pub laying_start : (f : Gap → ℕ) (old : List ℕ) (all : List Gap) → Laying f old old 0 all all
laying_start f old all = record { long = refl; same = laid_first old (map f all) }

module _ (f : Gap → ℕ) (old new : List ℕ) (w : ℕ) (xs gs all : List Gap) (room : w + length (xs ++ gs) ≤ length new) (l : Laying f old new w (xs ++ gs) all) where
  pub laying_next : (new' : List ℕ) (n : ℕ) → new' ≡ laid new w (map f xs) → n ≡ w + length xs → Laying f old new' n gs all
  laying_next new' n e p =
      let a = length-append xs gs in
      let m = length-map xs f in
      let split = laid_split new (map f xs) (map f gs) w (omega arith) in
      record {
        long = rw e (length_laid new (map f xs) w (omega (arith, room, a, m)) ∙ l.long);
        same = rw (e, p, ← m) (sym split ∙ ap (laid new w) (sym (map-append f xs gs)) ∙ l.same);
      }
