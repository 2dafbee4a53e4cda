-- Which records can be joined, and what the tests of a join say: the lowest packet of the right that alone contradicts the left, and its
-- closing. Assumes nothing.
use Prim.Native.Nat.{ℕ, zero, suc, ◌+◌, ◌≤◌, ◌<◌}
use mathlib.Core.Path.{◌≡◌, refl, sym, ◌∙◌}
use mathlib.Core.Logic.{⊎_elim}
use mathlib.Core.Bool.{Bool, true, false, not, cond, ◌&&◌, ◌||◌, false≢true}
use mathlib.Core.List.{List}
use native.Mathlib.Omega.{arith}
use lib.Dec.{ltb, eqb}
use lib.ListN.{length}
use borrow.Author.Tests.{ltb-true, ltb-false, eqb-true, eq-eqb, not-false}
use Rattle.units.specs.declared.refusals.Refusal.{Refusal}
use Rattle.fields.specs.Choice.{◌when◌otherwise◌}
use Rattle.fields.proofs.Tests.{either, both, or_false}
use Rattle.reception.specs.Sendings.{Held, Heard, Sent, Whole, Explains, Explained}
use Rattle.reception.specs.Walk.{is_heard}
use Rattle.reception.specs.Adding.{packet_contradicts, closing_contradicts}
use Rattle.reception.specs.Hearing.{Kept, held_by, unmatched, damaged_kept}
use Rattle.reception.specs.Joining.{joined_kept, packet_off, own_closing_off, lowest_off, lowest, JoinOutcome, refuses_join, contradicts, joins, capacities_off, other_record, closing_named, join_records}
use Rattle.reception.proofs.Decided.{Sized}
use Rattle.reception.proofs.ContradictsExactly.{packet_agrees, agreeing_packet, closing_agrees, agreeing_closing}
use Rattle.reception.proofs.KeptAsHeld.{SameKey}
use Rattle.reception.proofs.WhatHearingAdds.{Sound, own_key}
use Rattle.reception.proofs.ExplainedTogether.{Together, heard_left}
use Rattle.std.specs.Prelude.{Ok, Err}
use Rattle.reception.specs.declared.NotJoined.TheVariants.{Contradicts, Refused}
use Rattle.units.specs.declared.refusals.Refusal.TheVariants.{CapacitiesDiffer, OtherSequence, RecordDamaged}

-- neither 14, 13 nor 9 applies to two records
pub record Joinable (a b : Kept) : Type 0 where
  pub left : Sound a
  pub right : Sound b
  pub own : other_record a b ≡ false
  pub long : length a.marks ≡ length b.marks

pub same_key : (a b : Kept) → Joinable a b → SameKey a.head b.head
same_key a b j = let p = own_key a.head b.head.bearer b.head.period b.head.stamp j.own in record { bearers = p.0; periods = p.1; stamps = p.2 }

-- the tests that come last: a packet of the right contradicts, or its closing
abbrev pub judged : Kept → Kept → JoinOutcome
judged a b =
    contradicts a (lowest (held_by a) (held_by b)) when ltb (lowest (held_by a) (held_by b)) (length a.marks) otherwise
    contradicts a closing_named when own_closing_off (held_by a) (held_by b) otherwise
    joins (joined_kept a b)

-- records that can be joined come to those
pub joinable_judged : (a b : Kept) → Joinable a b → join_records a b ≡ judged a b
unfolding join_records
joinable_judged a b j =
    simp (j.left.matched, j.right.matched, eq-eqb (length a.marks) (length b.marks) j.long, j.left.undamaged, j.right.undamaged, j.own)

-- an answer that is no refusal of 14, 13 or 9 passed the first test of a chain
abbrev NotRefused : JoinOutcome → Type 0
NotRefused o = (r : Refusal) → o.answer ≡ Err (Refused r) → ⊥

not_first : (k : Kept) (n : Refusal) (t : Bool) (o : JoinOutcome) → NotRefused (refuses_join k n when t otherwise o) → (t ≡ false) × NotRefused o
not_first k n true o f = absurd (f _ refl)
not_first k n false o f = (refl, f)

pub not_refused_joinable : (a b : Kept) → NotRefused (join_records a b) → Joinable a b
unfolding join_records
not_refused_joinable a b f =
    let p = not_first a CapacitiesDiffer (capacities_off a b) _ f in
    let q = not_first a RecordDamaged (damaged_kept a || damaged_kept b) _ p.1 in
    let o = not_first a OtherSequence (other_record a b) _ q.1 in
    let m = or_false (unmatched a) _ p.0 in
    let n = or_false (unmatched b) (not (eqb (length a.marks) (length b.marks))) m.1 in
    let d = or_false (damaged_kept a) (damaged_kept b) q.0 in
    record {
      left = record { matched = m.0; undamaged = d.0 };
      right = record { matched = n.0; undamaged = d.1 };
      own = o.0;
      long = eqb-true _ _ (not-false _ n.1);
    }

pub done_joinable : (a b : Kept) → (join_records a b).answer ≡ Ok tt → Joinable a b
done_joinable a b e = not_refused_joinable a b (λ r f. let z : ◌≡◌ {A = ℕ} 0 1 = cc in omega arith)

pub contradicted_joinable : (a b : Kept) (n : ℕ) → (join_records a b).answer ≡ Err (Contradicts n) → Joinable a b
contradicted_joinable a b n e = not_refused_joinable a b (λ r f. let z : ◌≡◌ {A = ℕ} 0 1 = cc in omega arith)

-- m is the lowest number from k on, below end, at which the right contradicts, or end where none is
pub record LowestIs (a b : Held) (k end m : ℕ) : Type 0 where
  pub from : k ≤ m
  pub to : m ≤ end
  pub off : m < end → packet_off a b m ≡ true
  pub lower : (j : ℕ) → k ≤ j → j < m → packet_off a b j ≡ false

pub lowest_is : (a b : Held) (n k end : ℕ) → k + n ≡ end → LowestIs a b k end (lowest_off a b n k)
unfolding lowest_off
lowest_is a b zero k end e =
    record { from = omega arith; to = omega arith; off = λ lt. absurd (omega arith); lower = λ j le lt. absurd (omega arith) }
lowest_is a b (suc n) k end e = ⊎_elim here (on (lowest_is a b n (suc k) end (omega arith))) (either (packet_off a b k))
  where
    here : packet_off a b k ≡ true → LowestIs a b k end (cond (packet_off a b k) k (lowest_off a b n (suc k)))
    here t =
        rw t
        (record { from = omega arith; to = omega arith; off = λ _. t; lower = λ j le lt. absurd (omega arith) })

    on : LowestIs a b (suc k) end (lowest_off a b n (suc k)) → packet_off a b k ≡ false
        → LowestIs a b k end (cond (packet_off a b k) k (lowest_off a b n (suc k)))
    on p t =
        rw t
        (record {
          from = omega (arith, p.from);
          to = p.to;
          off = p.off;
          lower = λ j le lt. ⊎_elim (λ u. p.lower j (ltb-true _ _ u) lt) (λ u. let g = ltb-false k j u in let z : j ≡ k = omega arith in rw z t) (either (ltb k j));
        })

pub lowest_of : (a b : Held) → LowestIs a b 0 a.capacity (lowest a b)
lowest_of a b = lowest_is a b a.capacity 0 a.capacity (omega arith)

-- packet k of the right alone contradicts the left: no sending explains the left and has it
pub record PacketAlone (a b : Held) (k : ℕ) : Type 0 where
  pub heard : Heard b k
  pub none : (s : List ℕ) → Explains a s → Sent s k (b.elapsed k) (b.size k) → ⊥

-- so does its closing
pub record ClosingAlone (a b : Held) : Type 0 where
  pub heard : b.closed ≡ true
  pub none : (s : List ℕ) → Explains a s → Whole s b.count b.total → ⊥

-- the tests say so exactly
module _ (a b : Held) (z : Sized a) (y : Sized b) (x : Explained a) (e : a.capacity ≡ b.capacity) where
  pub off_alone : (k : ℕ) → k < a.capacity → packet_off a b k ≡ true → PacketAlone a b k
  off_alone k lt t =
      let p = both (is_heard b k) (packet_contradicts a k (b.elapsed k) (b.size k)) t in
      record {
        heard = heard_left b k p.0 (omega arith);
        none = λ s h w. false≢true (sym (agreeing_packet a k _ _ s lt h w) ∙ p.1);
      }

  pub on_goes : (k : ℕ) → packet_off a b k ≡ false → Heard b k → (s : List ℕ) × Explains a s × Sent s k (b.elapsed k) (b.size k)
  on_goes k t h =
      let c : packet_contradicts a k (b.elapsed k) (b.size k) ≡ false = rw (eq-eqb _ _ h.marked) at t in
      packet_agrees a k _ _ z (omega (arith, h.below)) x c

  pub on_not_alone : (k : ℕ) → packet_off a b k ≡ false → PacketAlone a b k → ⊥
  on_not_alone k t p = let g = on_goes k t p.heard in p.none g.0 g.1 g.2

  pub closing_off_alone : own_closing_off a b ≡ true → ClosingAlone a b
  closing_off_alone t =
      let p = both b.closed (closing_contradicts a b.count b.total) t in
      record { heard = p.0; none = λ s h w. false≢true (sym (agreeing_closing a _ _ s h w) ∙ p.1) }

  pub closing_goes : own_closing_off a b ≡ false → b.closed ≡ true → (s : List ℕ) × Explains a s × Whole s b.count b.total
  closing_goes t c = closing_agrees a _ _ z (y.count_fits c) x (closing_agreed b.closed t c)
    where
      closing_agreed : (u : Bool) → (u && closing_contradicts a b.count b.total) ≡ false → u ≡ true → closing_contradicts a b.count b.total ≡ false
      closing_agreed true t c = t
      closing_agreed false t c = absurd (false≢true c)

  -- where one sending explains both, no test says so
  module _ (t : Together a b) where
    none_off : (k : ℕ) → k < a.capacity → packet_off a b k ≡ false
    none_off k lt =
        ⊎_elim (λ (u : is_heard b k ≡ true). rw u (agreeing_packet a k _ _ t.0 lt t.1 (t.2.packets k (heard_left b k u (omega arith)))))
        (λ (u : is_heard b k ≡ false). rw u) (either (is_heard b k))

    pub together_none : lowest a b ≡ a.capacity
    together_none =
        let l = lowest_of a b in
        ⊎_elim
        (λ u. absurd (false≢true (sym (none_off _ (ltb-true _ _ u)) ∙ l.off (ltb-true _ _ u))))
        (λ u. let g = ltb-false (lowest a b) a.capacity u in omega (arith, l.to)) (either (ltb (lowest a b) a.capacity))

    pub together_closing : own_closing_off a b ≡ false
    together_closing = go b.closed refl
      where
        go : (u : Bool) → b.closed ≡ u → (u && closing_contradicts a b.count b.total) ≡ false
        go true c = agreeing_closing a _ _ t.0 t.1 (t.2.closing c)
        go false c = refl
