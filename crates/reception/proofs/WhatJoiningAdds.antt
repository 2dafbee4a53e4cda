-- What a join leaves: exactly what either heard, of the left's key and capacity; and a sound record, whatever the answer. Assumes nothing.
use Prim.Native.Nat.{ℕ}
use mathlib.Core.Path.{◌≡◌, refl, sym, ap, ◌∙◌, subst}
use mathlib.Core.Logic.{◌⊎◌, inl, inr, ⊎_elim}
use mathlib.Core.Bool.{true, false, ◌||◌}
use native.Mathlib.Omega.{arith}
use borrow.Author.Tests.{eqb-true, eq-eqb}
use Rattle.fields.proofs.Choosing.{pick_yes, pick_no}
use Rattle.fields.proofs.Tests.{either, or_false}
use Rattle.reception.specs.Answers.{Joined}
use Rattle.reception.specs.Sendings.{Held, Heard}
use Rattle.reception.specs.Walk.{is_heard}
use Rattle.reception.specs.Damage.{Undamaged, damaged_record}
use Rattle.reception.specs.Hearing.{Kept, held_by}
use Rattle.reception.specs.Joining.{union, HoldsBoth, joined_kept, JoinOutcome, join_records}
use Rattle.reception.proofs.DamagedExactly.{undamaged_passed}
use Rattle.reception.proofs.KeptAsHeld.{SameKey, matched_lists}
use Rattle.reception.proofs.WhatHearingAdds.{Sound, sound_lists}
use Rattle.reception.proofs.HearingUndamaged.{sound_undamaged}
use Rattle.reception.proofs.JoinedAsHeld.{joined_held, joined_matched}
use Rattle.reception.proofs.ExplainedTogether.{Together, or_right, or_left, or_second, heard_left, heard_right, explains_union}
use Rattle.reception.proofs.JoinJudged.{Joinable, done_joinable}
use Rattle.reception.proofs.JoinRefusedExactly.{done_joins, done_together, join_refusal_changes_nothing}
use Rattle.std.specs.Prelude.{Ok, Err}
use Rattle.reception.specs.declared.NotJoined.TheVariants.{Contradicts, Refused}

-- two numbers of a packet, or of a closing, are those
abbrev pub Pair : ℕ → ℕ → ℕ → ℕ → Type 0
Pair x y u v = (x ≡ u) × (y ≡ v)

-- the union of two records that one sending explains holds what either heard
module _ (a b : Held) (e : a.capacity ≡ b.capacity) where
  heard_either : (k : ℕ) → Heard (union a b) k → Heard a k ⊎ Heard b k
  heard_either k h = ⊎_elim (λ t. inl (heard_left a k t h.below)) (λ t. inr (heard_right a b k e t h)) (either (is_heard a k))

  of_left : (k : ℕ) → Heard a k → Heard (union a b) k
  of_left k h = record { below = h.below; marked = pick_yes (is_heard a k) _ _ (eq-eqb _ _ h.marked) ∙ h.marked }

  of_right : (k : ℕ) → Heard b k → Heard (union a b) k
  of_right k h =
      ⊎_elim (λ t. of_left k (heard_left a k t (omega (arith, h.below))))
      (λ t. record { below = omega (arith, h.below); marked = pick_no (is_heard a k) _ _ t ∙ h.marked }) (either (is_heard a k))

  closed_either : (a.closed || b.closed) ≡ true → (a.closed ≡ true) ⊎ (b.closed ≡ true)
  closed_either h = ⊎_elim (λ t. inl t) (λ t. inr (or_right _ _ t h)) (either a.closed)

  pub union_holds : Together a b → HoldsBoth a b (union a b)
  union_holds t =
      record {
        heard = λ k. (heard_either k, ⊎_elim (of_left k) (of_right k));
        left = left;
        right = λ k h. ⊎_elim (both_heard k h) (λ u. (pick_no (is_heard a k) _ _ u, pick_no (is_heard a k) _ _ u)) (either (is_heard a k));
        closed = (closed_either, ⊎_elim (λ c. or_left _ _ c) (λ c. or_second a.closed _ c));
        closing_left = λ c. (pick_yes _ _ _ c, pick_yes _ _ _ c);
        closing_right = λ c.
            ⊎_elim (both_closed c) (λ u. (pick_no _ _ _ u, pick_no _ _ _ u)) (either a.closed);
        capacities = refl;
      }
    where
      left : (k : ℕ) → Heard a k → Pair ((union a b).elapsed k) ((union a b).size k) (a.elapsed k) (a.size k)
      left k h = let u = eq-eqb _ _ h.marked in (pick_yes (is_heard a k) _ _ u, pick_yes (is_heard a k) _ _ u)

      both_heard : (k : ℕ) → Heard b k → is_heard a k ≡ true → Pair ((union a b).elapsed k) ((union a b).size k) (b.elapsed k) (b.size k)
      both_heard k h u =
          let p = heard_left a k u (omega (arith, h.below)) in
          let x = t.1.packets k p in
          let y = t.2.packets k h in
          ((left k p).0 ∙ sym x.before_is ∙ y.before_is, (left k p).1 ∙ sym x.length_is ∙ y.length_is)

      both_closed : b.closed ≡ true → a.closed ≡ true → Pair (union a b).count (union a b).total b.count b.total
      both_closed c u =
          let x = t.1.closing u in
          let y = t.2.closing c in
          (pick_yes _ _ _ u ∙ sym x.count_is ∙ y.count_is, pick_yes _ _ _ u ∙ sym x.total_is ∙ y.total_is)

-- an accepted join leaves what either heard, and the left's key
pub record JoinedBoth (a b after : Kept) : Type 0 where
  pub holds : HoldsBoth (held_by a) (held_by b) (held_by after)
  pub key : SameKey after.head a.head

pub joinable_held : (a b : Kept) → Joinable a b → held_by (joined_kept a b) ≡ union (held_by a) (held_by b)
joinable_held a b j = joined_held a b (sound_lists a j.left) (sound_lists b j.right) j.long

pub holds_either : (a b : Kept) → (join_records a b).answer ≡ Ok tt → JoinedBoth a b (join_records a b).kept
holds_either a b e =
    let j = done_joinable a b e in
    let t = done_together a b j e in
    let q = ap (λ (o : JoinOutcome). o.kept) (done_joins a b e) in
    record {
      holds = subst (HoldsBoth (held_by a) (held_by b)) (sym (ap held_by q ∙ joinable_held a b j)) (union_holds (held_by a) (held_by b) j.long t);
      key =
          record {
            bearers = ap (λ (x : Kept). x.head.bearer) q;
            periods = ap (λ (x : Kept). x.head.period) q;
            stamps = ap (λ (x : Kept). x.head.stamp) q;
          };
    }

-- the union of two undamaged records that one sending explains is undamaged
union_undamaged : (stamp other : ℕ) (a b : Held) → a.capacity ≡ b.capacity → Undamaged stamp a → Undamaged other b → Together a b
    → Undamaged stamp (union a b)
union_undamaged stamp other a b e u v t =
    record {
      in_range = u.in_range;
      marks = λ k lt.
          ⊎_elim (λ (h : is_heard a k ≡ true). inl (pick_yes _ _ _ h ∙ eqb-true _ _ h))
          (λ (h : is_heard a k ≡ false). rw h (v.marks k (omega arith))) (either (is_heard a k));
      unheard = λ k lt m.
          ⊎_elim
          (λ (h : is_heard a k ≡ true).
          let one : a.mark k ≡ 1 = eqb-true _ _ h in
          let z : a.mark k ≡ 0 = rw h at m in
          absurd (omega (arith, one, z)))
          (λ (h : is_heard a k ≡ false). rw h (v.unheard k (omega arith) (rw h at m))) (either (is_heard a k));
      unclosed = λ f. let p = or_false a.closed b.closed f in let z = v.unclosed p.1 in (pick_no _ _ _ p.0 ∙ z.0, pick_no _ _ _ p.0 ∙ z.1);
      within =
          ⊎_elim (λ (h : a.closed ≡ true). rw (pick_yes _ a.count b.count h) u.within)
          (λ (h : a.closed ≡ false). rw (pick_no _ a.count b.count h) (omega (arith, v.within))) (either a.closed);
      explained = (t.0, explains_union a b t.0 e t.1 t.2);
    }

-- so a join of records that can be joined leaves a sound one
pub joined_sound : (a b : Kept) → Joinable a b → Together (held_by a) (held_by b) → Sound (joined_kept a b)
joined_sound a b j t =
    record {
      matched = matched_lists _ _ _ (joined_matched a b (sound_lists a j.left));
      undamaged = subst (λ (r : Held). damaged_record a.head.stamp r ≡ false) (sym (joinable_held a b j))
          (undamaged_passed _ _
          (union_undamaged _ _ (held_by a) (held_by b) j.long (sound_undamaged a j.left) (sound_undamaged b j.right) t));
    }

done_or_not : (o : Joined) → (o ≡ Ok tt) ⊎ (o ≡ Ok tt → ⊥)
done_or_not (Ok u) = inl refl
done_or_not (Err (Contradicts n)) = inr (λ e. let z : ◌≡◌ {A = ℕ} 0 1 = cc in omega arith)
done_or_not (Err (Refused r)) = inr (λ e. let z : ◌≡◌ {A = ℕ} 0 1 = cc in omega arith)

-- joining makes no record damaged, nor its lists of different lengths, whatever the answer
pub join_undamaged : (a b : Kept) → Sound a → Sound (join_records a b).kept
join_undamaged a b s =
    ⊎_elim
    (λ e.
    let j = done_joinable a b e in
    let q = ap (λ (o : JoinOutcome). o.kept) (done_joins a b e) in
    subst Sound (sym q) (joined_sound a b j (done_together a b j e)))
    (λ f. subst Sound (sym (join_refusal_changes_nothing a b f)) s)
    (done_or_not (join_records a b).answer)
