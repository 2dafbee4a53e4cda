-- Joining is a union: the order and the grouping do not matter, and joining with itself or with an empty record changes nothing.
-- Assumes nothing.
use Prim.Native.Nat.{ℕ, ◌<◌}
use mathlib.Core.Path.{◌≡◌, refl, sym, ap, ◌∙◌, subst}
use mathlib.Core.Logic.{⊎_elim}
use mathlib.Core.Bool.{Bool, true, false, cond, or-false, or_self, or_comm}
use mathlib.Core.List.{List}
use native.Mathlib.Omega.{arith}
use lib.ListN.{length, length-replicate}
use borrow.Author.Tests.{eqb-true, eqb-false}
use Rattle.fields.proofs.Choosing.{pick_same}
use Rattle.reception.specs.declared.Head.{Head}
use Rattle.reception.specs.Sendings.{Held, Heard, Explains}
use Rattle.reception.specs.Walk.{is_heard}
use Rattle.reception.specs.Damage.{Undamaged}
use Rattle.reception.specs.Adding.{empty_record}
use Rattle.reception.specs.Hearing.{Kept, held_by, empty_kept}
use Rattle.reception.specs.Joining.{union, joined_kept, joins, other_record, join_records}
use Rattle.reception.proofs.AnyOrder.{explains_empty}
use Rattle.reception.proofs.KeptAsHeld.{SameKey, held_empty}
use Rattle.reception.proofs.WhatHearingAdds.{Sound, sound_lists, owned_key, key_owned}
use Rattle.reception.proofs.HearingUndamaged.{sound_undamaged, empty_sound}
use Rattle.reception.proofs.JoinedAsHeld.{joined_matched, Same, told_by_places}
use Rattle.reception.proofs.ExplainedTogether.{Together, heard_left}
use Rattle.reception.proofs.JoinJudged.{Joinable, same_key, done_joinable}
use Rattle.reception.proofs.JoinRefusedExactly.{sound_explained, together_joins, done_together}
use Rattle.reception.proofs.WhatJoiningAdds.{joinable_held}
use Rattle.std.specs.Prelude.{Ok}

-- records of one key
pub own_record : (a b : Kept) → SameKey a.head b.head → other_record a b ≡ false
own_record a b k = owned_key a.head _ _ _ k.bearers k.periods k.stamps

-- the other way round
pub swapped : (a b : Kept) → Joinable a b → Joinable b a
swapped a b j =
    let k = same_key a b j in
    record {
      left = j.right;
      right = j.left;
      own = own_record b a (record { bearers = sym k.bearers; periods = sym k.periods; stamps = sym k.stamps });
      long = sym j.long;
    }

-- an unheard place of an undamaged record holds zeros
unheard_zero : (stamp : ℕ) (r : Held) → Undamaged stamp r → (k : ℕ) → k < r.capacity → is_heard r k ≡ false
    → (r.mark k ≡ 0) × (r.elapsed k ≡ 0) × (r.size k ≡ 0)
unheard_zero stamp r u k lt f =
    ⊎_elim (λ m. absurd (eqb-false _ _ f m)) (λ m. let z = u.unheard k lt m in (m, z.0, z.1)) (u.marks k lt)

-- what both heard is one number, and what one did not hear is zero: either may be chosen first
cond_comm : (c d : Bool) (x y : ℕ) → (c ≡ true → d ≡ true → x ≡ y) → (c ≡ false → x ≡ 0) → (d ≡ false → y ≡ 0) → cond c x y ≡ cond d y x
cond_comm true true x y p q r = p refl refl
cond_comm true false x y p q r = refl
cond_comm false true x y p q r = refl
cond_comm false false x y p q r = r refl ∙ sym (q refl)

module _ (p q : ℕ) (a b : Held) (e : a.capacity ≡ b.capacity) (u : Undamaged p a) (v : Undamaged q b) (t : Together a b) where
  at_a : (k : ℕ) → k < a.capacity → is_heard a k ≡ true → Heard a k
  at_a k lt h = heard_left a k h lt

  at_b : (k : ℕ) → k < a.capacity → is_heard b k ≡ true → Heard b k
  at_b k lt h = heard_left b k h (omega arith)

  union_comm : Same (union a b) (union b a)
  union_comm =
      record {
        capacities = e;
        marks = λ k lt.
            cond_comm (is_heard a k) (is_heard b k) _ _ (λ x y. eqb-true _ _ x ∙ sym (eqb-true _ _ y)) (λ f. (unheard_zero p a u k lt f).0)
            (λ f. (unheard_zero q b v k (omega arith) f).0);
        elapseds = λ k lt.
            cond_comm (is_heard a k) (is_heard b k) _ _
            (λ x y. sym (t.1.packets k (at_a k lt x)).before_is ∙ (t.2.packets k (at_b k lt y)).before_is)
            (λ f. (unheard_zero p a u k lt f).1) (λ f. (unheard_zero q b v k (omega arith) f).1);
        sizes = λ k lt.
            cond_comm (is_heard a k) (is_heard b k) _ _
            (λ x y. sym (t.1.packets k (at_a k lt x)).length_is ∙ (t.2.packets k (at_b k lt y)).length_is)
            (λ f. (unheard_zero p a u k lt f).2) (λ f. (unheard_zero q b v k (omega arith) f).2);
        closeds = or_comm a.closed b.closed;
        counts = cond_comm a.closed b.closed _ _ (λ x y. sym (t.1.closing x).count_is ∙ (t.2.closing y).count_is)
            (λ f. (u.unclosed f).0) (λ f. (v.unclosed f).0);
        totals = cond_comm a.closed b.closed _ _ (λ x y. sym (t.1.closing x).total_is ∙ (t.2.closing y).total_is)
            (λ f. (u.unclosed f).1) (λ f. (v.unclosed f).1);
      }

-- two joins that hold the same leave the very same record
pub joined_same : (a b c d : Kept) → Joinable a b → Joinable c d → SameKey a.head c.head
    → Same (union (held_by a) (held_by b)) (union (held_by c) (held_by d)) → joined_kept a b ≡ joined_kept c d
joined_same a b c d j i k s =
    told_by_places (joined_kept a b) (joined_kept c d) (joined_matched a b (sound_lists a j.left)) (joined_matched c d (sound_lists c i.left))
    (record { bearers = k.bearers; periods = k.periods; stamps = k.stamps })
    (subst (λ (r : Held). Same r (held_by (joined_kept c d))) (sym (joinable_held a b j))
    (subst (Same (union (held_by a) (held_by b))) (sym (joinable_held c d i)) s))

-- whichever is the left one: the same record comes out, or neither join is accepted
pub either_order : (a b : Kept) → (join_records a b).answer ≡ Ok tt → join_records b a ≡ join_records a b
either_order a b e =
    let j = done_joinable a b e in
    let i = swapped a b j in
    let t = done_together a b j e in
    let s = union_comm _ _ (held_by a) (held_by b) j.long (sound_undamaged a j.left) (sound_undamaged b j.right) t in
    together_joins b a i (t.0, t.2, t.1)
    ∙ ap joins (sym (joined_same a b b a j i (same_key a b j) s))
    ∙ sym (together_joins a b j t)

-- a record with itself
union_self : (a : Held) → Same (union a a) a
union_self a =
    record {
      capacities = refl;
      marks = λ k lt. pick_same (is_heard a k) _;
      elapseds = λ k lt. pick_same (is_heard a k) _;
      sizes = λ k lt. pick_same (is_heard a k) _;
      closeds = or_self a.closed;
      counts = pick_same a.closed _;
      totals = pick_same a.closed _;
    }

-- a join that holds the same as a sound record leaves that record
joined_is : (a b c : Kept) → Joinable a b → Sound c → SameKey a.head c.head → Same (union (held_by a) (held_by b)) (held_by c) → joined_kept a b ≡ c
joined_is a b c j s k h =
    told_by_places (joined_kept a b) c (joined_matched a b (sound_lists a j.left)) (sound_lists c s)
    (record { bearers = k.bearers; periods = k.periods; stamps = k.stamps })
    (subst (λ (r : Held). Same r (held_by c)) (sym (joinable_held a b j)) h)

self_key : (h : Head) → SameKey h h
self_key h = record { bearers = refl; periods = refl; stamps = refl }

pub with_itself : (a : Kept) → Sound a → join_records a a ≡ joins a
with_itself a s =
    let j : Joinable a a = record { left = s; right = s; own = key_owned a.head; long = refl } in
    let x = sound_explained a s in
    together_joins a a j (x.0, x.1, x.1) ∙ ap joins (joined_is a a a j s (self_key a.head) (union_self (held_by a)))

-- the empty record of a's key and capacity
abbrev pub empty_of : Kept → Kept
empty_of a = empty_kept a.head.bearer a.head.period a.head.stamp (length a.marks)

empty_of_sound : (a : Kept) → Sound a → Sound (empty_of a)
empty_of_sound a s = empty_sound _ _ _ _ (sound_undamaged a s).in_range (sound_lists a s).room

empty_of_held : (a : Kept) → held_by (empty_of a) ≡ empty_record (length a.marks)
empty_of_held a = held_empty a.head.bearer a.head.period a.head.stamp (length a.marks)

-- every sending explains it
empty_of_explains : (a : Kept) (s : List ℕ) → Explains (held_by a) s → Explains (held_by (empty_of a)) s
empty_of_explains a s h = subst (λ (r : Held). Explains r s) (sym (empty_of_held a)) (explains_empty _ s h.sending)

cond_zero : (c : Bool) (x : ℕ) → (c ≡ false → x ≡ 0) → cond c x 0 ≡ x
cond_zero true x h = refl
cond_zero false x h = sym (h refl)

union_empty : (stamp : ℕ) (a : Held) → Undamaged stamp a → Same (union a (empty_record a.capacity)) a
union_empty stamp a u =
    record {
      capacities = refl;
      marks = λ k lt. cond_zero (is_heard a k) _ (λ f. (unheard_zero stamp a u k lt f).0);
      elapseds = λ k lt. cond_zero (is_heard a k) _ (λ f. (unheard_zero stamp a u k lt f).1);
      sizes = λ k lt. cond_zero (is_heard a k) _ (λ f. (unheard_zero stamp a u k lt f).2);
      closeds = or-false a.closed;
      counts = cond_zero a.closed _ (λ f. (u.unclosed f).0);
      totals = cond_zero a.closed _ (λ f. (u.unclosed f).1);
    }

empty_union : (a : Held) → Same (union (empty_record a.capacity) a) a
empty_union a =
    record {
      capacities = refl;
      marks = λ k lt. refl;
      elapseds = λ k lt. refl;
      sizes = λ k lt. refl;
      closeds = refl;
      counts = refl;
      totals = refl;
    }

-- joining with an empty record, on either side, gives the other one
module _ (a : Kept) (s : Sound a) where
  with_right : Joinable a (empty_of a)
  with_right =
      record { left = s; right = empty_of_sound a s; own = key_owned a.head; long = sym (length-replicate {A = ℕ} (length a.marks) 0) }

  with_left : Joinable (empty_of a) a
  with_left = swapped a (empty_of a) with_right

  pub with_empty : join_records a (empty_of a) ≡ joins a
  with_empty =
      let x = sound_explained a s in
      let h = subst (λ (r : Held). Same (union (held_by a) r) (held_by a)) (sym (empty_of_held a)) (union_empty _ (held_by a) (sound_undamaged a s)) in
      together_joins a (empty_of a) with_right (x.0, x.1, empty_of_explains a x.0 x.1)
      ∙ ap joins (joined_is a (empty_of a) a with_right s (self_key a.head) h)

  pub empty_with : join_records (empty_of a) a ≡ joins a
  empty_with =
      let x = sound_explained a s in
      let h = subst (λ (r : Held). Same (union r (held_by a)) (held_by a)) (sym (empty_of_held a)) (empty_union (held_by a)) in
      together_joins (empty_of a) a with_left (x.0, empty_of_explains a x.0 x.1, x.1)
      ∙ ap joins (joined_is (empty_of a) a a with_left s (record { bearers = refl; periods = refl; stamps = refl }) h)
