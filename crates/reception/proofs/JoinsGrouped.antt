-- Three records joined: if one grouping is accepted so is the other, and the very same record comes out. Assumes nothing.
use Prim.Native.Nat.{ℕ}
use mathlib.Core.Path.{◌≡◌, refl, sym, ap, ◌∙◌, subst}
use mathlib.Core.Logic.{⊎_elim, ◌↔◌}
use mathlib.Core.Bool.{Bool, true, false, cond, ◌||◌, or_assoc}
use mathlib.Core.List.{List}
use lib.Dec.{eqb}
use Rattle.fields.proofs.Tests.{either}
use Rattle.reception.specs.declared.Head.{Head}
use Rattle.reception.specs.Answers.{Joined}
use Rattle.reception.specs.Sendings.{Held, Explains}
use Rattle.reception.specs.Hearing.{Kept, held_by}
use Rattle.reception.specs.Joining.{union, joined_kept, JoinOutcome, joins, join_records}
use Rattle.reception.proofs.KeptAsHeld.{SameKey}
use Rattle.reception.proofs.JoinedAsHeld.{length_chosen, Same}
use Rattle.reception.proofs.ExplainedTogether.{union_left, union_right, explains_union}
use Rattle.reception.proofs.JoinJudged.{Joinable, same_key, done_joinable}
use Rattle.reception.proofs.JoinRefusedExactly.{together_joins, done_together, done_joins}
use Rattle.reception.proofs.WhatJoiningAdds.{joinable_held, joined_sound}
use Rattle.reception.proofs.LawsOfJoining.{own_record, joined_same}
use Rattle.std.specs.Prelude.{Ok}

-- three choices in a row
cond_assoc : (m n x y z : ℕ) → cond (eqb (cond (eqb m 1) m n) 1) (cond (eqb m 1) x y) z ≡ cond (eqb m 1) x (cond (eqb n 1) y z)
cond_assoc m n x y z = ⊎_elim (λ (t : eqb m 1 ≡ true). rw (t, t)) (λ (t : eqb m 1 ≡ false). rw t) (either (eqb m 1))

or_cond : (c d : Bool) (x y z : ℕ) → cond (c || d) (cond c x y) z ≡ cond c x (cond d y z)
or_cond true d x y z = refl
or_cond false d x y z = refl

union_assoc : (a b c : Held) → Same (union (union a b) c) (union a (union b c))
union_assoc a b c =
    record {
      capacities = refl;
      marks = λ k lt. cond_assoc (a.mark k) (b.mark k) _ _ _;
      elapseds = λ k lt. cond_assoc (a.mark k) (b.mark k) _ _ _;
      sizes = λ k lt. cond_assoc (a.mark k) (b.mark k) _ _ _;
      closeds = or_assoc a.closed b.closed c.closed;
      counts = or_cond a.closed b.closed _ _ _;
      totals = or_cond a.closed b.closed _ _ _;
    }

key_through : (a b c : Head) → SameKey a b → SameKey b c → SameKey a c
key_through a b c p q =
    record { bearers = p.bearers ∙ q.bearers; periods = p.periods ∙ q.periods; stamps = p.stamps ∙ q.stamps }

-- three records of which the first and the second, and the second and the third, can be joined, and one sending explains all
record Three (a b c : Kept) : Type 0 where
  ab : Joinable a b
  bc : Joinable b c
  sent : List ℕ
  left : Explains (held_by a) sent
  middle : Explains (held_by b) sent
  right : Explains (held_by c) sent

module _ (a b c : Kept) (t : Three a b c) where
  with_joined : Joinable a (joined_kept b c)
  with_joined =
      record {
        left = t.ab.left;
        right = joined_sound b c t.bc (t.sent, t.middle, t.right);
        own = own_record a (joined_kept b c) (let k = same_key a b t.ab in record { bearers = k.bearers; periods = k.periods; stamps = k.stamps });
        long = t.ab.long ∙ sym (length_chosen b.marks b.marks c.marks);
      }

  joined_with : Joinable (joined_kept a b) c
  joined_with =
      record {
        left = joined_sound a b t.ab (t.sent, t.left, t.middle);
        right = t.bc.right;
        own = own_record (joined_kept a b) c
            (let k = key_through a.head b.head c.head (same_key a b t.ab) (same_key b c t.bc) in record { bearers = k.bearers; periods = k.periods; stamps = k.stamps });
        long = length_chosen a.marks a.marks b.marks ∙ t.ab.long ∙ t.bc.long;
      }

  left_once : join_records a b ≡ joins (joined_kept a b)
  left_once = together_joins a b t.ab (t.sent, t.left, t.middle)

  right_once : join_records b c ≡ joins (joined_kept b c)
  right_once = together_joins b c t.bc (t.sent, t.middle, t.right)

  left_twice : join_records (joined_kept a b) c ≡ joins (joined_kept (joined_kept a b) c)
  left_twice =
      together_joins (joined_kept a b) c joined_with
      (t.sent, subst (λ (r : Held). Explains r t.sent) (sym (joinable_held a b t.ab)) (explains_union _ _ _ t.ab.long t.left t.middle), t.right)

  right_twice : join_records a (joined_kept b c) ≡ joins (joined_kept a (joined_kept b c))
  right_twice =
      together_joins a (joined_kept b c) with_joined
      (t.sent, t.left, subst (λ (r : Held). Explains r t.sent) (sym (joinable_held b c t.bc)) (explains_union _ _ _ t.bc.long t.middle t.right))

  all_same : joined_kept (joined_kept a b) c ≡ joined_kept a (joined_kept b c)
  all_same =
      joined_same (joined_kept a b) c a (joined_kept b c) joined_with with_joined (record { bearers = refl; periods = refl; stamps = refl })
      (subst (λ (r : Held). Same (union r (held_by c)) (union (held_by a) (held_by (joined_kept b c)))) (sym (joinable_held a b t.ab))
      (subst (λ (r : Held). Same (union (union (held_by a) (held_by b)) (held_by c)) (union (held_by a) r)) (sym (joinable_held b c t.bc))
      (union_assoc (held_by a) (held_by b) (held_by c))))

-- the first two are joined first, and both joins are accepted
pub record LeftFirst (a b c : Kept) : Type 0 where
  pub first : (join_records a b).answer ≡ Ok tt
  pub then : (join_records (join_records a b).kept c).answer ≡ Ok tt

-- or the last two
pub record RightFirst (a b c : Kept) : Type 0 where
  pub first : (join_records b c).answer ≡ Ok tt
  pub then : (join_records a (join_records b c).kept).answer ≡ Ok tt

abbrev answer_of : JoinOutcome → Joined
answer_of o = o.answer

abbrev kept_of : JoinOutcome → Kept
kept_of o = o.kept

three_left : (a b c : Kept) → Three a b c → LeftFirst a b c
three_left a b c t =
    record {
      first = ap answer_of (left_once a b c t);
      then = rw (left_once a b c t) (ap answer_of (left_twice a b c t));
    }

three_right : (a b c : Kept) → Three a b c → RightFirst a b c
three_right a b c t =
    record {
      first = ap answer_of (right_once a b c t);
      then = rw (right_once a b c t) (ap answer_of (right_twice a b c t));
    }

left_three : (a b c : Kept) → LeftFirst a b c → Three a b c
left_three a b c f =
    let i = done_joinable a b f.first in
    let t = done_together a b i f.first in
    let e : (join_records (joined_kept a b) c).answer ≡ Ok tt = rw (done_joins a b f.first) at f.then in
    let j = done_joinable (joined_kept a b) c e in
    let k = same_key a b i in
    let l = same_key (joined_kept a b) c j in
    let u = done_together (joined_kept a b) c j e in
    let w = subst (λ (r : Held). Explains r u.0) (joinable_held a b i) u.1 in
    record {
      ab = i;
      bc =
          record {
            left = i.right;
            right = j.right;
            own = own_record b c
                (record {
                  bearers = sym k.bearers ∙ l.bearers;
                  periods = sym k.periods ∙ l.periods;
                  stamps = sym k.stamps ∙ l.stamps;
                });
            long = sym i.long ∙ sym (length_chosen a.marks a.marks b.marks) ∙ j.long;
          };
      sent = u.0;
      left = union_left (held_by a) (held_by b) u.0 w;
      middle = union_right (held_by a) (held_by b) u.0 i.long t w;
      right = u.2;
    }

right_three : (a b c : Kept) → RightFirst a b c → Three a b c
right_three a b c f =
    let i = done_joinable b c f.first in
    let t = done_together b c i f.first in
    let e : (join_records a (joined_kept b c)).answer ≡ Ok tt = rw (done_joins b c f.first) at f.then in
    let j = done_joinable a (joined_kept b c) e in
    let l = same_key a (joined_kept b c) j in
    let u = done_together a (joined_kept b c) j e in
    let w = subst (λ (r : Held). Explains r u.0) (joinable_held b c i) u.2 in
    record {
      ab =
          record {
            left = j.left;
            right = i.left;
            own = own_record a b (record { bearers = l.bearers; periods = l.periods; stamps = l.stamps });
            long = j.long ∙ length_chosen b.marks b.marks c.marks;
          };
      bc = i;
      sent = u.0;
      left = u.1;
      middle = union_left (held_by b) (held_by c) u.0 w;
      right = union_right (held_by b) (held_by c) u.0 i.long t w;
    }

-- if one grouping is accepted so is the other
pub grouped_either : (a b c : Kept) → LeftFirst a b c ↔ RightFirst a b c
grouped_either a b c = (λ f. three_right a b c (left_three a b c f), λ f. three_left a b c (right_three a b c f))

-- and the same comes out
pub grouped : (a b c : Kept) → LeftFirst a b c → join_records (join_records a b).kept c ≡ join_records a (join_records b c).kept
grouped a b c f =
    let t = left_three a b c f in
    let p = ap kept_of (left_once a b c t) in
    let q = ap kept_of (right_once a b c t) in
    ap (λ (k : Kept). join_records k c) p ∙ left_twice a b c t ∙ ap joins (all_same a b c t) ∙ sym (right_twice a b c t)
    ∙ ap (λ (k : Kept). join_records a k) (sym q)
