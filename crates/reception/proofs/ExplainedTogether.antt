-- One sending explains two explained records exactly if each packet of the right alone, and its closing alone, goes with the left; and
-- what explains both explains their union. Assumes nothing.
use Prim.Native.Nat.{ℕ, suc, ◌+◌, ◌≤◌, ◌<◌}
use mathlib.Core.Path.{◌≡◌, refl, sym, ap, ◌∙◌, subst₂}
use mathlib.Core.Logic.{◌⊎◌, inl, inr, ⊎_elim}
use mathlib.Core.Bool.{Bool, true, false, ◌||◌}
use mathlib.Core.List.{List}
use native.Mathlib.Omega.{arith}
use borrow.Author.Tests.{eqb-true, eq-eqb}
use Rattle.fields.proofs.Choosing.{pick_yes, pick_no}
use Rattle.fields.proofs.Tests.{either}
use Rattle.reception.specs.Sendings.{Held, Heard, Sending, Sent, Whole, Explains, Explained}
use Rattle.reception.specs.Walk.{is_heard}
use Rattle.reception.specs.Joining.{union}
use Rattle.reception.proofs.SumsBefore.{before, before_start, before_next, before_end, climb}
use Rattle.reception.proofs.Points.{Within, Point, start, opens, leaves, end, Pairwise, all_short, on_point, explains_pairs, pairs_walk}
use Rattle.reception.proofs.Decided.{Sized, walk_explained}

-- some sending explains both
abbrev pub Together : Held → Held → Type 0
Together a b = (s : List ℕ) × Explains a s × Explains b s

-- two points are within reach, whichever comes first
record Meet (i x j y : ℕ) : Type 0 where
  up : i ≤ j → Within i x j y
  down : j ≤ i → Within j y i x

-- points of one sending are
on_one : (s : List ℕ) → Sending s → (i x j y : ℕ) → before s i ≡ x → before s j ≡ y → Meet i x j y
on_one s h i x j y p q =
    record {
      up = λ le. let z = climb s (all_short s h) i j le in omega arith;
      down = λ le. let z = climb s (all_short s h) j i le in omega arith;
    }

-- each point of the one with each point of the other
record Cross (a b : Held) : Type 0 where
  meets : (i x j y : ℕ) → Point a i x → Point b j y → Meet i x j y
  end_left : a.closed ≡ true → (j y : ℕ) → Point b j y → j ≤ a.count
  end_right : b.closed ≡ true → (i x : ℕ) → Point a i x → i ≤ b.count

-- either of two tests
pub or_right : (c d : Bool) → c ≡ false → (c || d) ≡ true → d ≡ true
or_right c d t h = rw t at h

pub or_left : (c d : Bool) → c ≡ true → (c || d) ≡ true
or_left c d t = rw t

pub or_second : (c d : Bool) → d ≡ true → (c || d) ≡ true
or_second true d t = refl
or_second false d t = t

pub heard_left : (a : Held) (k : ℕ) → is_heard a k ≡ true → k < a.capacity → Heard a k
heard_left a k t h = record { below = h; marked = eqb-true _ _ t }

pub heard_right : (a b : Held) (k : ℕ) → a.capacity ≡ b.capacity → is_heard a k ≡ false → Heard (union a b) k → Heard b k
heard_right a b k e t h = record { below = omega (arith, h.below); marked = rw t at h.marked }

-- each point of the union is a point of one of the two
union_point : (a b : Held) (i x : ℕ) → a.capacity ≡ b.capacity → Point (union a b) i x → Point a i x ⊎ Point b i x
union_point a b i x e start = inl start
union_point a b i x e (opens k h) =
    ⊎_elim (λ t. inl (rw t (opens k (heard_left a k t h.below)))) (λ t. inr (rw t (opens k (heard_right a b k e t h)))) (either (is_heard a k))
union_point a b i x e (leaves k h) =
    ⊎_elim (λ t. inl (rw t (leaves k (heard_left a k t h.below)))) (λ t. inr (rw t (leaves k (heard_right a b k e t h)))) (either (is_heard a k))
union_point a b i x e (end c) =
    ⊎_elim (λ t. inl (subst₂ (Point a) (sym (pick_yes _ _ _ t)) (sym (pick_yes _ _ _ t)) (end t)))
    (λ t. inr (subst₂ (Point b) (sym (pick_no _ _ _ t)) (sym (pick_no _ _ _ t)) (end (or_right _ _ t c)))) (either a.closed)

-- records whose points are within reach have a union whose points are
cross_pairs : (a b : Held) → a.capacity ≡ b.capacity → Pairwise a → Pairwise b → Cross a b → Pairwise (union a b)
cross_pairs a b e p q c =
    record {
      pairs = λ i x j y u v le.
          ⊎_elim
          (λ l. ⊎_elim (λ m. p.pairs i x j y l m le) (λ m. (c.meets i x j y l m).up le) (union_point a b j y e v))
          (λ l. ⊎_elim (λ m. (c.meets j y i x m l).down le) (λ m. q.pairs i x j y l m le) (union_point a b j y e v))
          (union_point a b i x e u);
      last = λ f i x u.
          ⊎_elim
          (λ t. rw (pick_yes _ a.count b.count t) (⊎_elim (p.last t i x) (c.end_left t i x) (union_point a b i x e u)))
          (λ t.
          let g = or_right _ _ t f in
          rw (pick_no _ a.count b.count t) (⊎_elim (c.end_right g i x) (q.last g i x) (union_point a b i x e u)))
          (either a.closed);
    }

-- what explains the union explains the left
pub union_left : (a b : Held) (s : List ℕ) → Explains (union a b) s → Explains a s
union_left a b s h =
    record {
      sending = h.sending;
      packets = λ k q.
          let t = eq-eqb _ _ q.marked in
          let x = h.packets k (record { below = q.below; marked = pick_yes (is_heard a k) _ _ t ∙ q.marked }) in
          subst₂ (Sent s k) (pick_yes (is_heard a k) _ _ t) (pick_yes (is_heard a k) _ _ t) x;
      closing = λ c. subst₂ (Whole s) (pick_yes _ _ _ c) (pick_yes _ _ _ c) (h.closing (or_left _ _ c));
    }

-- two points of one number have the same octets before them
same_octets : (i x y : ℕ) → Meet i x i y → x ≡ y
same_octets i x y m =
    let u = m.up (omega arith) in
    let d = m.down (omega arith) in
    omega arith

-- and the right, where their points are within reach
module _ (a b : Held) (s : List ℕ) (e : a.capacity ≡ b.capacity) (c : Cross a b) (h : Explains (union a b) s) where
  right_packets : (k : ℕ) → Heard b k → Sent s k (b.elapsed k) (b.size k)
  right_packets k q =
      ⊎_elim
      (λ t.
      let p = heard_left a k t (omega (arith, q.below)) in
      let o = same_octets _ _ _ (c.meets k (a.elapsed k) k (b.elapsed k) (opens k p) (opens k q)) in
      let l =
      same_octets _ _ _ (c.meets (suc k) (a.elapsed k + a.size k) (suc k) (b.elapsed k + b.size k) (leaves k p) (leaves k q))
      in
      let z : a.size k ≡ b.size k = omega (arith, o, l) in
      subst₂ (Sent s k) o z ((union_left a b s h).packets k p))
      (λ t.
      subst₂ (Sent s k) (pick_no (is_heard a k) _ _ t) (pick_no (is_heard a k) _ _ t)
      (h.packets k (record { below = omega (arith, q.below); marked = pick_no (is_heard a k) _ _ t ∙ q.marked })))
      (either (is_heard a k))

  right_closing : b.closed ≡ true → Whole s b.count b.total
  right_closing f =
      ⊎_elim
      (λ t.
      let l = c.end_left t b.count b.total (end f) in
      let r = c.end_right f a.count a.total (end t) in
      let m = c.meets a.count a.total b.count b.total (end t) (end f) in
      let u = m.up r in
      let d = m.down l in
      let n : a.count ≡ b.count = omega arith in
      let o : a.total ≡ b.total = omega arith in
      subst₂ (Whole s) n o ((union_left a b s h).closing t))
      (λ t. subst₂ (Whole s) (pick_no _ _ _ t) (pick_no _ _ _ t) (h.closing (or_second a.closed b.closed f)))
      (either a.closed)

  cross_right : Explains b s
  cross_right = record { sending = h.sending; packets = right_packets; closing = right_closing }

-- what explains both explains their union
pub explains_union : (a b : Held) (s : List ℕ) → a.capacity ≡ b.capacity → Explains a s → Explains b s → Explains (union a b) s
explains_union a b s e p q =
    record {
      sending = p.sending;
      packets = λ k h.
          ⊎_elim (λ t. rw t (p.packets k (heard_left a k t h.below))) (λ t. rw t (q.packets k (heard_right a b k e t h)))
          (either (is_heard a k));
      closing = λ c.
          ⊎_elim (λ t. subst₂ (Whole s) (sym (pick_yes _ _ _ t)) (sym (pick_yes _ _ _ t)) (p.closing t))
          (λ t. subst₂ (Whole s) (sym (pick_no _ _ _ t)) (sym (pick_no _ _ _ t)) (q.closing (or_right _ _ t c)))
          (either a.closed);
    }

together_cross : (a b : Held) → Together a b → Cross a b
together_cross a b t =
    record {
      meets = λ i x j y u v.
          on_one t.0 t.1.sending i x j y (on_point a t.0 i x t.1 u).1 (on_point b t.0 j y t.2 v).1;
      end_left = λ c j y v. omega (arith, (on_point b t.0 j y t.2 v).0, (t.1.closing c).count_is);
      end_right = λ c i x u. omega (arith, (on_point a t.0 i x t.1 u).0, (t.2.closing c).count_is);
    }

-- of records that some sending explains together, whatever explains the union explains the right too
pub union_right : (a b : Held) (s : List ℕ) → a.capacity ≡ b.capacity → Together a b → Explains (union a b) s → Explains b s
union_right a b s e t h = cross_right a b s e (together_cross a b t) h

-- a union is within the limits of the walk
pub union_sized : (a b : Held) → Sized a → Sized b → Sized (union a b)
union_sized a b p q =
    record {
      capacity_fits = p.capacity_fits;
      count_fits = λ c.
          ⊎_elim (λ t. rw (pick_yes _ a.count b.count t) (p.count_fits t))
          (λ t. rw (pick_no _ a.count b.count t) (q.count_fits (or_right _ _ t c)))
          (either a.closed);
    }

-- each packet of the right alone, and its closing alone, goes with the left
pub record EachGoes (a b : Held) : Type 0 where
  pub packets : (k : ℕ) → Heard b k → (s : List ℕ) × Explains a s × Sent s k (b.elapsed k) (b.size k)
  pub closing : b.closed ≡ true → (s : List ℕ) × Explains a s × Whole s b.count b.total

pub together_each : (a b : Held) → Together a b → EachGoes a b
together_each a b t = record { packets = λ k h. (t.0, t.1, t.2.packets k h); closing = λ c. (t.0, t.1, t.2.closing c) }

module _ (a b : Held) (g : EachGoes a b) (x : Explained a) where
  each_meets : (i u j v : ℕ) → Point a i u → Point b j v → Meet i u j v
  each_meets i u j v p start = on_one x.0 x.1.sending i u 0 0 (on_point a x.0 i u x.1 p).1 (before_start x.0)
  each_meets i u j v p (opens k h) =
      let y = g.packets k h in
      on_one y.0 y.1.sending i u k (b.elapsed k) (on_point a y.0 i u y.1 p).1 y.2.before_is
  each_meets i u j v p (leaves k h) =
      let y = g.packets k h in
      on_one y.0 y.1.sending i u (suc k) (b.elapsed k + b.size k) (on_point a y.0 i u y.1 p).1
      (omega (arith, before_next y.0 k, y.2.length_is, y.2.before_is))
  each_meets i u j v p (end c) =
      let y = g.closing c in
      on_one y.0 y.1.sending i u b.count b.total (on_point a y.0 i u y.1 p).1
      (ap (before y.0) (sym y.2.count_is) ∙ before_end y.0 ∙ y.2.total_is)

  each_end : a.closed ≡ true → (j v : ℕ) → Point b j v → j ≤ a.count
  each_end c j v start = omega arith
  each_end c j v (opens k h) = let y = g.packets k h in omega (arith, y.2.within, (y.1.closing c).count_is)
  each_end c j v (leaves k h) = let y = g.packets k h in omega (arith, y.2.within, (y.1.closing c).count_is)
  each_end c j v (end d) = let y = g.closing d in omega (arith, y.2.count_is, (y.1.closing c).count_is)

  each_cross : Cross a b
  each_cross =
      record {
        meets = each_meets;
        end_left = each_end;
        end_right = λ c i u p. let y = g.closing c in omega (arith, y.2.count_is, (on_point a y.0 i u y.1 p).0);
      }

-- if each goes alone, all go together
pub each_together : (a b : Held) → a.capacity ≡ b.capacity → Sized a → Sized b → Explained a → Explained b → EachGoes a b → Together a b
each_together a b e m n x y g =
    let c = each_cross a b g x in
    let p = cross_pairs a b e (explains_pairs a x.0 x.1) (explains_pairs b y.0 y.1) c in
    let u = walk_explained (union a b) (union_sized a b m n) (pairs_walk (union a b) p) in
    (u.0, union_left a b u.0 u.1, cross_right a b u.0 e c u.1)
