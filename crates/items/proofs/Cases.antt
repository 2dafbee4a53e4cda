-- The items one by one: how the octets stand for each answer. Assumes nothing.
use Prim.Native.Nat.{ℕ, ◌+◌, ◌≤◌, ◌<◌}
use mathlib.Core.Path.{◌≡◌}
use mathlib.Core.Bool.{not}
use mathlib.Core.List.{List}
use borrow.Author.Tests.{ltb-true, ltb-false, eqb-true, eqb-false, lt-ltb, le-ltb, ne_eqb, not-true, not-false}
use lib.Dec.{ltb, eqb}
use lib.ListN.{length}
use native.Mathlib.Omega.{arith}
use Rattle.fields.proofs.Choosing.{tested}
use Rattle.units.specs.Limits.{last_stamp}
use Rattle.fields.specs.Numbers.{le}
use Rattle.std.specs.Prelude.{Ok, Err}
use Rattle.items.specs.declared.Item.TheVariants.{Begins, Frame}
use Rattle.items.specs.declared.NoItem.TheVariants.{Wrong, Cut}
use Rattle.items.specs.Items.{Found, body_length, kind, key_of, most_body, beginning, framed, item_of}

-- what the octets s are when the item in front of them is so
pub data Reads (s : List ℕ) : Found → Type 0 where
  no_head_fact : length s < 4 → Reads s (Err Cut)
  other_kind : 4 ≤ length s → (kind s ≡ 1 → ⊥) → (kind s ≡ 2 → ⊥) → Reads s (Err Wrong)
  other_length : 4 ≤ length s → kind s ≡ 1 → (body_length s ≡ 10 → ⊥) → Reads s (Err Wrong)
  key_cut : 4 ≤ length s → kind s ≡ 1 → body_length s ≡ 10 → length s < 14 → Reads s (Err Cut)
  late_stamp : kind s ≡ 1 → body_length s ≡ 10 → 14 ≤ length s → last_stamp < le 2 s 12 → Reads s (Err Wrong)
  key : kind s ≡ 1 → body_length s ≡ 10 → 14 ≤ length s → le 2 s 12 ≤ last_stamp → Reads s (Ok (Begins (key_of s)))
  too_long : 4 ≤ length s → kind s ≡ 2 → most_body < body_length s → Reads s (Err Wrong)
  frame_cut : 4 ≤ length s → kind s ≡ 2 → body_length s ≤ most_body → length s < 4 + body_length s → Reads s (Err Cut)
  frame : kind s ≡ 2 → body_length s ≤ most_body → 4 + body_length s ≤ length s → Reads s (Ok (Frame (body_length s)))

reads_key : (s : List ℕ) → 4 ≤ length s → kind s ≡ 1 → Reads s (beginning s)
unfolding beginning
reads_key s h k =
    tested (Reads s) _ _ (not (eqb (body_length s) 10)) (λ t. other_length h k (eqb-false (body_length s) 10 (not-true _ t)))
    (λ t.
    let b : body_length s ≡ 10 = eqb-true (body_length s) 10 (not-false _ t) in
    tested (Reads s) _ _ (ltb (length s) 14) (λ u. key_cut h k b (ltb-true (length s) 14 u))
    (λ u.
    let l : 14 ≤ length s = ltb-false (length s) 14 u in
    tested (Reads s) _ _ (ltb last_stamp (le 2 s 12)) (λ v. late_stamp k b l (ltb-true last_stamp (le 2 s 12) v))
    (λ v. key k b l (ltb-false last_stamp (le 2 s 12) v))))

reads_frame : (s : List ℕ) → 4 ≤ length s → kind s ≡ 2 → Reads s (framed s)
unfolding framed
reads_frame s h k =
    tested (Reads s) _ _ (ltb most_body (body_length s)) (λ t. too_long h k (ltb-true most_body (body_length s) t))
    (λ t.
    let b : body_length s ≤ most_body = ltb-false most_body (body_length s) t in
    tested (Reads s) _ _ (ltb (length s) (4 + body_length s)) (λ u. frame_cut h k b (ltb-true (length s) (4 + body_length s) u))
    (λ u. frame k b (ltb-false (length s) (4 + body_length s) u)))

-- every row of octets is one of these
pub reads : (s : List ℕ) → Reads s (item_of s)
unfolding item_of
reads s =
    tested (Reads s) _ _ (ltb (length s) 4) (λ t. no_head_fact (ltb-true (length s) 4 t))
    (λ t.
    let h : 4 ≤ length s = ltb-false (length s) 4 t in
    tested (Reads s) _ _ (eqb (kind s) 1) (λ u. reads_key s h (eqb-true (kind s) 1 u))
    (λ u.
    tested (Reads s) _ _ (eqb (kind s) 2) (λ v. reads_frame s h (eqb-true (kind s) 2 v))
    (λ v. other_kind h (eqb-false (kind s) 1 u) (eqb-false (kind s) 2 v))))

-- and only one
pub read_as : {s : List ℕ} {i : Found} → Reads s i → i ≡ item_of s
unfolding item_of beginning framed
read_as {s} (no_head_fact h) = simp (lt-ltb (length s) 4 h)
read_as {s} (other_kind h a b) = simp (le-ltb (length s) 4 h, ne_eqb (kind s) 1 a, ne_eqb (kind s) 2 b)
read_as {s} (other_length h k b) = simp (le-ltb (length s) 4 h, k, ne_eqb (body_length s) 10 b)
read_as {s} (key_cut h k b l) = simp (le-ltb (length s) 4 h, k, b, lt-ltb (length s) 14 l)
read_as {s} (late_stamp k b l t) = simp (le-ltb (length s) 4 (omega arith), k, b, le-ltb (length s) 14 l, lt-ltb last_stamp (le 2 s 12) t)
read_as {s} (key k b l t) = simp (le-ltb (length s) 4 (omega arith), k, b, le-ltb (length s) 14 l, le-ltb last_stamp (le 2 s 12) t)
read_as {s} (too_long h k b) = simp (le-ltb (length s) 4 h, k, lt-ltb most_body (body_length s) b)
read_as {s} (frame_cut h k b l) = simp (le-ltb (length s) 4 h, k, le-ltb most_body (body_length s) b, lt-ltb (length s) (4 + body_length s) l)
read_as {s} (frame k b l) =
    simp (le-ltb (length s) 4 (omega arith), k, le-ltb most_body (body_length s) b, le-ltb (length s) (4 + body_length s) l)

-- the numbers of a key, as they were read
pub key_as : {s : List ℕ} {b p t : ℕ} → b ≡ le 4 s 4 → p ≡ le 4 s 8 → t ≡ le 2 s 12 → Reads s (Ok (Begins (key_of s)))
    → Ok (Begins (record { bearer = b; period = p; stamp = t })) ≡ item_of s
unfolding key_of
key_as eb ep et r = rw (eb, ep, et) (read_as r)

-- the length of a frame, as it was read
pub frame_as : {s : List ℕ} {n : ℕ} → n ≡ body_length s → Reads s (Ok (Frame (body_length s))) → Ok (Frame n) ≡ item_of s
frame_as e r = rw e (read_as r)
