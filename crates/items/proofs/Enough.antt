-- What callers go by: an item that was read is all there, more input does not change it, and a cut one is short. Assumes nothing.
use Prim.Native.Nat.{ℕ, ◌+◌, ◌^◌, ◌≤◌, ◌<◌}
use native.Mathlib.Omega.{arith}
use mathlib.Core.Path.{◌≡◌, refl, sym, subst}
use mathlib.Core.List.{List, ◌++◌}
use lib.ListN.{length, get_or, length-append}
use Rattle.units.specs.Limits.{last_stamp}
use Rattle.fields.specs.Numbers.{le}
use Rattle.fields.proofs.LittleEndian.{le_append, le_below}
use Rattle.items.specs.declared.Key.{Key}
use Rattle.std.specs.Prelude.{Ok, Err}
use Rattle.items.specs.declared.Item.TheVariants.{Begins, Frame}
use Rattle.items.specs.declared.NoItem.TheVariants.{Wrong, Cut}
use Rattle.items.specs.Items.{Found, body_length, kind, key_of, most_body, longest_item, item_of, size_of}
use Rattle.items.proofs.Cases.{Reads, no_head_fact, other_kind, other_length, key_cut, late_stamp, key, too_long, frame_cut, frame, reads, read_as}

-- numbers of 32 bits, where the octets are octets
abbrev Wide : List ℕ → Key → Type 0
Wide s k = ((i : ℕ) → get_or s i 0 < 256) → (k.bearer < 2 ^ 32) × (k.period < 2 ^ 32)

-- what holds of the octets in front of which an item was read
abbrev Held : List ℕ → Found → Type 0
Held s (Ok (Begins k)) = (14 ≤ length s) × (k.stamp ≤ last_stamp) × Wide s k
Held s (Ok (Frame n)) = (n ≤ most_body) × (4 + n ≤ length s)
Held s (Err Wrong) = Unit {0}
Held s (Err Cut) = length s < longest_item

held : {s : List ℕ} {i : Found} → Reads s i → Held s i
unfolding key_of
held (no_head_fact h) = omega arith
held (other_kind h a b) = tt
held (other_length h k b) = tt
held (key_cut h k b l) = omega arith
held (late_stamp k b l t) = tt
held {s} (key k b l t) = (l, t, λ (o : (i : ℕ) → get_or s i 0 < 256). (le_below s o 4 4, le_below s o 4 8))
held (too_long h k b) = tt
held (frame_cut h k b l) = omega arith
held (frame k b l) = (b, l)

held_as : (s : List ℕ) (i : Found) → item_of s ≡ i → Held s i
held_as s i e = subst (λ (j : Found). Held s j) e (held (reads s))

-- a frame's body is not above the longest, and it is there
pub frame_there : (s : List ℕ) (n : ℕ) → item_of s ≡ Ok (Frame n) → (n ≤ most_body) × (4 + n ≤ length s)
frame_there s n e = held_as s (Ok (Frame n)) e

-- a key is there, with a stamp of the period and numbers of 32 bits
pub key_there : (s : List ℕ) (k : Key) → item_of s ≡ Ok (Begins k)
    → (14 ≤ length s) × (k.stamp ≤ last_stamp) × (((i : ℕ) → get_or s i 0 < 256) → (k.bearer < 2 ^ 32) × (k.period < 2 ^ 32))
key_there s k e = held_as s (Ok (Begins k)) e

-- a cut item is shorter than the longest one
pub cut_short : (s : List ℕ) → item_of s ≡ Err Cut → length s < longest_item
cut_short s e = held_as s (Err Cut) e

-- so a buffer that has room for the longest item never holds a cut one in front of unread input
pub never_cut : (s : List ℕ) → longest_item ≤ length s → item_of s ≡ Err Cut → ⊥
never_cut s h e = let l = cut_short s e in omega arith

sized : (s : List ℕ) (i : Found) → Held s i → size_of i ≤ length s
unfolding size_of
sized s (Ok (Begins k)) h = h.0
sized s (Ok (Frame n)) h = h.1
sized s (Err Wrong) h = omega arith
sized s (Err Cut) h = omega arith

-- the octets of an item are there
pub size_there : (s : List ℕ) → size_of (item_of s) ≤ length s
size_there s = sized s (item_of s) (held (reads s))

module _ (s t : List ℕ) where
  at_least : (m : ℕ) → m ≤ length s → m ≤ length (s ++ t)
  at_least m h = simp length-append (omega arith)

  same_kind : 4 ≤ length s → kind (s ++ t) ≡ kind s
  same_kind h = le_append 2 2 s t h

  same_body : 4 ≤ length s → body_length (s ++ t) ≡ body_length s
  same_body h = le_append 2 0 s t (omega arith)

  same_stamp : 14 ≤ length s → le 2 (s ++ t) 12 ≡ le 2 s 12
  same_stamp h = le_append 2 12 s t h

  same_key : 14 ≤ length s → key_of (s ++ t) ≡ key_of s
  unfolding key_of
  same_key h = rw (le_append 4 4 s t (omega arith), le_append 4 8 s t (omega arith), same_stamp h)

  longer : {i : Found} → Reads s i → (i ≡ Err Cut → ⊥) → Reads (s ++ t) i
  longer (no_head_fact h) n = absurd (n refl)
  longer (other_kind h a b) n = other_kind (at_least 4 h) (rw (same_kind h) a) (rw (same_kind h) b)
  longer (other_length h k b) n = other_length (at_least 4 h) (rw (same_kind h) k) (rw (same_body h) b)
  longer (key_cut h k b l) n = absurd (n refl)
  longer (late_stamp k b l u) n =
      let h : 4 ≤ length s = omega arith in
      late_stamp (rw (same_kind h) k) (rw (same_body h) b) (at_least 14 l) (rw (same_stamp l) u)
  longer (key k b l u) n =
      let h : 4 ≤ length s = omega arith in
      rw (← same_key l) (key (rw (same_kind h) k) (rw (same_body h) b) (at_least 14 l) (rw (same_stamp l) u))
  longer (too_long h k b) n = too_long (at_least 4 h) (rw (same_kind h) k) (rw (same_body h) b)
  longer (frame_cut h k b l) n = absurd (n refl)
  longer (frame k b l) n =
      let h : 4 ≤ length s = omega arith in
      rw (← same_body h) (frame (rw (same_kind h) k) (rw (same_body h) b) (rw (same_body h) (at_least (4 + body_length s) l)))

  -- more input does not change an item that is not cut
  pub enough : (item_of s ≡ Err Cut → ⊥) → item_of (s ++ t) ≡ item_of s
  enough n = sym (read_as (longer (reads s) n))
