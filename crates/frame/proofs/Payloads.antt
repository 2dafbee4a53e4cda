-- What the rule of a Type 1 payload (document 02, request 2) keeps: of an IP packet with at most four octets behind it the packet, and of
-- all else everything. Assumes nothing.
use Prim.Native.Nat.{ℕ, ◌+◌, ◌*◌, ◌≤◌, ◌<◌}
use native.Mathlib.Omega.{arith}
use mathlib.Core.Path.{◌≡◌, refl, sym, ap, ◌∙◌}
use mathlib.Core.Logic.{◌⊎◌, inl, inr, ⊎_elim}
use mathlib.Core.Bool.{true, false, ◌&&◌}
use mathlib.Core.List.{List, ◌++◌}
use lib.ListN.{length, take, length-append, length-drop}
use lib.Seq.{get_or-take, length-take-le, take_all, take_at}
use lib.Dec.{leb, ltb, eqb}
use borrow.Author.Tests.{ltb-true, ltb-false, leb-true, le-leb, lt-leb, eqb-true, eq-eqb, ne_eqb}
use Rattle.fields.specs.Numbers.{be}
use Rattle.fields.proofs.Choosing.{tested}
use Rattle.fields.proofs.ReadAgain.{be_two}
use Rattle.fields.proofs.Tests.{either, both, and_yes, and_false}
use Rattle.frame.specs.Payloads.{version_of, ihl_of, stated_v4, stated_v6, starts_v4, starts_v6, kept_of, payload_kept, AllPayload, IpPacket, Extended}
use Rattle.frame.specs.Payloads.IpPacket.{v4, v6}
use Rattle.frame.specs.Layout.{payload_part, payload_length, payload_of}

-- what a header that stands in front says

pub record SaysV4 (p : List ℕ) : Type 0 where
  pub there : 20 ≤ length p
  pub version : version_of p ≡ 4
  pub header : 5 ≤ ihl_of p
  pub itself : 4 * ihl_of p ≤ stated_v4 p

pub says_v4 : (p : List ℕ) → starts_v4 p ≡ true → SaysV4 p
unfolding starts_v4
says_v4 p t =
    let a = both (leb 20 (length p)) _ t in
    let b = both (eqb (version_of p) 4) _ a.1 in
    let c = both (leb 5 (ihl_of p)) (leb (4 * ihl_of p) (stated_v4 p)) b.1 in
    record {
      there = leb-true 20 (length p) a.0;
      version = eqb-true (version_of p) 4 b.0;
      header = leb-true 5 (ihl_of p) c.0;
      itself = leb-true (4 * ihl_of p) (stated_v4 p) c.1;
    }

pub says_v6 : (p : List ℕ) → starts_v6 p ≡ true → (40 ≤ length p) × (version_of p ≡ 6)
unfolding starts_v6
says_v6 p t =
    let a = both (leb 40 (length p)) (eqb (version_of p) 6) t in
    (leb-true 40 (length p) a.0, eqb-true (version_of p) 6 a.1)

-- and that it stands there
pub v4_starts : (p : List ℕ) → SaysV4 p → starts_v4 p ≡ true
unfolding starts_v4
v4_starts p s =
    and_yes (le-leb 20 (length p) s.there)
    (and_yes (eq-eqb (version_of p) 4 s.version) (and_yes (le-leb 5 (ihl_of p) s.header) (le-leb (4 * ihl_of p) (stated_v4 p) s.itself)))

pub v6_starts : (p : List ℕ) → 40 ≤ length p → version_of p ≡ 6 → starts_v6 p ≡ true
unfolding starts_v6
v6_starts p h e = and_yes (le-leb 40 (length p) h) (eq-eqb (version_of p) 6 e)

-- a row of another version does not start as that
not_v4 : (p : List ℕ) → (version_of p ≡ 4 → ⊥) → starts_v4 p ≡ false
unfolding starts_v4
not_v4 p h = rw (ne_eqb (version_of p) 4 h) (and_false (leb 20 (length p)))

not_v6 : (p : List ℕ) → (version_of p ≡ 6 → ⊥) → starts_v6 p ≡ false
unfolding starts_v6
not_v6 p h = rw (ne_eqb (version_of p) 6 h) (and_false (leb 40 (length p)))

-- the two versions do not meet
four_only : (p : List ℕ) → version_of p ≡ 4 → starts_v6 p ≡ false
four_only p four = not_v6 p (λ six. omega (arith, four, six))

six_only : (p : List ℕ) → version_of p ≡ 6 → starts_v4 p ≡ false
six_only p six = not_v4 p (λ four. omega (arith, four, six))

-- what is kept by a header that stands in front, and without one

pub kept_stated : (l n : ℕ) → n ≤ l → l ≤ n + 4 → kept_of l n ≡ n
kept_stated l n h g = simp (le-leb n l h, le-leb l (n + 4) g)

pub by_v4 : (p : List ℕ) → starts_v4 p ≡ true → payload_kept p ≡ kept_of (length p) (stated_v4 p)
unfolding payload_kept
by_v4 p t = simp t

pub by_v6 : (p : List ℕ) → starts_v6 p ≡ true → payload_kept p ≡ kept_of (length p) (stated_v6 p)
unfolding payload_kept
by_v6 p t = simp (six_only p (says_v6 p t).1, t)

by_none : (p : List ℕ) → starts_v4 p ≡ false → starts_v6 p ≡ false → AllPayload p
unfolding payload_kept
by_none p f g = simp (f, g)

-- where "all of it is payload as before": the header is "incomplete" in either version
pub incomplete_kept : (p : List ℕ) → length p < 20 → AllPayload p
unfolding starts_v4 starts_v6
incomplete_kept p h = by_none p (rw (lt-leb 20 (length p) h)) (rw (lt-leb 40 (length p) (omega arith)))

-- or in IPv6
pub six_incomplete_kept : (p : List ℕ) → version_of p ≡ 6 → length p < 40 → AllPayload p
unfolding starts_v6
six_incomplete_kept p six h = by_none p (six_only p six) (rw (lt-leb 40 (length p) h))

-- "has another version"
pub other_kept : (p : List ℕ) → (version_of p ≡ 4 → ⊥) → (version_of p ≡ 6 → ⊥) → AllPayload p
other_kept p h g = by_none p (not_v4 p h) (not_v6 p g)

-- "or IHL under 5"
pub ihl_kept : (p : List ℕ) → version_of p ≡ 4 → ihl_of p < 5 → AllPayload p
unfolding starts_v4
ihl_kept p four h = by_none p (rw (lt-leb 5 (ihl_of p) h, and_false (eqb (version_of p) 4)) (and_false (leb 20 (length p)))) (four_only p four)

-- "states less than its own header"
pub less_kept : (p : List ℕ) → version_of p ≡ 4 → stated_v4 p < 4 * ihl_of p → AllPayload p
unfolding starts_v4
less_kept p four h =
    by_none p
    (rw (lt-leb (4 * ihl_of p) (stated_v4 p) h, and_false (leb 5 (ihl_of p)), and_false (eqb (version_of p) 4)) (and_false (leb 20 (length p))))
    (four_only p four)

-- "more than is there"
pub more_kept : (l n : ℕ) → l < n → kept_of l n ≡ l
more_kept l n h = simp (lt-leb n l h)

-- "or over 4 octets less"
pub far_kept : (l n : ℕ) → n + 4 < l → kept_of l n ≡ l
far_kept l n h = rw (lt-leb l (n + 4) h, and_false (leb n l))

-- the front of a row has the header of the row

module _ (p : List ℕ) (n : ℕ) (fits : n ≤ length p) where
  v4_front : 20 ≤ n → (starts_v4 (take n p) ≡ starts_v4 p) × (stated_v4 (take n p) ≡ stated_v4 p)
  unfolding starts_v4
  v4_front h =
      let s : be 2 (take n p) 2 ≡ be 2 p 2 =
      be_two (take n p) 2 ∙ rw (get_or-take n p 2 0 (omega arith), get_or-take n p 3 0 (omega arith)) (sym (be_two p 2)) in
      (rw (length-take-le n p fits, get_or-take n p 0 0 (omega arith), s, le-leb 20 n h, le-leb 20 (length p) (omega arith)), s)

  v6_front : 40 ≤ n → (starts_v6 (take n p) ≡ starts_v6 p) × (stated_v6 (take n p) ≡ stated_v6 p)
  unfolding starts_v6
  v6_front h =
      let s : be 2 (take n p) 4 ≡ be 2 p 4 =
      be_two (take n p) 4 ∙ rw (get_or-take n p 4 0 (omega arith), get_or-take n p 5 0 (omega arith)) (sym (be_two p 4)) in
      (rw (length-take-le n p fits, get_or-take n p 0 0 (omega arith), le-leb 40 n h, le-leb 40 (length p) (omega arith)), rw s)

  -- an IP packet of n octets, with at most four behind it
  packet_in_front : IpPacket (take n p) → length p ≤ n + 4 → payload_kept p ≡ n
  packet_in_front (v4 t e) few =
      let l = length-take-le n p fits in
      let says = says_v4 (take n p) t in
      let f = v4_front (omega (arith, l, says.there)) in
      let q : stated_v4 p ≡ n = sym f.1 ∙ e ∙ l in
      by_v4 p (sym f.0 ∙ t) ∙ ap (kept_of (length p)) q ∙ kept_stated (length p) n fits few
  packet_in_front (v6 t e) few =
      let l = length-take-le n p fits in
      let says = says_v6 (take n p) t in
      let f = v6_front (omega (arith, l, says.0)) in
      let q : stated_v6 p ≡ n = sym f.1 ∙ e ∙ l in
      by_v6 p (sym f.0 ∙ t) ∙ ap (kept_of (length p)) q ∙ kept_stated (length p) n fits few

-- an IP packet and at most four octets behind it: "the 0 to 4 octets after it are dropped"
pub dropped : (p x : List ℕ) → IpPacket p → length x ≤ 4 → payload_kept (p ++ x) ≡ length p
dropped p x i few =
    let l = length-append p x in
    packet_in_front (p ++ x) (length p) (omega (arith, l)) (rw (take_at p x (length p) refl) i) (omega (arith, l, few))

-- from an IP packet alone nothing is dropped
pub packet_kept : (p : List ℕ) → IpPacket p → AllPayload p
packet_kept p i = packet_in_front p (length p) (omega arith) (rw (take_all (length p) p (omega arith)) i) (omega arith)

-- and nothing else is ever dropped

-- of l octets that are there, n of them stated, m are kept: all, or the n, which are one to four less
abbrev AllOrStated : ℕ → ℕ → ℕ → Type 0
AllOrStated l n m = (m ≡ l) ⊎ ((m ≡ n) × (n < l) × (l ≤ n + 4))

all_or_stated : (l n : ℕ) → AllOrStated l n (kept_of l n)
all_or_stated l n =
    tested (AllOrStated l n) n l (leb n l && leb l (n + 4))
    (λ t. let b = both (leb n l) (leb l (n + 4)) t in which (either (ltb n l)) (leb-true n l b.0) (leb-true l (n + 4) b.1))
    (λ _. inl refl)
  where
    which : (ltb n l ≡ true) ⊎ (ltb n l ≡ false) → n ≤ l → l ≤ n + 4 → AllOrStated l n n
    which (inl t) h g = inr (refl, ltb-true n l t, g)
    which (inr f) h g = inl (omega (arith, ltb-false n l f, h))

module _ (p : List ℕ) (n : ℕ) where
  behind_v4 : starts_v4 p ≡ true → AllOrStated (length p) (stated_v4 p) n → (n ≡ length p) ⊎ Extended p n
  behind_v4 t (inl e) = inl e
  behind_v4 t (inr r) =
      let says = says_v4 p t in
      let fits : n ≤ length p = omega (arith, r.0, r.1) in
      let f = v4_front p n fits (omega (arith, r.0, says.header, says.itself)) in
      inr (record {
        packet = v4 (f.0 ∙ t) (f.1 ∙ sym r.0 ∙ sym (length-take-le n p fits));
        some = omega (arith, r.0, r.1);
        few = omega (arith, r.0, r.1);
      })

  behind_v6 : starts_v6 p ≡ true → AllOrStated (length p) (stated_v6 p) n → (n ≡ length p) ⊎ Extended p n
  behind_v6 t (inl e) = inl e
  behind_v6 t (inr r) =
      let fits : n ≤ length p = omega (arith, r.0, r.1) in
      let f = v6_front p n fits (omega (arith, r.0)) in
      inr (record {
        packet = v6 (f.0 ∙ t) (f.1 ∙ sym r.0 ∙ sym (length-take-le n p fits));
        some = omega (arith, r.0, r.1);
        few = omega (arith, r.0, r.1);
      })

pub only_dropped : (p : List ℕ) → AllPayload p ⊎ Extended p (payload_kept p)
unfolding payload_kept
only_dropped p =
    tested (λ (m : ℕ). (m ≡ length p) ⊎ Extended p m) _ _ (starts_v4 p)
    (λ t. behind_v4 p _ t (all_or_stated (length p) (stated_v4 p)))
    (λ _.
    tested (λ (m : ℕ). (m ≡ length p) ⊎ Extended p m) _ _ (starts_v6 p)
    (λ t. behind_v6 p _ t (all_or_stated (length p) (stated_v6 p)))
    (λ _. inl refl))

-- and what stands so behind an IP packet always is
pub always_dropped : (p : List ℕ) (n : ℕ) → Extended p n → payload_kept p ≡ n
always_dropped p n x = let l = x.some in packet_in_front p n (omega (arith, l)) x.packet x.few

-- so no more is kept than is there, and at most four octets less

within : (p : List ℕ) → (payload_kept p ≤ length p) × (length p ≤ payload_kept p + 4)
within p =
    ⊎_elim
    (λ (all : AllPayload p). (omega (arith, all), omega (arith, all)))
    (λ (x : Extended p (payload_kept p)). (omega (arith, x.some), x.few))
    (only_dropped p)

pub payload_most : (p : List ℕ) → payload_kept p ≤ length p
payload_most p = (within p).0

pub payload_least : (p : List ℕ) → length p ≤ payload_kept p + 4
payload_least p = (within p).1

-- the payload of a Type 1 frame: within the frame, and as long as is said

pub payload_within : (s : List ℕ) → 11 ≤ length s → (11 + payload_length s ≤ length s) × (length s ≤ 15 + payload_length s)
payload_within s h =
    let l = length-drop 11 s in
    let w = within (payload_part 9 s) in
    (omega (arith, l, w.0, h), omega (arith, l, w.1, h))

pub payload_length_lem : (s : List ℕ) → length (payload_of s) ≡ payload_length s
payload_length_lem s = length-take-le (payload_length s) (payload_part 9 s) (payload_most (payload_part 9 s))
