-- Two records that can be joined are joined exactly if some sending explains both; a refusal names the lowest packet number of the
-- right that alone contradicts the left, or 65,536 where only its closing does, and changes nothing. Assumes nothing.
use Prim.Native.Nat.{ℕ, ◌≤◌, ◌<◌}
use mathlib.Core.Path.{◌≡◌, refl, sym, ap, ◌∙◌}
use mathlib.Core.Logic.{◌⊎◌, inl, inr, ⊎_elim, ◌↔◌}
use mathlib.Core.Bool.{Bool, true, false, ◌||◌}
use native.Mathlib.Omega.{arith}
use lib.Dec.{ltb}
use lib.ListN.{length}
use borrow.Author.Tests.{ltb-true, ltb-false, le-ltb}
use Rattle.fields.specs.Choice.{◌when◌otherwise◌}
use Rattle.fields.proofs.Choosing.{whichever}
use Rattle.reception.specs.Sendings.{Held, Explained}
use Rattle.reception.specs.Hearing.{Kept, held_by, damaged_kept}
use Rattle.reception.specs.Joining.{joined_kept, own_closing_off, lowest, JoinOutcome, contradicts, joins, capacities_off, other_record, closing_named, join_records}
use Rattle.reception.proofs.Decided.{Sized}
use Rattle.reception.proofs.StaysUndamaged.{sized}
use Rattle.reception.proofs.WhatHearingAdds.{Sound, sound_lists}
use Rattle.reception.proofs.HearingUndamaged.{sound_undamaged}
use Rattle.reception.proofs.ExplainedTogether.{Together, each_together}
use Rattle.reception.proofs.JoinJudged.{Joinable, judged, joinable_judged, done_joinable, contradicted_joinable, LowestIs, lowest_of, PacketAlone, ClosingAlone, off_alone, on_goes, on_not_alone, closing_off_alone, closing_goes, together_none, together_closing}
use Rattle.std.specs.Prelude.{Ok, Err}
use Rattle.reception.specs.declared.NotJoined.TheVariants.{Contradicts}

-- what a sound record holds, some sending explains, and it is within the limits of the walk
pub sound_sized : (k : Kept) → Sound k → Sized (held_by k)
sound_sized k s = sized k.head.stamp (held_by k) (sound_lists k s).room (sound_undamaged k s)

pub sound_explained : (k : Kept) → Sound k → Explained (held_by k)
sound_explained k s = (sound_undamaged k s).explained

-- an accepted join passed both tests
done_passed : (a b : Kept) → (judged a b).answer ≡ Ok tt → (length a.marks ≤ lowest (held_by a) (held_by b)) × (own_closing_off (held_by a) (held_by b) ≡ false)
done_passed a b = go (ltb (lowest (held_by a) (held_by b)) (length a.marks)) refl (own_closing_off (held_by a) (held_by b)) refl
  where
    go : (t : Bool) → ltb (lowest (held_by a) (held_by b)) (length a.marks) ≡ t → (u : Bool) → own_closing_off (held_by a) (held_by b) ≡ u
        → (contradicts a (lowest (held_by a) (held_by b)) when t otherwise contradicts a closing_named when u otherwise joins (joined_kept a b)).answer ≡ Ok tt
        → (length a.marks ≤ lowest (held_by a) (held_by b)) × (own_closing_off (held_by a) (held_by b) ≡ false)
    go true p u q e = absurd (let z : ◌≡◌ {A = ℕ} 0 1 = cc in omega arith)
    go false p true q e = absurd (let z : ◌≡◌ {A = ℕ} 0 1 = cc in omega arith)
    go false p false q e = (ltb-false _ _ p, q)

module _ (a b : Kept) (j : Joinable a b) where
  passed_together : (judged a b).answer ≡ Ok tt → Together (held_by a) (held_by b)
  passed_together e =
      let p = done_passed a b e in
      let za = sound_sized a j.left in
      let zb = sound_sized b j.right in
      let x = sound_explained a j.left in
      let l = lowest_of (held_by a) (held_by b) in
      each_together (held_by a) (held_by b) j.long za zb x (sound_explained b j.right)
      (record {
        packets = λ k h.
            on_goes (held_by a) (held_by b) za zb x j.long k (l.lower k (omega arith) (omega (arith, h.below, p.0, j.long))) h;
        closing = closing_goes (held_by a) (held_by b) za zb x j.long p.1;
      })

  -- where one sending explains both, the join is accepted
  pub together_joins : Together (held_by a) (held_by b) → join_records a b ≡ joins (joined_kept a b)
  together_joins t =
      let za = sound_sized a j.left in
      let zb = sound_sized b j.right in
      let x = sound_explained a j.left in
      let l = together_none (held_by a) (held_by b) za zb x j.long t in
      let c = together_closing (held_by a) (held_by b) za zb x j.long t in
      joinable_judged a b j ∙ simp (le-ltb (lowest (held_by a) (held_by b)) (length a.marks) (omega (arith, l)), c)

  -- and where the join is accepted, one sending explains both
  pub done_together : (join_records a b).answer ≡ Ok tt → Together (held_by a) (held_by b)
  done_together e = passed_together (rw (joinable_judged a b j) at e)

  pub refused_exactly : (join_records a b).answer ≡ Ok tt ↔ Together (held_by a) (held_by b)
  refused_exactly = (done_together, λ t. ap (λ (o : JoinOutcome). o.answer) (together_joins t))

-- the same of any two records
pub accepted_exactly : (a b : Kept) → (join_records a b).answer ≡ Ok tt ↔ (Joinable a b × Together (held_by a) (held_by b))
accepted_exactly a b = (
  λ e. let j = done_joinable a b e in (j, done_together a b j e),
  λ p. (refused_exactly a b p.0).1 p.1,
)

-- what an accepted join leaves
pub done_joins : (a b : Kept) → (join_records a b).answer ≡ Ok tt → join_records a b ≡ joins (joined_kept a b)
done_joins a b e = let j = done_joinable a b e in together_joins a b j (done_together a b j e)

-- n is the lowest packet number of the right that alone contradicts the left
pub record NamesPacket (a b : Held) (n : ℕ) : Type 0 where
  pub below : n < a.capacity
  pub alone : PacketAlone a b n
  pub lower : (k : ℕ) → k < n → PacketAlone a b k → ⊥

-- or n is 65,536: no packet does, and the closing does
pub record NamesClosing (a b : Held) (n : ℕ) : Type 0 where
  pub named : n ≡ 65536
  pub packets : (k : ℕ) → PacketAlone a b k → ⊥
  pub alone : ClosingAlone a b

module _ (a b : Kept) (n : ℕ) (j : Joinable a b) where
  names : (judged a b).answer ≡ Err (Contradicts n) → NamesPacket (held_by a) (held_by b) n ⊎ NamesClosing (held_by a) (held_by b) n
  names = go (ltb (lowest (held_by a) (held_by b)) (length a.marks)) refl (own_closing_off (held_by a) (held_by b)) refl
    where
      l : LowestIs (held_by a) (held_by b) 0 (length a.marks) (lowest (held_by a) (held_by b))
      l = lowest_of (held_by a) (held_by b)

      not_alone : (k : ℕ) → k < lowest (held_by a) (held_by b) → PacketAlone (held_by a) (held_by b) k → ⊥
      not_alone k lt = on_not_alone (held_by a) (held_by b) (sound_sized a j.left) (sound_sized b j.right) (sound_explained a j.left) j.long k (l.lower k (omega arith) lt)

      go : (t : Bool) → ltb (lowest (held_by a) (held_by b)) (length a.marks) ≡ t → (u : Bool) → own_closing_off (held_by a) (held_by b) ≡ u
          → (contradicts a (lowest (held_by a) (held_by b)) when t otherwise contradicts a closing_named when u otherwise joins (joined_kept a b)).answer ≡ Err (Contradicts n)
          → NamesPacket (held_by a) (held_by b) n ⊎ NamesClosing (held_by a) (held_by b) n
      go true p u q e =
          let same : lowest (held_by a) (held_by b) ≡ n = cc in
          let lt = ltb-true _ _ p in
          inl
          (rw (← same)
          (record {
            below = lt;
            alone = off_alone (held_by a) (held_by b) (sound_sized a j.left) (sound_sized b j.right) (sound_explained a j.left) j.long _ lt (l.off lt);
            lower = not_alone;
          }))
      go false p true q e =
          let same : closing_named ≡ n = cc in
          let all = ltb-false (lowest (held_by a) (held_by b)) (length a.marks) p in
          inr
          (record {
            named = sym same;
            packets = λ k w. not_alone k (omega (arith, w.heard.below, j.long, all)) w;
            alone = closing_off_alone (held_by a) (held_by b) (sound_sized a j.left) (sound_sized b j.right) (sound_explained a j.left) j.long q;
          })
      go false p false q e = absurd (let z : ◌≡◌ {A = ℕ} 0 1 = cc in omega arith)

-- refusal 11 names what document 01 says
pub names_lowest : (a b : Kept) (n : ℕ) → (join_records a b).answer ≡ Err (Contradicts n)
    → NamesPacket (held_by a) (held_by b) n ⊎ NamesClosing (held_by a) (held_by b) n
names_lowest a b n e =
    let j = contradicted_joinable a b n e in
    names a b n j (rw (joinable_judged a b j) at e)

-- a number below capacity names a packet, and 65,536 the closing: a capacity is at most 65,535
pub names_packet : (a b : Kept) (n : ℕ) → (join_records a b).answer ≡ Err (Contradicts n) → n < length a.marks → NamesPacket (held_by a) (held_by b) n
names_packet a b n e lt =
    let m = sound_lists a (contradicted_joinable a b n e).left in
    ⊎_elim (λ p. p) (λ p. let no : ⊥ = omega (arith, p.named, lt, m.room) in absurd no) (names_lowest a b n e)

pub names_closing : (a b : Kept) → (join_records a b).answer ≡ Err (Contradicts 65536) → NamesClosing (held_by a) (held_by b) 65536
names_closing a b e =
    let m = sound_lists a (contradicted_joinable a b 65536 e).left in
    ⊎_elim (λ p. let no : ⊥ = omega (arith, p.below, m.room) in absurd no) (λ p. p) (names_lowest a b 65536 e)

-- records that can be joined and that no sending explains together are refused with 11
pub apart_contradicts : (a b : Kept) → Joinable a b → (Together (held_by a) (held_by b) → ⊥) → (n : ℕ) × ((join_records a b).answer ≡ Err (Contradicts n))
apart_contradicts a b j f = go (ltb (lowest (held_by a) (held_by b)) (length a.marks)) refl (own_closing_off (held_by a) (held_by b)) refl
  where
    same : join_records a b ≡ judged a b
    same = joinable_judged a b j

    go : (t : Bool) → ltb (lowest (held_by a) (held_by b)) (length a.marks) ≡ t → (u : Bool) → own_closing_off (held_by a) (held_by b) ≡ u
        → (n : ℕ) × ((join_records a b).answer ≡ Err (Contradicts n))
    go true p u q = (lowest (held_by a) (held_by b), rw same (simp p))
    go false p true q = (closing_named, rw same (simp (p, q)))
    go false p false q = absurd (f (done_together a b j (rw same (simp (p, q)))))

-- a join that is not accepted changes nothing of the left record
abbrev LeftUnlessDone : Kept → JoinOutcome → Type 0
LeftUnlessDone k o = (o.answer ≡ Ok tt → ⊥) → o.kept ≡ k

pub join_refusal_changes_nothing : (a b : Kept) → ((join_records a b).answer ≡ Ok tt → ⊥) → (join_records a b).kept ≡ a
unfolding join_records
join_refusal_changes_nothing a b =
    whichever (LeftUnlessDone a) _ _ (capacities_off a b) (λ _. refl)
    (λ _.
    whichever (LeftUnlessDone a) _ _ (damaged_kept a || damaged_kept b) (λ _. refl)
    (λ _.
    whichever (LeftUnlessDone a) _ _ (other_record a b) (λ _. refl)
    (λ _.
    whichever (LeftUnlessDone a) _ _ (ltb (lowest (held_by a) (held_by b)) (length a.marks)) (λ _. refl)
    (λ _. whichever (LeftUnlessDone a) _ _ (own_closing_off (held_by a) (held_by b)) (λ _. refl) (λ _ f. absurd (f refl))))))
