-- Two records before they are joined: what is known of them once the tests before are passed, and what each test answers. Assumes nothing.
use Prim.Native.Nat.{ℕ, ◌≤◌, ◌<◌}
use mathlib.Core.Path.{◌≡◌, refl, sym, ◌∙◌}
use mathlib.Core.Bool.{true, false, not}
use lib.Dec.{eqb}
use lib.ListN.{length}
use borrow.Author.Tests.{eqb-true, not-false, lt-ltb, le-ltb}
use Rattle.fields.proofs.Tests.{or_false}
use Rattle.reception.specs.Hearing.{Kept, held_by, unmatched, damaged_kept}
use Rattle.reception.specs.Joining.{joined_kept, own_closing_off, lowest, refuses_join, contradicts, joins, capacities_off, other_record, closing_named, join_records}
use Rattle.reception.proofs.KeptAsHeld.{MatchedKept, lists_matched}
use Rattle.reception.proofs.JoinJudged.{Joinable, joinable_judged}
use Rattle.joining.specs.Beside.{LowestFound}
use Rattle.units.specs.declared.refusals.Refusal.TheVariants.{CapacitiesDiffer, OtherSequence, RecordDamaged}

module _ (a b : Kept) where
  -- refusal 14
  pub join_unmatched : capacities_off a b ≡ true → join_records a b ≡ refuses_join a CapacitiesDiffer
  unfolding join_records
  join_unmatched o = rw o refl

  module _ (o : capacities_off a b ≡ false) where
    lists_off : (unmatched a ≡ false) × (unmatched b ≡ false) × (length a.marks ≡ length b.marks)
    lists_off =
        let p = or_false (unmatched a) _ o in
        let q = or_false (unmatched b) (not (eqb (length a.marks) (length b.marks))) p.1 in
        (p.0, q.0, eqb-true _ _ (not-false _ q.1))

    pub left_matched : MatchedKept a
    left_matched = lists_matched _ _ _ lists_off.0

    pub right_matched : MatchedKept b
    right_matched = lists_matched _ _ _ lists_off.1

    pub same_long : length a.marks ≡ length b.marks
    same_long = lists_off.2

    -- refusal 13, of the left and of the right
    pub left_damaged : damaged_kept a ≡ true → join_records a b ≡ refuses_join a RecordDamaged
    unfolding join_records
    left_damaged d = rw (o, d) refl

    module _ (d : damaged_kept a ≡ false) where
      pub right_damaged : damaged_kept b ≡ true → join_records a b ≡ refuses_join a RecordDamaged
      unfolding join_records
      right_damaged f = rw (o, d, f) refl

      module _ (f : damaged_kept b ≡ false) where
        -- refusal 9
        pub join_other : other_record a b ≡ true → join_records a b ≡ refuses_join a OtherSequence
        unfolding join_records
        join_other k = rw (o, d, f, k) refl

        -- none of them
        pub joinable : other_record a b ≡ false → Joinable a b
        joinable k =
            record {
              left = record { matched = lists_off.0; undamaged = d };
              right = record { matched = lists_off.1; undamaged = f };
              own = k;
              long = same_long;
            }

-- refusal 11, by what the search found
module _ (a b : Kept) (j : Joinable a b) (k : ℕ)
    (s : LowestFound a.head a.marks a.elapsed a.sizes b.marks b.elapsed b.sizes k) where
  is_lowest : lowest (held_by a) (held_by b) ≡ k
  is_lowest = sym (s.number_is b.head)

  pub names_packet : k < length a.marks → join_records a b ≡ contradicts a k
  names_packet lt = joinable_judged a b j ∙ simp (is_lowest, lt-ltb k (length a.marks) lt)

  module _ (le : length a.marks ≤ k) where
    pub names_closing : own_closing_off (held_by a) (held_by b) ≡ true → join_records a b ≡ contradicts a closing_named
    names_closing t = joinable_judged a b j ∙ simp (is_lowest, le-ltb k (length a.marks) le, t)

    pub joins_both : own_closing_off (held_by a) (held_by b) ≡ false → join_records a b ≡ joins (joined_kept a b)
    joins_both t = joinable_judged a b j ∙ simp (is_lowest, le-ltb k (length a.marks) le, t)
