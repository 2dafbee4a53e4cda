-- How each answer meets the promise of a report. Assumes nothing.
use Prim.Native.Nat.{ℕ, ◌≤◌, ◌<◌, min}
use mathlib.Core.Path.{◌≡◌, refl}
use mathlib.Core.List.{List, map}
use native.Mathlib.Omega.{arith}
use lib.ListN.{length}
use Rattle.fields.specs.Runs.{front}
use Rattle.reception.specs.Answers.{Reported}
use Rattle.reception.specs.Sendings.{Held}
use Rattle.reception.specs.Hearing.{Kept, held_by}
use Rattle.reception.specs.Reporting.{Gap, gaps_of, report_of, report_record, gaps_after, room_of, Reports}
use Rattle.reporting.specs.Writing.{Room}
use Rattle.std.specs.Prelude.{Ok, Err}
use Rattle.units.specs.declared.refusals.Refusal.{Refusal}

module _ (k : Kept) (firsts counts octets : List ℕ) where
  -- a refusal leaves the lists as they were
  pub refused_as : (n : Refusal) {r : Reported} → report_record k (room_of firsts counts octets) ≡ Err n → r ≡ Err n
      → Reports k firsts counts octets r firsts counts octets
  unfolding gaps_after
  refused_as n e q =
      record { says = rw (e, q) refl; leaves_firsts = rw e refl; leaves_counts = rw e refl; leaves_octets = rw e refl }

  -- a report leaves the gaps in front
  pub done_as : {r : Reported} {firsts' counts' octets' : List ℕ} → report_record k (room_of firsts counts octets) ≡ Ok (report_of (held_by k))
      → r ≡ Ok (report_of (held_by k)) → firsts' ≡ front firsts (map (λ (g : Gap). g.first) (gaps_of (held_by k)))
      → counts' ≡ front counts (map (λ (g : Gap). g.count) (gaps_of (held_by k))) → octets' ≡ front octets (map (λ (g : Gap). g.octets) (gaps_of (held_by k)))
      → Reports k firsts counts octets r firsts' counts' octets'
  unfolding gaps_after
  done_as e q f c o = record { says = rw (e, q) refl; leaves_firsts = rw e f; leaves_counts = rw e c; leaves_octets = rw e o }

-- the room, by the lengths of the lists as they are compared
module _ (r : Held) (firsts counts octets : List ℕ) (x y : ℕ) (p : y ≡ min (length counts) (length octets)) (q : x ≡ min (length firsts) y) (g : ℕ)
    (gaps_are : g ≡ length (gaps_of r)) where
  pub too_many : x < g → room_of firsts counts octets < length (gaps_of r)
  too_many h = omega (arith, p, q, gaps_are)

  pub few_enough : g ≤ x → length (gaps_of r) ≤ room_of firsts counts octets
  few_enough h = omega (arith, p, q, gaps_are)

  pub room_for : g ≤ x → Room 0 (gaps_of r) firsts counts octets
  room_for h = record { firsts_fit = omega (arith, p, q, gaps_are); counts_fit = omega (arith, p, q, gaps_are); octets_fit = omega (arith, p, q, gaps_are) }
