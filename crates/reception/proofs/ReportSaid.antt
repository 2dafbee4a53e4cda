-- Which records are reported on, and what an accepted report says of every sending that explains the record. Assumes nothing.
use Prim.Native.Nat.{ℕ, ◌≤◌, ◌<◌}
use mathlib.Core.Path.{◌≡◌, refl, sym, ap, subst}
use mathlib.Core.Bool.{Bool, true, false}
use mathlib.Core.List.{List}
use native.Mathlib.Omega.{arith}
use lib.Dec.{ltb}
use lib.ListN.{length, take}
use borrow.Author.Tests.{lt-ltb, le-ltb, ltb-false}
use Rattle.fields.specs.Choice.{◌when◌otherwise◌}
use Rattle.fields.proofs.Choosing.{past}
use Rattle.reception.specs.declared.Report.{Report}
use Rattle.reception.specs.Answers.{Reported}
use Rattle.reception.specs.Sendings.{Held, Explains}
use Rattle.reception.specs.Hearing.{Kept, held_by, unmatched, damaged_kept}
use Rattle.reception.specs.Reporting.{gaps_of, sent_packets, report_of, report_record}
use Rattle.reception.specs.Missing.{Accounts, Says, AddsUp, GapsRight}
use Rattle.reception.proofs.WhatHearingAdds.{Sound}
use Rattle.reception.proofs.HearingUndamaged.{sound_undamaged}
use Rattle.reception.proofs.ReportAccounts.{closed_accounts, open_accounts, adds_up, gaps_right}
use Rattle.std.specs.Prelude.{Ok, Err}
use Rattle.units.specs.declared.refusals.Refusal.TheVariants.{CapacitiesDiffer, NoRoom, RecordDamaged}
use Rattle.units.specs.declared.refusals.Refusal.{Refusal}

-- the tests in their order
module _ (k : Kept) (room : ℕ) where
  pub report_unmatched : unmatched k ≡ true → report_record k room ≡ Err CapacitiesDiffer
  unfolding report_record
  report_unmatched m = rw m refl

  pub report_damaged : unmatched k ≡ false → damaged_kept k ≡ true → report_record k room ≡ Err RecordDamaged
  unfolding report_record
  report_damaged m d = rw (m, d) refl

  pub report_no_room : Sound k → room < length (gaps_of (held_by k)) → report_record k room ≡ Err NoRoom
  unfolding report_record
  report_no_room s h = rw (s.matched, s.undamaged, lt-ltb room (length (gaps_of (held_by k))) h) refl

  -- a sound record with room for its gaps is reported on
  pub report_done : Sound k → length (gaps_of (held_by k)) ≤ room → report_record k room ≡ Ok (report_of (held_by k))
  unfolding report_record
  report_done s h = rw (s.matched, s.undamaged, le-ltb room (length (gaps_of (held_by k))) h) refl

-- an accepted report passed the first test of a chain
passed : (n : Refusal) (b : Bool) (o : Reported) (t : Report) → (Err n when b otherwise o) ≡ Ok t → (b ≡ false) × (o ≡ Ok t)
passed n b o t e = past (Err n) o (Ok t) b (λ q. let z : ◌≡◌ {A = ℕ} 0 1 = cc in omega (arith, z)) e

-- an accepted report is that of a sound record, and there was room for its gaps
pub record Given (k : Kept) (room : ℕ) (t : Report) : Type 0 where
  pub sound : Sound k
  pub fits : length (gaps_of (held_by k)) ≤ room
  pub report_is : t ≡ report_of (held_by k)

pub report_given : (k : Kept) (room : ℕ) (t : Report) → report_record k room ≡ Ok t → Given k room t
unfolding report_record
report_given k room t e =
    let p1 = passed CapacitiesDiffer (unmatched k) _ t e in
    let p2 = passed RecordDamaged (damaged_kept k) _ t p1.1 in
    let p3 = passed NoRoom (ltb room (length (gaps_of (held_by k)))) (Ok (report_of (held_by k))) t p2.1 in
    let same : report_of (held_by k) ≡ t = cc p3.1 in
    record { sound = record { matched = p1.0; undamaged = p2.0 }; fits = ltb-false _ _ p3.0; report_is = sym same }

said : (r : Held) (t : Report) (s : List ℕ) → t ≡ report_of r → Accounts r s → Says t r s
said r t s e a = subst (λ (x : Report). Says x r s) (sym e) says
  where
    says : Says (report_of r) r s
    says =
        record {
          sent = a.sent;
          sent_octets_fact = a.sent_octets_fact;
          heard = a.heard;
          heard_octets_fact = a.heard_octets_fact;
          missing = a.missing;
          missing_octets_fact = a.missing_octets_fact;
          gaps = refl;
        }

module _ (k : Kept) (room : ℕ) (t : Report) (e : report_record k room ≡ Ok t) where
  -- of a closed record, for every sending that explains it
  pub closed_said : (s : List ℕ) → k.head.closed ≡ true → Explains (held_by k) s → Says t (held_by k) s
  closed_said s c x =
      let g = report_given k room t e in
      said (held_by k) t s g.report_is (closed_accounts _ (held_by k) s (sound_undamaged k g.sound) c x)

  -- of an open one, for every such sending as far as what the report says was sent
  pub open_said : (s : List ℕ) → k.head.closed ≡ false → Explains (held_by k) s → Says t (held_by k) (take t.sent.0 s)
  open_said s o x =
      let g = report_given k room t e in
      let n : t.sent.0 ≡ sent_packets (held_by k) = ap (λ (w : Report). w.sent.0) g.report_is in
      subst (λ (m : ℕ). Says t (held_by k) (take m s)) (sym n) (said (held_by k) t _ g.report_is (open_accounts (held_by k) s o x))

  -- what it says adds up, and its gaps are right
  pub said_adds_up : AddsUp (held_by k)
  said_adds_up = adds_up _ (held_by k) (sound_undamaged k (report_given k room t e).sound)

  pub said_gaps : GapsRight (held_by k)
  said_gaps = gaps_right _ (held_by k) (sound_undamaged k (report_given k room t e).sound)
