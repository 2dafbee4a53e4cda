-- How answers of a report meet the promise of the exported function. Assumes nothing.
use Prim.Native.Nat.{ℕ, ◌≤◌, ◌<◌}
use mathlib.Core.Path.{◌≡◌, refl, sym, ◌∙◌}
use mathlib.Core.Bool.{true, false}
use mathlib.Core.Logic.{⊎_elim}
use mathlib.Core.List.{List}
use lib.Dec.{ltb}
use lib.ListN.{length}
use borrow.Author.Tests.{lt-ltb, le-ltb}
use Rattle.units.specs.declared.refusals.Refusal.{Refusal}
use Rattle.units.specs.Refusals.{number_of, no_room, record_damaged, capacities_differ}
use Rattle.units.specs.declared.refusals.Refusal.TheVariants.{NoRoom}
use Rattle.fields.specs.Choice.{◌when◌otherwise◌}
use Rattle.fields.specs.Runs.{front}
use Rattle.fields.proofs.Tests.{either}
use Rattle.reception.specs.declared.Report.{Report}
use Rattle.reception.specs.Answers.{Reported}
use Rattle.reception.specs.Hearing.{Kept, held_by, unmatched, damaged_kept}
use Rattle.reception.specs.Reporting.{gaps_of, report_record, room_of, Reports}
use Rattle.reception.proofs.OnePaper.{reported_known}
use Rattle.numbers.specs.Answers.{number_told}
use Rattle.numbers_report.specs.Reports.{figures_of, report_number, no_figures, figures_after, Figures}
use Rattle.std.specs.Prelude.{Result, Ok, Err}

-- where no figures can be written, the refusals of the record come first
module _ (k : Kept) where
  pub none_unmatched : unmatched k ≡ true → no_figures k ≡ capacities_differ
  unfolding no_figures
  none_unmatched m = rw m refl

  pub none_damaged : unmatched k ≡ false → damaged_kept k ≡ true → no_figures k ≡ record_damaged
  unfolding no_figures
  none_damaged m d = rw (m, d) refl

  pub none_room : unmatched k ≡ false → damaged_kept k ≡ false → no_figures k ≡ no_room
  unfolding no_figures
  none_room m d = rw (m, d) refl

  whichever_room : (n room : ℕ) → n < 7 → report_number n (report_record k room) ≡ no_figures k
  unfolding report_record
  whichever_room n room h =
      ⊎_elim (λ (m : unmatched k ≡ true). rw m (sym (none_unmatched m)))
      (λ (m : unmatched k ≡ false).
      ⊎_elim (λ (d : damaged_kept k ≡ true). rw (m, d) (sym (none_damaged m d)))
      (λ (d : damaged_kept k ≡ false).
      ⊎_elim (λ (r : ltb room (length (gaps_of (held_by k))) ≡ true). rw (m, d, r) (sym (none_room m d)))
      (λ (r : ltb room (length (gaps_of (held_by k))) ≡ false). rw (m, d, r, lt-ltb n 7 h) (sym (none_room m d)))
      (either (ltb room (length (gaps_of (held_by k))))))
      (either (damaged_kept k)))
      (either (unmatched k))

  figures_kept : (t : Reported) (old : List ℕ) → length old < 7 → figures_after t old ≡ old
  figures_kept (Err x) old h = refl
  figures_kept (Ok r) old h = rw (lt-ltb (length old) 7 h) refl

  -- a list of figures too short
  pub short_figures : (head firsts counts octets figures : List ℕ) (r : ℕ) → 6 ≤ length head → length figures < 7 → r ≡ no_figures k
      → Figures head k firsts counts octets figures r firsts counts octets figures
  short_figures head firsts counts octets figures r h g e =
      let q = le-ltb (length head) 6 h in
      let f = lt-ltb (length figures) 7 g in
      record {
        says = e ∙ rw q (sym (whichever_room (length figures) (room_of firsts counts octets) g));
        leaves_figures = rw q (sym (figures_kept (report_record k (room_of firsts counts octets)) figures g));
        leaves_firsts = rw (q, f) refl;
        leaves_counts = rw (q, f) refl;
        leaves_octets = rw (q, f) refl;
      }

  module _ (head firsts counts octets figures firsts' counts' octets' : List ℕ) (t : Reported) (h : 6 ≤ length head) (g : 7 ≤ length figures)
      (p : Reports k firsts counts octets t firsts' counts' octets') where
    told : (r : ℕ) (figures' : List ℕ) → r ≡ report_number (length figures) t → figures' ≡ figures_after t figures
        → Figures head k firsts counts octets figures r firsts' counts' octets' figures'
    told r figures' e l =
        let q = le-ltb (length head) 6 h in
        let f = le-ltb (length figures) 7 g in
        let same = reported_known t (report_record k (room_of firsts counts octets)) p.says in
        record {
          says = e ∙ rw (q, sym same) refl;
          leaves_figures = l ∙ rw (q, sym same) refl;
          leaves_firsts = p.leaves_firsts ∙ rw (q, f) refl;
          leaves_counts = p.leaves_counts ∙ rw (q, f) refl;
          leaves_octets = p.leaves_octets ∙ rw (q, f) refl;
        }

    pub told_refused : (x : Refusal) → t ≡ Err x → Figures head k firsts counts octets figures (number_of x) firsts' counts' octets' figures
    told_refused x e = told (number_of x) figures (rw e refl) (rw e refl)

    pub told_report : (x : Report) (a : Result Unit Refusal) (n : ℕ) (vs figures' : List ℕ) → t ≡ Ok x → vs ≡ figures_of x
        → a ≡ (Err NoRoom when ltb (length figures) 7 otherwise Ok tt) → n ≡ number_told a → figures' ≡ (figures when ltb (length figures) 7 otherwise front figures vs)
        → Figures head k firsts counts octets figures n firsts' counts' octets' figures'
    told_report x a n vs figures' e v s m l =
        let f = le-ltb (length figures) 7 g in
        told n figures' (m ∙ rw (s, e, f) refl) (l ∙ rw (e, f, v) refl)
