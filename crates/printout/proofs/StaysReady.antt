-- A record that has its places is ready where a sequence was begun; and one that was ready stays so, if all is as it was where none was
-- begun. Assumes nothing.
use Rattle.std.proofs.Common.{◌≡◌, ℕ, false, List, replicate, sym, refl, ap, ◌∙◌, arith}
use Rattle.std.specs.Prelude.{Option, Some, None, IfSome, is_some}
use Rattle.lines.specs.declared.Text.{Text}
use Rattle.reception.specs.Damage.{Matched}
use Rattle.reception.specs.Hearing.{kept_in, damaged_kept, open_head}
use Rattle.reception.specs.Neighbours.{NoneBefore, NoneFrom}
use Rattle.hearing.proofs.EmptyRecord.{empty_undamaged, empty_before, empty_from}
use Rattle.printout.specs.declared.Begun.{Begun}
use Rattle.printout.specs.declared.Going.{Going}
use Rattle.printout.specs.declared.Went.{Went}
use Rattle.printout.specs.Printed.{places, Between, Step}
use Rattle.printout.specs.Stepping.{begun_of, between_in, HeardIn, Placed, Ready, Steps, StepsWith, UnbegunKept}

abbrev Zeros : List ℕ → List ℕ → List ℕ → Type 0
Zeros marks elapsed sizes = (marks ≡ replicate places 0) × (elapsed ≡ replicate places 0) × (sizes ≡ replicate places 0)

module _ (g : Going) (marks elapsed sizes : List ℕ) where
  -- the lists match
  pub placed_lists : Placed g marks elapsed sizes → Matched marks elapsed sizes
  placed_lists y =
      let m = y.marks_long in
      record { room = omega (arith, m); elapseds = y.elapsed_long ∙ sym m; lengths = y.sizes_long ∙ sym m }

  -- one that is ready has its places
  pub ready_placed : Ready g marks elapsed sizes → Placed g marks elapsed sizes
  ready_placed y =
      record {
        marks_long = y.marks_long;
        elapsed_long = y.elapsed_long;
        sizes_long = y.sizes_long;
        heard = go g.begun y.undamaged y.before y.from_end;
      }
    where
      go : (o : Option Begun) → damaged_kept (kept_in (begun_of o).head marks elapsed sizes) ≡ false → NoneBefore marks (begun_of o).span.first
          → NoneFrom marks (begun_of o).span.end → IfSome o (λ b. HeardIn b marks elapsed sizes)
      go (Some b) u p q = record { undamaged = u; before = p; from_end = q }
      go None u p q = tt

  -- zeros are undamaged, and nothing was heard in them, as before the first sequence
  empty_heard : Zeros marks elapsed sizes → HeardIn (begun_of None) marks elapsed sizes
  empty_heard z =
      record {
        undamaged = empty_undamaged 0 0 0 4096 (omega arith) (omega arith) (open_head 0 0 0) marks elapsed sizes refl z.0 z.1 z.2;
        before = empty_before 0 0 0 4096 (omega arith) (omega arith) (open_head 0 0 0) marks elapsed sizes refl z.0 z.1 z.2 4096;
        from_end = empty_from 0 0 0 4096 (omega arith) (omega arith) (open_head 0 0 0) marks elapsed sizes refl z.0 z.1 z.2;
      }

  -- with its places it is ready, if before the first sequence nothing stands in them
  pub placed_ready : Placed g marks elapsed sizes → (g.begun ≡ None → Zeros marks elapsed sizes) → Ready g marks elapsed sizes
  placed_ready y f =
      let h = go g.begun y.heard f in
      record {
        marks_long = y.marks_long;
        elapsed_long = y.elapsed_long;
        sizes_long = y.sizes_long;
        undamaged = h.undamaged;
        before = h.before;
        from_end = h.from_end;
        fresh = f;
      }
    where
      go : (o : Option Begun) → IfSome o (λ b. HeardIn b marks elapsed sizes) → (o ≡ None → Zeros marks elapsed sizes) → HeardIn (begun_of o) marks elapsed sizes
      go (Some b) h k = h
      go None h k = empty_heard (k refl)

none_of : (o : Option Begun) → is_some o ≡ false → o ≡ None
none_of (Some b) e = absurd cc
none_of None e = refl

-- one that was ready is so again, if all is as it was where no sequence was begun
pub still_ready : (g : Going) (marks elapsed sizes : List ℕ) (g' : Going) (marks' elapsed' sizes' : List ℕ)
    → UnbegunKept (between_in g marks elapsed sizes) g' marks' elapsed' sizes' → Placed g' marks' elapsed' sizes' → Ready g marks elapsed sizes → Ready g' marks' elapsed' sizes'
still_ready g marks elapsed sizes g' marks' elapsed' sizes' kept y was = placed_ready g' marks' elapsed' sizes' y zeros
  where
    zeros : g'.begun ≡ None → Zeros marks' elapsed' sizes'
    zeros n =
        let s : is_some g'.begun ≡ false = rw n refl in
        let w = kept s in
        let f = was.fresh (none_of g.begun (sym (ap (λ (x : Between). x.begun) w) ∙ s)) in
        (ap (λ (x : Between). x.kept.marks) w ∙ f.0, ap (λ (x : Between). x.kept.elapsed) w ∙ f.1, ap (λ (x : Between). x.kept.sizes) w ∙ f.2)

-- a step that leaves a ready record leaves one with its places
pub steps_placed : {t : Step} {size : ℕ} {r : Went} {marks elapsed sizes : List ℕ} {old new : Text}
    → Steps t size r marks elapsed sizes old new → StepsWith Placed t size r marks elapsed sizes old new
steps_placed {t} {size} {r} {marks} {elapsed} {sizes} s =
    record { adds = s.adds; next = s.next; stops = s.stops; used = s.used; ready = ready_placed r.going marks elapsed sizes s.ready }
