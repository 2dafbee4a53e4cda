-- How each kind of item meets the promise of a step. Assumes nothing.
use Rattle.std.proofs.Common.{◌≡◌, ℕ, ◌+◌, ◌-◌, ◌≤◌, Bool, true, false, not, List, length, take, drop, replicate, sym, refl, ap, ◌∙◌, subst, arith, length-drop, length-take-le}
use lib.ListN.{length-replicate, get_or-eq_default}
use Rattle.units.specs.Limits.{last_stamp}
use Rattle.fields.specs.Choice.{◌when◌otherwise◌}
use Rattle.lines.specs.declared.Text.{Text}
use Rattle.lines.specs.Adding.{Adds}
use Rattle.lines.proofs.Added.{adds_in}
use Rattle.items.specs.declared.Item.TheVariants.{Begins, Frame}
use Rattle.items.specs.declared.NoItem.{NoItem}
use Rattle.std.specs.Prelude.{Ok, Err, Some}
use Rattle.items.specs.declared.Key.{Key}
use Rattle.items.specs.Items.{Found, item_of, size_of}
use Rattle.reception.specs.declared.Head.{Head}
use Rattle.reception.specs.Damage.{Matched}
use Rattle.reception.specs.Hearing.{Kept, kept_in, damaged_kept, open_head, hear_frame}
use Rattle.reception.proofs.KeptAsHeld.{matched_lists}
use Rattle.reception.proofs.HearingUndamaged.{stays_undamaged}
use Rattle.reception.proofs.OnePaper.{taken_known}
use Rattle.hearing.specs.declared.contradicting.Span.{Span}
use Rattle.hearing.specs.declared.following.Following.{Following}
use Rattle.hearing.specs.Following.{Cleared, Follows, ZerosOutside}
use Rattle.hearing.proofs.EmptyRecord.{empty_undamaged, empty_before, empty_from}
use Rattle.telling.specs.Account.{bad_line}
use Rattle.printout.specs.declared.Going.{Going}
use Rattle.printout.specs.declared.Went.{Went}
use Rattle.printout.specs.Printed.{places, most_text, counted, Between, Step, account_before, bad_step, answer_text, frame_step, heard_in, key_step, item_step, step_of, used_by}
use Rattle.printout.specs.Stepping.{begun_of, between_in, Known, Placed, Ready, Steps, StepsWith}
use Rattle.printout.proofs.StaysReady.{placed_lists, ready_placed, placed_ready}

-- the lists of what is kept match
pub ready_lists : (g : Going) (marks elapsed sizes : List ℕ) → Ready g marks elapsed sizes → Matched marks elapsed sizes
ready_lists g marks elapsed sizes y = placed_lists g marks elapsed sizes (ready_placed g marks elapsed sizes y)

-- a span that leaves no place out
pub all_outside : (marks elapsed sizes : List ℕ) → Matched marks elapsed sizes → ZerosOutside (record { first = 0; end = length marks }) marks elapsed sizes
all_outside marks elapsed sizes m =
    record {
      inside = omega arith;
      marks_zero = beyond marks refl;
      elapsed_zero = beyond elapsed m.elapseds;
      sizes_zero = beyond sizes m.lengths;
    }
  where
    beyond : (s : List ℕ) → length s ≡ length marks → Cleared (length marks) s 0 (length marks)
    beyond s e = record { long = e; zeros = λ j q. get_or-eq_default s 0 (omega (arith, e, q)) }

-- a key
pub keyed : (b : Between) (k : Key) → k.stamp ≤ last_stamp → (h : Head) (span : Span) (place offset : ℕ) (marks elapsed sizes : List ℕ) (old new : Text)
    → Adds (account_before b) most_text old new → h ≡ open_head k.bearer k.period k.stamp → marks ≡ replicate places 0 → elapsed ≡ replicate places 0
    → sizes ≡ replicate places 0 → span.end ≡ 0 → place ≡ counted (b.place + 1) → offset ≡ counted (b.offset + 14)
    → Steps (key_step b k) 14
    (record { going = record { begun = Some (record { head = h; span = span }); place = place; offset = offset }; used = 14; stops = false })
    marks elapsed sizes old new
keyed b k st h span place offset marks elapsed sizes old new p hh m e z se pl of =
    record {
      adds = p;
      next = rw (hh, m, e, z, pl, of) refl;
      stops = refl;
      used = refl;
      ready = placed_ready _ marks elapsed sizes
          (record {
            marks_long = ap length m ∙ length-replicate {A = ℕ} places 0;
            elapsed_long = ap length e ∙ length-replicate {A = ℕ} places 0;
            sizes_long = ap length z ∙ length-replicate {A = ℕ} places 0;
            heard = record {
              undamaged = empty_undamaged k.bearer k.period k.stamp places st (omega arith) h marks elapsed sizes hh m e z;
              before = empty_before k.bearer k.period k.stamp places st (omega arith) h marks elapsed sizes hh m e z span.first;
              from_end = rw se (empty_from k.bearer k.period k.stamp places st (omega arith) h marks elapsed sizes hh m e z);
            };
          })
          (λ n. absurd cc);
    }

-- bad input
pub bad_stepped : {K : Known} (g : Going) (marks elapsed sizes : List ℕ) (r : Went) (old new : Text) → K g marks elapsed sizes
    → Adds (bad_line g.offset) 64 old new → r.going ≡ g → r.stops ≡ true → r.used ≡ 0
    → StepsWith K (bad_step (between_in g marks elapsed sizes)) 0 r marks elapsed sizes old new
bad_stepped {K} g marks elapsed sizes r old new y p e s u =
    record { adds = adds_in most_text (omega arith) p; next = rw e refl; stops = s; used = u; ready = rw e y }

-- a frame heard
pub heard_step : (g : Going) (marks elapsed sizes body : List ℕ) (t : Following) (marks' elapsed' sizes' : List ℕ) (old new : Text) (place offset : ℕ)
    → Placed g marks elapsed sizes → damaged_kept (kept_in (begun_of g.begun).head marks elapsed sizes) ≡ false
    → Follows (hear_frame (kept_in (begun_of g.begun).head marks elapsed sizes) (begun_of g.begun).head.bearer (begun_of g.begun).head.period body) t marks' elapsed' sizes'
    → length marks' ≡ length marks → length elapsed' ≡ length elapsed → length sizes' ≡ length sizes
    → place ≡ counted (g.place + 1) → offset ≡ counted (g.offset + (4 + length body)) → Adds (answer_text place t.answer) 128 old new
    → Steps (frame_step (between_in g marks elapsed sizes) (4 + length body) (heard_in (between_in g marks elapsed sizes) body)) (4 + length body)
    (record { going = record { begun = Some (record { head = t.head; span = t.span }); place = place; offset = offset }; used = 4 + length body; stops = false })
    marks' elapsed' sizes' old new
heard_step g marks elapsed sizes body t marks' elapsed' sizes' old new place offset y u f ml el sl pl of p =
    record {
      adds = rw (pl, taken_known t.answer (hear_frame (kept_in (begun_of g.begun).head marks elapsed sizes) (begun_of g.begun).head.bearer (begun_of g.begun).head.period body).answer f.taken.says) at (adds_in most_text (omega arith) p);
      next = rw (f.taken.leaves, pl, of) refl;
      stops = refl;
      used = refl;
      ready = placed_ready _ marks' elapsed' sizes'
          (record {
            marks_long = ml ∙ y.marks_long;
            elapsed_long = el ∙ y.elapsed_long;
            sizes_long = sl ∙ y.sizes_long;
            heard = record {
              undamaged = subst (λ (x : Kept). damaged_kept x ≡ false) (sym f.taken.leaves)
                  (stays_undamaged (kept_in (begun_of g.begun).head marks elapsed sizes) (begun_of g.begun).head.bearer (begun_of g.begun).head.period body (matched_lists marks elapsed sizes (placed_lists g marks elapsed sizes y)) u).1;
              before = f.before;
              from_end = f.from_end;
            };
          })
          (λ n. absurd cc);
    }

-- the same, of a record that was ready
pub framed_step : (g : Going) (marks elapsed sizes body : List ℕ) (t : Following) (marks' elapsed' sizes' : List ℕ) (old new : Text) (place offset : ℕ)
    → Ready g marks elapsed sizes
    → Follows (hear_frame (kept_in (begun_of g.begun).head marks elapsed sizes) (begun_of g.begun).head.bearer (begun_of g.begun).head.period body) t marks' elapsed' sizes'
    → length marks' ≡ length marks → length elapsed' ≡ length elapsed → length sizes' ≡ length sizes
    → place ≡ counted (g.place + 1) → offset ≡ counted (g.offset + (4 + length body)) → Adds (answer_text place t.answer) 128 old new
    → Steps (frame_step (between_in g marks elapsed sizes) (4 + length body) (heard_in (between_in g marks elapsed sizes) body)) (4 + length body)
    (record { going = record { begun = Some (record { head = t.head; span = t.span }); place = place; offset = offset }; used = 4 + length body; stops = false })
    marks' elapsed' sizes' old new
framed_step g marks elapsed sizes body t marks' elapsed' sizes' old new place offset y f ml el sl pl of p =
    heard_step g marks elapsed sizes body t marks' elapsed' sizes' old new place offset (ready_placed g marks elapsed sizes y) y.undamaged f ml el sl pl of p

-- a step by what the item is
module _ (b : Between) (input : List ℕ) where
  pub steps_key : {K : Known} (k : Key) {r : Went} {marks elapsed sizes : List ℕ} {old new : Text} → item_of input ≡ Ok (Begins k)
      → StepsWith K (key_step b k) 14 r marks elapsed sizes old new → StepsWith K (step_of b input) (used_by b input) r marks elapsed sizes old new
  unfolding item_step size_of
  steps_key {K} k e p = rw e p

  in_turn : (n : ℕ) → b.begun ≡ true → item_step b input (Ok (Frame n)) ≡ frame_step b (4 + n) (heard_in b (take n (drop 4 input)))
  unfolding item_step
  in_turn n y = ap (λ (t : Bool). bad_step b when not t otherwise frame_step b (4 + n) (heard_in b (take n (drop 4 input)))) y

  pub steps_frame : {K : Known} (n : ℕ) {r : Went} {marks elapsed sizes : List ℕ} {old new : Text} → item_of input ≡ Ok (Frame n) → b.begun ≡ true
      → StepsWith K (frame_step b (4 + n) (heard_in b (take n (drop 4 input)))) (4 + n) r marks elapsed sizes old new
      → StepsWith K (step_of b input) (used_by b input) r marks elapsed sizes old new
  unfolding size_of
  steps_frame {K} n {r} {marks} {elapsed} {sizes} {old} {new} e y p =
      let q = ap (item_step b input) e ∙ in_turn n y in
      let u : used_by b input ≡ 4 + n =
      ap (λ (t : Step). 0 when t.stops otherwise size_of (item_of input)) q ∙ ap size_of e
      in
      subst (λ (t : Step). StepsWith K t (used_by b input) r marks elapsed sizes old new) (sym q)
      (subst (λ (x : ℕ). StepsWith K (frame_step b (4 + n) (heard_in b (take n (drop 4 input)))) x r marks elapsed sizes old new) (sym u) p)

  early : (n : ℕ) → b.begun ≡ false → item_step b input (Ok (Frame n)) ≡ bad_step b
  unfolding item_step
  early n y = ap (λ (t : Bool). bad_step b when not t otherwise frame_step b (4 + n) (heard_in b (take n (drop 4 input)))) y

  pub steps_early : {K : Known} (n : ℕ) {r : Went} {marks elapsed sizes : List ℕ} {old new : Text} → item_of input ≡ Ok (Frame n) → b.begun ≡ false
      → StepsWith K (bad_step b) 0 r marks elapsed sizes old new → StepsWith K (step_of b input) (used_by b input) r marks elapsed sizes old new
  steps_early {K} n {r} {marks} {elapsed} {sizes} {old} {new} e y p =
      let q = ap (item_step b input) e ∙ early n y in
      let u : used_by b input ≡ 0 = ap (λ (t : Step). 0 when t.stops otherwise size_of (item_of input)) q in
      subst (λ (t : Step). StepsWith K t (used_by b input) r marks elapsed sizes old new) (sym q)
      (subst (λ (x : ℕ). StepsWith K (bad_step b) x r marks elapsed sizes old new) (sym u) p)

  pub steps_none : {K : Known} (x : NoItem) {r : Went} {marks elapsed sizes : List ℕ} {old new : Text} → item_of input ≡ Err x
      → StepsWith K (bad_step b) 0 r marks elapsed sizes old new → StepsWith K (step_of b input) (used_by b input) r marks elapsed sizes old new
  unfolding item_step
  steps_none {K} x e p = rw e p

-- a step that begins no sequence leaves all as it was
pub begins_none : (b : Between) (input : List ℕ) → (step_of b input).next.begun ≡ false → (step_of b input).next ≡ b
unfolding item_step
begins_none b input = go (item_of input)
  where
    go : (i : Found) → (item_step b input i).next.begun ≡ false → (item_step b input i).next ≡ b
    go (Ok (Begins k)) e = absurd cc
    go (Ok (Frame n)) e = framed b.begun e
      where
        framed : (t : Bool) → (bad_step b when not t otherwise frame_step b (4 + n) (heard_in b (take n (drop 4 input)))).next.begun ≡ false
            → (bad_step b when not t otherwise frame_step b (4 + n) (heard_in b (take n (drop 4 input)))).next ≡ b
        framed true e = absurd cc
        framed false e = refl
    go (Err x) e = refl

-- the body of a frame is what stands behind the item's four octets
pub body_is : (n : ℕ) (input : List ℕ) → take (4 + n - 4) (drop 4 input) ≡ take n (drop 4 input)
body_is n input = let e : 4 + n - 4 ≡ n = omega arith in ap (λ (k : ℕ). take k (drop 4 input)) e

pub body_long : (n : ℕ) (input : List ℕ) → 4 + n ≤ length input → length (take n (drop 4 input)) ≡ n
body_long n input le = let d = length-drop 4 input in length-take-le n (drop 4 input) (omega (arith, d))

pub steps_body : {K : Known} (b : Between) (n : ℕ) (body input : List ℕ) {r : Went} {marks elapsed sizes : List ℕ} {old new : Text} → body ≡ take n (drop 4 input)
    → 4 + n ≤ length input → StepsWith K (frame_step b (4 + length body) (heard_in b body)) (4 + length body) r marks elapsed sizes old new
    → StepsWith K (frame_step b (4 + n) (heard_in b (take n (drop 4 input)))) (4 + n) r marks elapsed sizes old new
steps_body {K} b n body input e le p = rw (e, body_long n input le) at p
