-- One turn: what was pending, with what was read behind it, is told as far as it goes. Assumes nothing.
use Prim.Native.Nat.{ℕ, ◌+◌, ◌-◌, ◌≤◌}
use native.Mathlib.Omega.{arith}
use mathlib.Core.Path.{◌≡◌, sym, ap, ◌∙◌}
use mathlib.Core.List.{List, ◌++◌}
use lib.ListN.{length, take, drop, take-append-drop}
use Rattle.std.specs.Prelude.{Option, Bool}
use Rattle.std.specs.Io.KnownBytes.{Consumes, IsAtEnd}
use lib.Seq.{length-take-le, take-take, take-add, drop_at}
use Rattle.lines.specs.declared.Text.{Text}
use Rattle.lines.proofs.Putting.{puts_whole}
use Rattle.printout.specs.declared.Went.{Went}
use Rattle.printout.specs.Printed.{Between}
use Rattle.printout.specs.Stepping.{between_in, Known}
use Rattle.feeding.specs.declared.Fed.{Fed}
use Rattle.feeding.specs.declared.End.TheVariants.{Over}
use Rattle.feeding.specs.Feeding.{is_over, ReadOn}
use Rattle.passing.specs.Passing.{Told, PassedWith}
use Rattle.account.specs.Turning.{TurnedWith}

-- what was read stands behind what was pending
read_behind : (have : ℕ) (old : List ℕ) (f : Fed) (new : List ℕ) → ReadOn have old f new → take have old ++ drop have (take f.have new) ≡ take f.have new
read_behind have old f new r =
    ap (λ (x : List ℕ). x ++ drop have (take f.have new)) (sym (take-take have f.have new r.behind.more ∙ r.behind.kept)) ∙ take-append-drop have (take f.have new)

-- what stands behind the octets passed
behind_passed : (used n : ℕ) (s : List ℕ) → used ≤ n → n ≤ length s → drop used (take n s) ≡ take (n - used) (drop used s)
behind_passed used n s u h =
    let e : used + (n - used) ≡ n = omega (arith, u) in
    let l : length (take used s) ≡ used = length-take-le used s (omega (arith, u, h)) in
    ap (λ (k : ℕ). drop used (take k s)) (sym e) ∙ ap (drop used) (take-add used (n - used) s) ∙ drop_at (take used s) (take (n - used) (drop used s)) used l

module _ {K : Known} (b : Between) (have : ℕ) (old : List ℕ) (f : Fed) (mid : List ℕ) (r : ReadOn have old f mid) (ended : Bool) (is : ended ≡ is_over f.end) (w : Went)
    (marks elapsed sizes : List ℕ) (to₀ to : Text) (p : PassedWith K b (take f.have mid) ended w marks elapsed sizes to₀ to) (start : to₀.at ≡ 0) where
  mid_long : length (take f.have mid) ≡ f.have
  mid_long = length-take-le f.have mid r.behind.within

  pub passed_in : w.used ≤ f.have
  passed_in = let u = p.used_in in let l = mid_long in omega (arith, u, l)

  pub down_in : w.used + (f.have - w.used) ≤ length mid
  down_in = let u = passed_in in let i = r.behind.within in omega (arith, u, i)

  module _ (new : List ℕ) (same : length new ≡ length mid) (moved : take (f.have - w.used) new ≡ take (f.have - w.used) (drop w.used mid)) where
    all_told : Told b (take have old ++ drop have (take f.have mid)) (is_over f.end) (take to.at to.out.now) w.stops (between_in w.going marks elapsed sizes)
        (take (f.have - w.used) new)
    all_told = rw (← is, read_behind have old f mid r, moved, puts_whole (rw start at p.adds.puts), ← behind_passed w.used f.have mid passed_in r.behind.within) p.told

    pub turn_done : (out : List ℕ) → out ≡ to.out.now → (before after : Option (List ℕ)) → Consumes before after (drop have (take f.have mid)) → (f.end ≡ Over → IsAtEnd after)
        → TurnedWith K b (take have old) before after
        (record { going = w.going; have = f.have - w.used; at = to.at; over = w.stops; end = f.end }) marks elapsed sizes new out
    turn_done out back before after bytes at_end =
        let i = r.behind.within in
        record {
          got = drop have (take f.have mid);
          bytes = bytes;
          at_end = at_end;
          told = rw back all_told;
          full = λ e. rw (read_behind have old f mid r, mid_long, same) (r.full e);
          over = λ e. rw (read_behind have old f mid r, mid_long, same) (r.over e);
          at_in = rw back to.inside;
          turns = record { ready = p.ready; within = omega (arith, i, same) };
        }
