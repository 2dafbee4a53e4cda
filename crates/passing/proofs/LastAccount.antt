-- Where no item more is passed: what the input waits for, or the last account behind all of it. Assumes nothing.
use Prim.Native.Nat.{ℕ, ◌+◌, ◌-◌, ◌≤◌, ◌<◌}
use mathlib.Core.Path.{◌≡◌, sym, ◌∙◌}
use mathlib.Core.Logic.{◌⊎◌, inl, inr}
use mathlib.Core.Bool.{Bool, true, false, true≢false}
use mathlib.Core.List.{List, [], ◌++◌}
use native.Mathlib.Omega.{arith}
use borrow.Author.Tests.{ltb-true, ltb-false, leb-false, le-ltb}
use lib.Dec.{ltb, leb}
use lib.ListN.{length, drop, drop_of_length-le}
use Rattle.fields.specs.Choice.{◌when◌otherwise◌}
use Rattle.fields.proofs.Tests.{either}
use Rattle.lines.specs.declared.Text.{Text}
use Rattle.lines.specs.Adding.{room, Adds}
use Rattle.lines.proofs.Added.{adds_then}
use Rattle.printout.specs.declared.Went.{Went}
use Rattle.printout.specs.Printed.{Between, most_text, account_before}
use Rattle.printout.specs.Stepping.{between_in, Known}
use Rattle.items.specs.Items.{longest_item}
use Rattle.passing.specs.Passing.{goes_on, Told, PassedWith, Waits}
use Rattle.passing.proofs.Telling.{told_then, told_last}

-- where all is over nothing waits
pub over_waits : (input : List ℕ) (ended : Bool) (r : Went) (new : Text) → r.stops ≡ true → Waits input ended r new
over_waits input ended r new s = record { why = λ e. absurd (true≢false (sym s ∙ e)) }

-- no room
pub room_waits : (input : List ℕ) (ended : Bool) (r : Went) (new : Text) → room new < most_text → Waits input ended r new
room_waits input ended r new l = record { why = λ e. inl l }

-- what is known where no item is passed, with room
stays_means : (rest : ℕ) (ended : Bool) (free : ℕ) → most_text ≤ free → goes_on rest ended free false ≡ false → (ltb 0 rest when ended otherwise leb longest_item rest) ≡ false
unfolding goes_on
stays_means rest ended free h e = rw (le-ltb free most_text h) at e

-- more has to be read
pub read_waits : (input : List ℕ) (ended : Bool) (r : Went) (new : Text) → r.stops ≡ false → ended ≡ false
    → goes_on (length input - r.used) ended (room new) r.stops ≡ false → Waits input ended r new
read_waits input ended r new s n g = go (either (ltb (room new) most_text))
  where
    go : (ltb (room new) most_text ≡ true) ⊎ (ltb (room new) most_text ≡ false) → Waits input ended r new
    go (inl t) = room_waits input ended r new (ltb-true _ _ t)
    go (inr t) =
        let l = leb-false longest_item (length input - r.used) (stays_means (length input - r.used) false (room new) (ltb-false _ _ t) (rw (s, n) at g)) in
        record { why = λ e. inr (n, l) }

-- the last account
module _ {K : Known} (b : Between) (input : List ℕ) (ended : Bool) (w : Went) (marks elapsed sizes : List ℕ) (old mid new : Text)
    (p : PassedWith K b input ended w marks elapsed sizes old mid) (s : w.stops ≡ false) (n : ended ≡ true) (h : most_text ≤ room mid)
    (g : goes_on (length input - w.used) ended (room mid) w.stops ≡ false)
    (q : Adds (account_before (between_in w.going marks elapsed sizes)) most_text mid new) where
  none_left : drop w.used input ≡ []
  none_left =
      let l = ltb-false 0 (length input - w.used) (stays_means _ true _ h (rw (s, n) at g)) in
      let e : length input ≤ w.used = omega (arith, l) in
      drop_of_length-le input e

  all_told : Told b input ended (p.text ++ account_before (between_in w.going marks elapsed sizes)) true (between_in w.going marks elapsed sizes) (drop w.used input)
  all_told =
      let t : Told b input true p.text false (between_in w.going marks elapsed sizes) [] = rw (s, n, none_left) at p.told in
      rw (n, none_left) (told_then t (told_last (between_in w.going marks elapsed sizes)))

  pub last_told : PassedWith K b input ended (record w { stops = true }) marks elapsed sizes old new
  last_told =
      record {
        text = p.text ++ account_before (between_in w.going marks elapsed sizes);
        most = p.most + most_text;
        adds = adds_then p.adds q;
        told = all_told;
        ready = p.ready;
        used_in = p.used_in;
      }
