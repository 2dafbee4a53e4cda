-- Items passed one after another, from the front of what was read. Assumes nothing.
use Rattle.std.specs.Prelude.{ℕ, ◌-◌, ◌≤◌, ◌<◌, ◌≡◌, ◌⊎◌, Bool, true, false, cond, List, [], ◌++◌, ltb, leb, length, drop}
use Rattle.fields.specs.Choice.{◌when◌otherwise◌}
use Rattle.lines.specs.declared.Text.{Text}
use Rattle.lines.specs.Adding.{room, Adds}
use Rattle.items.specs.Items.{longest_item}
use Rattle.printout.specs.declared.Went.{Went}
use Rattle.printout.specs.Printed.{Between, most_text, text_from}
use Rattle.printout.specs.Stepping.{between_in, Known, Ready}

-- whether the next item can be passed: none stopped the program, what it prints has room, and it cannot be cut unless the input is
unfoldable pub goes_on : ℕ → Bool → ℕ → Bool → Bool
goes_on rest ended room stops =
    false when stops otherwise
    false when ltb room most_text otherwise
    ltb 0 rest when ended otherwise
    leb longest_item rest

-- of the input from b on this text was told; unless all is over, what is left of it is told from c on, whatever more of it comes
pub record Told (b : Between) (input : List ℕ) (ended : Bool) (text : List ℕ) (over : Bool) (c : Between) (left : List ℕ) : Type 0 where
  pub told : (more : List ℕ) → (ended ≡ true → more ≡ []) → text_from b (input ++ more) ≡ text ++ cond over [] (text_from c (left ++ more))

-- the promise: the text stands behind what was put before, and nothing else differs; nothing is passed beyond what there is; and K is
-- known behind it
pub record PassedWith (K : Known) (b : Between) (input : List ℕ) (ended : Bool) (r : Went) (marks elapsed sizes : List ℕ) (old new : Text) : Type 0 where
  pub text : List ℕ
  pub most : ℕ
  pub adds : Adds text most old new
  pub told : Told b input ended text r.stops (between_in r.going marks elapsed sizes) (drop r.used input)
  pub ready : K r.going marks elapsed sizes
  pub used_in : r.used ≤ length input

-- the same, and the record is ready
abbrev pub Passed : Between → List ℕ → Bool → Went → List ℕ → List ℕ → List ℕ → Text → Text → Type 0
Passed = PassedWith Ready

-- why not all is told: what comes next may have no room, or has to be read first
pub record Waits (input : List ℕ) (ended : Bool) (r : Went) (new : Text) : Type 0 where
  pub why : r.stops ≡ false → (room new < most_text) ⊎ ((ended ≡ false) × (length input - r.used < longest_item))
