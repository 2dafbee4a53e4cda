-- The turns of the program read the input in pieces, so that what they tell is the text of the whole, or its front where a read
-- failed. Assumes nothing.
use Prim.Native.Nat.{ℕ}
use mathlib.Core.Path.{◌≡◌}
use mathlib.Core.Bool.{true, false, cond, false≢true}
use mathlib.Core.List.{List, [], ◌++◌}
use lib.ListN.{take}
use Rattle.std.specs.Prelude.{Option}
use Rattle.std.specs.declared.io.Error.{Error}
use Rattle.printout.specs.Printed.{Between, text_from}
use Rattle.printout.specs.Stepping.{between_in, Known}
use Rattle.feeding.specs.declared.End.TheVariants.{Over, Failed}
use Rattle.feeding.specs.Feeding.{is_over}
use Rattle.passing.specs.Pieces.{InPieces, last, stopped, piece, owing}
use Rattle.account.specs.declared.Done.{Done}
use Rattle.account.specs.Turning.{TurnedWith}

module _ {K : Known} (b : Between) (pending : List ℕ) (before after : Option (List ℕ)) (r : Done) (marks elapsed sizes input out : List ℕ)
    (t : TurnedWith K b pending before after r marks elapsed sizes input out) where
  -- the last turn, where the input has ended
  pub last_turn : r.over ≡ true → r.end ≡ Over → InPieces b pending t.got (take r.at out)
  last_turn o e = last (rw (o, e) at t.told)

  -- the last turn, where an item stopped the program
  pub stopped_turn : (unread : List ℕ) → r.over ≡ true → is_over r.end ≡ false
      → InPieces b pending (t.got ++ unread) (take r.at out)
  stopped_turn unread o e = stopped t.got unread (rw (o, e) at t.told)

  -- a turn whose read failed: whatever would have come behind it, what is printed is the text's front
  pub failed_turn : (e : Option Error) → r.end ≡ Failed e → (more : List ℕ)
      → text_from b (pending ++ t.got ++ more) ≡ take r.at out ++ cond r.over [] (text_from (between_in r.going marks elapsed sizes) (take r.have input ++ more))
  failed_turn e f more = (rw f at t.told).told more (λ o. absurd (false≢true o))

  module _ (o : r.over ≡ false) (more text : List ℕ) where
    -- a turn, and those behind it
    pub then_turns : is_over r.end ≡ false → InPieces (between_in r.going marks elapsed sizes) (take r.have input) more text
        → InPieces b pending (t.got ++ more) (take r.at out ++ text)
    then_turns e p = piece t.got more (take r.at out) text (rw (o, e) at t.told) p

    -- a turn for what had no room
    pub owed_turns : r.end ≡ Over → InPieces (between_in r.going marks elapsed sizes) (take r.have input) [] text
        → InPieces b pending t.got (take r.at out ++ text)
    owed_turns e p = owing (take r.at out) text (rw (o, e) at t.told) p
