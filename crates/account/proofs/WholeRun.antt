-- The turns of the program, one behind the other, tell the program's text of all that the reader gives. Assumes nothing.
use Rattle.std.proofs.Common.{◌≡◌, ℕ, true, false, cond, List, [], ◌++◌, take, refl, sym, ap, subst, ◌∙◌, append_assoc, append-nil}
use Rattle.std.proofs.lemmas.Bool.{false≢true}
use Rattle.std.specs.Prelude.{Option, Some, None, Result, Ok, Err, IsOk, OnOk}
use Rattle.std.specs.Io.KnownBytes.{Appends, Consumes, IsAtEnd}
use Rattle.std.proofs.KnownBytes.{Appends-nil, Appends-trans}
use Rattle.feeding.specs.declared.End.{End}
use Rattle.feeding.specs.declared.End.TheVariants.{Full, Over, Failed}
use Rattle.feeding.specs.Feeding.{is_over}
use Rattle.printout.specs.Printed.{Between, nothing_yet, text_from, program_text}
use Rattle.printout.specs.Stepping.{between_in, Known}
use Rattle.account.specs.declared.Done.{Done}
use Rattle.account.specs.declared.Ran.{Ran}
use Rattle.account.specs.declared.Ran.TheVariants.{Whole, Front}
use Rattle.account.specs.Turning.{TurnedWith, TellsAll, TellsFront}

-- of xs these octets are still to be read, and what is printed is the text of all that was passed
pub record Rest (xs printed : List ℕ) (b : Between) (pending : List ℕ) (left : Option (List ℕ)) : Type 0 where
  pub unread : List ℕ
  pub is : left ≡ Some unread
  pub text : program_text xs ≡ printed ++ text_from b (pending ++ unread)

-- what the turns so far did: given is all that the reader had, left is what it has now; before and after are the writer's contents
pub record SoFar (given before : Option (List ℕ)) (b : Between) (pending : List ℕ) (left after : Option (List ℕ)) : Type 0 where
  pub printed : List ℕ
  pub appends : Appends before after printed
  pub rest : (xs : List ℕ) → given ≡ Some xs → Rest xs printed b pending left

-- nothing was read or printed yet
pub none_so_far : (given before : Option (List ℕ)) (b : Between) (pending : List ℕ) → b ≡ nothing_yet → pending ≡ [] → SoFar given before b pending given before
none_so_far given before b pending e p =
    record {
      printed = [];
      appends = Appends-nil before;
      rest = λ xs is. record { unread = xs; is = is; text = rw (e, p) refl };
    }

-- what a reader with known octets gave, and what it has left
pub record Gave (got given : List ℕ) (after : Option (List ℕ)) : Type 0 where
  pub unread : List ℕ
  pub is : after ≡ Some unread
  pub whole : given ≡ got ++ unread

gave : (before after : Option (List ℕ)) (got given : List ℕ) → Consumes before after got → before ≡ Some given → Gave got given after
gave None after got given c e = absurd cc
gave (Some xs) None got given c e = absurd c
gave (Some xs) (Some ys) got given c e = record { unread = ys; is = refl; whole = cc }

-- which end it is
over_is : (e : End) → is_over e ≡ true → e ≡ Over
over_is Full o = absurd (false≢true o)
over_is Over o = refl
over_is (Failed x) o = absurd (false≢true o)

module _ {K : Known} (b : Between) (pending : List ℕ) (left left' : Option (List ℕ)) (r : Done) (marks elapsed sizes input out : List ℕ)
    (t : TurnedWith K b pending left left' r marks elapsed sizes input out) (given before after after' : Option (List ℕ))
    (s : SoFar given before b pending left after) (wrote : Appends after after' (take r.at out)) where
  abbrev next : Between
  next = between_in r.going marks elapsed sizes

  appended : Appends before after' (s.printed ++ take r.at out)
  appended = Appends-trans before after after' s.printed (take r.at out) s.appends wrote

  module _ (xs : List ℕ) (is : given ≡ Some xs) where
    abbrev now : Rest xs s.printed b pending left
    now = s.rest xs is

    abbrev g : Gave t.got now.unread left'
    g = gave left left' t.got now.unread t.bytes now.is

    ended : is_over r.end ≡ true → g.unread ≡ []
    ended e = subst IsAtEnd g.is (t.at_end (over_is r.end e))

    told : program_text xs ≡ (s.printed ++ take r.at out) ++ cond r.over [] (text_from next (take r.have input ++ g.unread))
    told =
        now.text
        ∙ ap (λ (l : List ℕ). s.printed ++ text_from b (pending ++ l)) g.whole
        ∙ ap (λ (l : List ℕ). s.printed ++ text_from b l) (sym (append_assoc pending t.got g.unread))
        ∙ ap (λ (l : List ℕ). s.printed ++ l) (t.told.told g.unread ended)
        ∙ sym (append_assoc s.printed (take r.at out) (cond r.over [] (text_from next (take r.have input ++ g.unread))))

  -- a turn more
  pub one_turn_more : r.over ≡ false → SoFar given before next (take r.have input) left' after'
  one_turn_more o =
      record {
        printed = s.printed ++ take r.at out;
        appends = appended;
        rest = λ xs is. record { unread = (g xs is).unread; is = (g xs is).is; text = rw o at (told xs is) };
      }

-- the last turn
pub all_told : {K : Known} (b : Between) (pending : List ℕ) (left left' : Option (List ℕ)) (r : Done) (marks elapsed sizes input out : List ℕ)
    → TurnedWith K b pending left left' r marks elapsed sizes input out → (given before after after' : Option (List ℕ)) → SoFar given before b pending left after
    → Appends after after' (take r.at out) → r.over ≡ true → TellsAll given before after'
all_told {K} b pending left left' r marks elapsed sizes input out t None before after after' s wrote o = tt
all_told {K} b pending left left' r marks elapsed sizes input out t (Some xs) before after after' s wrote o =
    let text = rw o at (told b pending left left' r marks elapsed sizes input out t (Some xs) before after after' s wrote xs refl) in
    subst (Appends before after') (sym (text ∙ append-nil _)) (appended b pending left left' r marks elapsed sizes input out t (Some xs) before after after' s wrote)

-- what holds of a write that did not fail
pub written : {T E : Type 0} (r : Result T E) {P : Type 0} → IsOk r → OnOk r P → P
written (Ok x) ok p = p
written (Err e) ok p = absurd (false≢true ok)

-- what came of a run, whichever it is, says that the write did not fail
pub did_write : {T E X Y : Type 0} (answer : Result T E) (r : Result Ran E) (ran : Ran) → r ≡ Ok ran → (r ≡ Ok Whole → X × IsOk answer) → (r ≡ Ok Front → Y × IsOk answer) → IsOk answer
did_write answer r Whole e w f = (w e).1
did_write answer r Front e w f = (f e).1

-- where it stops before the end, the front is told
pub front_told : (given before : Option (List ℕ)) (b : Between) (pending : List ℕ) (left after : Option (List ℕ)) → SoFar given before b pending left after
    → TellsFront given before after
front_told None before b pending left after s = tt
front_told (Some xs) before b pending left after s =
    let r = s.rest xs refl in
    (s.printed, text_from b (pending ++ r.unread), s.appends, r.text)
