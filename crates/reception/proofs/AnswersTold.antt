-- What is told of an answer: its refusal's number, or the whole of it in one number. Assumes nothing.
use mathlib.Core.Path.{◌≡◌, refl}
use Rattle.units.specs.declared.refusals.Refusal.{Refusal}
use Rattle.units.specs.OneNumber.{refusal_in_one}
use Rattle.units.specs.Refusals.{number_of, found_of, worked_of}
use Rattle.reception.specs.Hearing.{taken_paper}
use Rattle.reception.specs.Several.{refusal_number, answer_of}
use Rattle.std.specs.Prelude.{Ok, Err}

pub number_told : (x : Refusal) → number_of x ≡ refusal_number (Err x)
unfolding taken_paper
number_told x = refl

pub answer_told : (x : Refusal) → refusal_in_one (number_of x) (found_of x) (worked_of x) ≡ answer_of (Err x)
unfolding taken_paper
answer_told x = refl

-- where nothing is refused, both are 0
pub no_number : refusal_number (Ok tt) ≡ 0
unfolding taken_paper
no_number = refl

pub no_answer : answer_of (Ok tt) ≡ 0
unfolding taken_paper
no_answer = refl
