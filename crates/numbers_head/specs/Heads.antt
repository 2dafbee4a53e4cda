-- The head of a record as C and Rust keep it: a list of six numbers. Assumes nothing.
use Rattle.std.specs.Prelude.{ℕ, false, cond, List, [], ◌∷◌, length, get_or, ltb, eqb, Result, Ok, Err}
use Rattle.fields.specs.Choice.{◌when◌otherwise◌}
use Rattle.fields.specs.Runs.{front}
use Rattle.reception.specs.declared.Head.{Head}
use Rattle.numbers.specs.Widths.{widest}

-- the head that stands for numbers that are no head's: its stamp is above 59,999, so the record is damaged (refusal 13)
abbrev pub no_head : Head
no_head =
    record { bearer = 0; period = 0; stamp = widest; closed = false; count = record { 0 = 0 }; total = record { 0 = 0 } }

-- bearer, period, stamp, 1 where closed and 0 where not, the closing's packets, its octets; fewer than six numbers are no head's
unfoldable pub head_of : List ℕ → Head
head_of ns =
    no_head when ltb (length ns) 6 otherwise
    no_head when ltb widest (get_or ns 0 0) otherwise
    no_head when ltb widest (get_or ns 1 0) otherwise
    no_head when ltb widest (get_or ns 2 0) otherwise
    no_head when ltb 1 (get_or ns 3 0) otherwise
    no_head when ltb widest (get_or ns 4 0) otherwise
    record {
      bearer = get_or ns 0 0;
      period = get_or ns 1 0;
      stamp = get_or ns 2 0;
      closed = eqb (get_or ns 3 0) 1;
      count = record { 0 = get_or ns 4 0 };
      total = record { 0 = get_or ns 5 0 };
    }

-- the six numbers of a head
abbrev pub numbers_of : Head → List ℕ
numbers_of h = h.bearer ∷ h.period ∷ h.stamp ∷ cond h.closed 1 0 ∷ h.count.0 ∷ h.total.0 ∷ []

-- a list that held old, with a head's numbers in front where it has room for them
abbrev pub with_head : List ℕ → Head → List ℕ
with_head old h = old when ltb (length old) 6 otherwise front old (numbers_of h)

-- the list of a head after an answer: the head's numbers in front; or, refused, what it held
abbrev pub head_after : {E : Type 0} → Result Unit E → List ℕ → Head → List ℕ
head_after (Ok u) old h = front old (numbers_of h)
head_after (Err r) old h = old
