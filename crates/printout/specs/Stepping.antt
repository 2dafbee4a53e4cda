-- What the code keeps between two items, and what a step promises. Assumes nothing.
use Rattle.std.specs.Prelude.{◌≡◌, ℕ, false, Option, Some, None, IfSome, is_some, List, replicate, length}
use Rattle.lines.specs.declared.Text.{Text}
use Rattle.lines.specs.Adding.{Adds}
use Rattle.reception.specs.Hearing.{kept_in, damaged_kept, open_head}
use Rattle.reception.specs.Neighbours.{NoneBefore, NoneFrom}
use Rattle.printout.specs.declared.Begun.{Begun}
use Rattle.printout.specs.declared.Going.{Going}
use Rattle.printout.specs.declared.Went.{Went}
use Rattle.printout.specs.Printed.{places, most_text, Between, Step}

-- the sequence that was begun; before the first, one with nothing in its record
abbrev pub begun_of : Option Begun → Begun
begun_of (Some b) = b
begun_of None = record { head = open_head 0 0 0; span = record { first = places; end = 0 } }

-- what the code keeps, and the three lists, as what is there between two items
abbrev pub between_in : Going → List ℕ → List ℕ → List ℕ → Between
between_in g marks elapsed sizes =
    record { begun = is_some g.begun; kept = kept_in (begun_of g.begun).head marks elapsed sizes; place = g.place; offset = g.offset }

-- the record of a sequence is undamaged, and nothing was heard outside of its span
pub record HeardIn (b : Begun) (marks elapsed sizes : List ℕ) : Type 0 where
  pub undamaged : damaged_kept (kept_in b.head marks elapsed sizes) ≡ false
  pub before : NoneBefore marks b.span.first
  pub from_end : NoneFrom marks b.span.end

-- the record has its places; before the first sequence they may hold anything
pub record Placed (g : Going) (marks elapsed sizes : List ℕ) : Type 0 where
  pub marks_long : length marks ≡ places
  pub elapsed_long : length elapsed ≡ places
  pub sizes_long : length sizes ≡ places
  pub heard : IfSome g.begun (λ b. HeardIn b marks elapsed sizes)

-- the record has its places, is undamaged, and nothing was heard outside of the span, nor anything before the first sequence
pub record Ready (g : Going) (marks elapsed sizes : List ℕ) : Type 0 where
  pub marks_long : length marks ≡ places
  pub elapsed_long : length elapsed ≡ places
  pub sizes_long : length sizes ≡ places
  pub undamaged : damaged_kept (kept_in (begun_of g.begun).head marks elapsed sizes) ≡ false
  pub before : NoneBefore marks (begun_of g.begun).span.first
  pub from_end : NoneFrom marks (begun_of g.begun).span.end
  pub fresh : g.begun ≡ None → (marks ≡ replicate places 0) × (elapsed ≡ replicate places 0) × (sizes ≡ replicate places 0)

-- what may be known of what the code keeps, and of the three lists
abbrev pub Known : Type 1
Known = Going → List ℕ → List ℕ → List ℕ → Type 0

-- where no sequence was begun by then, all is as it was
abbrev pub UnbegunKept : Between → Going → List ℕ → List ℕ → List ℕ → Type 0
UnbegunKept b g marks elapsed sizes = is_some g.begun ≡ false → between_in g marks elapsed sizes ≡ b

-- the promise of a step t of so many octets, whose text stands behind what was put before; K is known behind it
pub record StepsWith (K : Known) (t : Step) (size : ℕ) (r : Went) (marks elapsed sizes : List ℕ) (old new : Text) : Type 0 where
  pub adds : Adds t.text most_text old new
  pub next : between_in r.going marks elapsed sizes ≡ t.next
  pub stops : r.stops ≡ t.stops
  pub used : r.used ≡ size
  pub ready : K r.going marks elapsed sizes

-- the same, and the record is ready
abbrev pub Steps : Step → ℕ → Went → List ℕ → List ℕ → List ℕ → Text → Text → Type 0
Steps = StepsWith Ready
