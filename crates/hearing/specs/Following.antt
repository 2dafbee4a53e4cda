-- What goes on beside a record that is known to be undamaged: the places in which packets were heard, kept up frame by frame, and what
-- hearing the next frame promises. Assumes nothing.
use Rattle.std.specs.Prelude.{ℕ, ◌+◌, ◌≤◌, ◌<◌, min, max, ◌≡◌, ◌⊎◌, List, length, get_or, Ok, Err}
use Rattle.reception.specs.Answers.{Taken, Taking}
use Rattle.reception.specs.Hearing.{Outcome, Takes}
use Rattle.reception.specs.Neighbours.{NoneBefore, NoneFrom}
use Rattle.hearing.specs.declared.contradicting.Span.{Span}
use Rattle.hearing.specs.declared.following.Following.{Following}

-- the span with place k in it
abbrev pub with_place : Span → ℕ → Span
with_place s k = record { first = min k s.first; end = max (k + 1) s.end }

-- a span changes only by a packet that is taken
abbrev pub span_after : Taken → Span → ℕ → Span
span_after (Ok u) s k = with_place s k
span_after (Err x) s k = s

-- an answer about packet k, and the span after it
abbrev pub followed : Taking → Span → ℕ → Following
followed t s k = record { answer = t.answer; head = t.head; span = span_after t.answer s k }

-- the promise: that of hearing, and nothing was heard outside of the span
pub record Follows (t : Outcome) (r : Following) (marks elapsed sizes : List ℕ) : Type 0 where
  pub taken : Takes t (record { answer = r.answer; head = r.head }) marks elapsed sizes
  pub before : NoneBefore marks r.span.first
  pub from_end : NoneFrom marks r.span.end

-- a list of n places, with zeros before place k and from the place end on
pub record Cleared (n : ℕ) (s : List ℕ) (k end : ℕ) : Type 0 where
  pub long : length s ≡ n
  pub zeros : (j : ℕ) → (j < k) ⊎ (end ≤ j) → get_or s j 0 ≡ 0

-- "Unheard numbers hold zeros": outside of the span every place does
pub record ZerosOutside (s : Span) (marks elapsed sizes : List ℕ) : Type 0 where
  pub inside : s.end ≤ length marks
  pub marks_zero : Cleared (length marks) marks s.first s.end
  pub elapsed_zero : Cleared (length marks) elapsed s.first s.end
  pub sizes_zero : Cleared (length marks) sizes s.first s.end
