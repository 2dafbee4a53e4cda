-- `passing::goes_on` meets its contract. Assumes nothing.
use borrow.Author.Tests.{lt-ltb, le-ltb}
use Rattle.passing.specs.Passing.{goes_on}
use Rattle.passing.proofs.goes_on.Goals as goal

pub returns-then-stops : goal.returns-then-stops
unfolding goes_on
returns-then-stops c = rw c.if-stops.true

pub returns-then-room-lt-MOST_TEXT : goal.returns-then-room-lt-MOST_TEXT
unfolding goes_on
returns-then-room-lt-MOST_TEXT c = rw (c.if-stops.false, lt-ltb _ _ c.if-room-lt-MOST_TEXT.true)

pub returns-then-ended : goal.returns-then-ended
unfolding goes_on
returns-then-ended c = rw (c.if-stops.false, le-ltb _ _ c.if-room-lt-MOST_TEXT.false, c.if-ended.true)

pub returns : goal.returns
unfolding goes_on
returns c = rw (c.if-stops.false, le-ltb _ _ c.if-room-lt-MOST_TEXT.false, c.if-ended.false)
