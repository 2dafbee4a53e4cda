-- The clock (document 01, "Clock"): "Ticks of 10 ms, 32 bits, starting over after 4,294,967,295." Assumes nothing.
use Rattle.std.specs.Prelude.{ℕ, ◌+◌, ◌-◌, ◌%◌, ◌^◌, ℤ, pos, ◌-ℤ◌, nat_le, nat_lt, Ok, Err}
use Rattle.units.specs.Limits.{last_stamp}
use Rattle.fields.specs.Choice.{◌when◌otherwise◌}
use Rattle.clock.specs.Answers.{Moment, DueTime}
use Rattle.units.specs.declared.refusals.Refusal.TheVariants.{PeriodOver, StampTooHigh}

-- how far a tick is past another: "its tick less the period's start, modulo 2^32"
unfoldable pub past : ℕ → ℕ → ℕ
past tick start = (tick + 2 ^ 32 - start) % 2 ^ 32

-- "The stamp of a moment is its tick less the period's start"; refusal 23, "clock is 60,000 ticks or more past the period's start"
unfoldable pub stamp_of : ℕ → ℕ → Moment
stamp_of start tick =
    Err PeriodOver when nat_le 60000 (past tick start) otherwise
    Ok (past tick start)

-- "A frame is due at start plus stamp, modulo 2^32"; refusal 5, "stamp above 59,999"
unfoldable pub due_at : ℕ → ℕ → DueTime
due_at start stamp =
    Err StampTooHigh when nat_lt last_stamp stamp otherwise
    Ok ((start + stamp) % 2 ^ 32)

-- a distance modulo 2^32 as one "from -2,147,483,648 to 2,147,483,647"
unfoldable pub nearest : ℕ → ℤ
nearest d = pos d when nat_lt d (2 ^ 31) otherwise pos d -ℤ pos (2 ^ 32)

-- "Lateness is arrival less due, from -2,147,483,648 to 2,147,483,647, negative when early"
unfoldable pub late : ℕ → ℕ → ℤ
late arrival due = nearest (past arrival due)
