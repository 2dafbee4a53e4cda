-- A moment's stamp is due at that moment, and the moment at which a stamp is due has that stamp. Assumes nothing.
use Rattle.std.proofs.Common.{◌≡◌, ℕ, ◌+◌, ◌%◌, ◌^◌, ◌<◌, ltb, leb, arith, ltb-false, le-ltb, leb-false}
use borrow.Author.Tests.{lt-leb}
use Rattle.fields.proofs.Choosing as choosing
use Rattle.clock.specs.Clock.{past, stamp_of, due_at}
use Rattle.clock.proofs.Wrapping.{past_back, past_only}
use Rattle.std.specs.Prelude.{Ok, Err}
use Rattle.units.specs.declared.refusals.Refusal.TheVariants.{PeriodOver, StampTooHigh}

-- an accepted moment is less than 60,000 ticks past the start, and its stamp says how many
pub stamp_is : (start tick n : ℕ) → stamp_of start tick ≡ Ok n → (n < 60000) × (past tick start ≡ n)
unfolding stamp_of
stamp_is start tick n e =
    let s = choosing.past (Err PeriodOver) (Ok (past tick start)) (Ok n) (leb 60000 (past tick start))
    (λ w. let z : ◌≡◌ {A = ℕ} 0 1 = cc in omega arith) e in
    let q : past tick start ≡ n = cc in
    (omega (arith, leb-false 60000 (past tick start) s.0), q)

pub stamp_due : (start tick n : ℕ) → tick < 2 ^ 32 → start < 2 ^ 32 → stamp_of start tick ≡ Ok n → due_at start n ≡ Ok tick
unfolding due_at
stamp_due start tick n h k e =
    let s = stamp_is start tick n e in
    rw (le-ltb 59999 n (omega arith), ← s.1, past_back tick start h k)

pub due_stamp : (start tick n : ℕ) → start < 2 ^ 32 → due_at start n ≡ Ok tick → stamp_of start tick ≡ Ok n
unfolding due_at stamp_of
due_stamp start tick n k e =
    let s = choosing.past (Err StampTooHigh) (Ok ((start + n) % 2 ^ 32)) (Ok tick) (ltb 59999 n)
    (λ w. let z : ◌≡◌ {A = ℕ} 0 1 = cc in omega arith) e in
    let h = ltb-false 59999 n s.0 in
    let q : (start + n) % 2 ^ 32 ≡ tick = cc in
    rw (← past_only n tick start (omega arith) k (omega arith), lt-leb 60000 n (omega arith))
