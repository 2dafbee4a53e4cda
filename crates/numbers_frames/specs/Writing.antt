-- What writing a frame from given fields promises C and Rust: its answer in one number. Assumes nothing.
use Rattle.std.specs.Prelude.{ℕ, ◌≡◌, List}
use Rattle.frame.specs.declared.ClosingPdu.{ClosingPdu}
use Rattle.frame.specs.Answers.{Written}
use Rattle.frame.specs.Paper.{written_paper}
use Rattle.frame.specs.Writing.{after}
use Rattle.numbers.specs.Answers.{in_one}

-- the fields that are given for a closing PDU
abbrev pub closing_given : ℕ → ℕ → ℕ → ℕ → ℕ → ClosingPdu
closing_given stamp n e p t =
    record { stamp = stamp; number = record { 0 = n }; elapsed = record { 0 = e }; packets = record { 0 = p }; octets = record { 0 = t } }

-- the promise of a function that writes a frame into memory that held old
pub record Writes (answer : Written) (frame old : List ℕ) (r : ℕ) (new : List ℕ) : Type 0 where
  pub says : r ≡ in_one (written_paper answer)
  pub leaves : new ≡ after answer frame old
