-- Numbers that C and Rust lend are of 64 bits; some of them must fit 32. Assumes nothing.
use Rattle.std.specs.Prelude.{ℕ}

-- the largest number of 32 bits
abbrev pub widest : ℕ
widest = 4294967295
