-- `checks::payload_check` meets its contract: the word stands for all octets, and its end is their check. Assumes nothing.
use mathlib.Core.Path.{◌≡◌}
use native.Mathlib.Omega.{arith}
use lib.ListN.{length}
use Rattle.std.proofs.lemmas.Bool.Decides.{nat_tests}
use Rattle.checks.proofs.Rows.{check_none}
use Rattle.checks.proofs.ShortSums.{payload}
use Rattle.checks.proofs.payload_check.Goals as goal

pub returns-then-is_empty : goal.returns-then-is_empty
returns-then-is_empty c =
    let s = c.args.s.now in
    let none : length s ≡ 0 = grind (arith, nat_tests) in
    check_none payload s none
