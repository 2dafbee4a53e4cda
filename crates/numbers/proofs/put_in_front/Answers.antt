-- `numbers::put_in_front` meets its contract. Assumes nothing.
use Rattle.fields.specs.Runs.{front}
use borrow.Author.Tests.{le-ltb}
use mathlib.Core.Path.{◌≡◌, refl}
use Prim.Native.Nat.{◌≤◌}
use lib.ListN.{length}
use Rattle.numbers.proofs.put_in_front.Goals as goal

pub returns-in-Some-clause-leaves : goal.returns-in-Some-clause-leaves
unfolding front
returns-in-Some-clause-leaves g c =
    let room : g.row.N ≤ length c.args.list.now = c.in-Some.ensures.variant.0 refl in
    let all : length c.args.numbers ≡ g.row.N = c.well_formed.1.0.1.0.1 in
    rw (le-ltb _ _ room, all) refl
