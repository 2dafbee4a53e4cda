-- `second_frames::Passing::run` meets its contract. Assumes nothing.
use Rattle.std.proofs.Common.{◌≤◌, length}
use Rattle.second_frames.proofs.Passing.run.Given as goal

abbrev pub invariant-loop : goal.invariant-loop
invariant-loop g l = l.have ≤ length l.input
