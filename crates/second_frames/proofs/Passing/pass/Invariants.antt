-- `second_frames::Passing::pass` meets its contract. Assumes nothing.
use Rattle.std.proofs.Common.{◌≤◌, length}
use Rattle.second_frames.proofs.Passing.pass.Given as goal

abbrev pub invariant-loop-frame : goal.invariant-loop-frame
invariant-loop-frame g l = length l.rest ≤ length l.input

abbrev pub decreases-loop-frame : goal.decreases-loop-frame
decreases-loop-frame g l = length l.rest
