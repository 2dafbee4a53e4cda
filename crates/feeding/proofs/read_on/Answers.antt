-- `feeding::read_on`: one read more.
use Rattle.std.proofs.Common.{◌≡◌, ◌+◌, sym, add-zero, ◌∙◌}
use Rattle.std.specs.Result.{result_unwrap_or}
use Rattle.feeding.proofs.ReadBehind.{one_read}
use Rattle.feeding.proofs.read_on.Goals as goal
use Rattle.feeding.proofs.read_on.Goals.{in-Ok, in-Err+else-not-try_again}

pub loop-preserved : goal.loop-preserved
loop-preserved g c =
    let n : c.match-read.filled ≡ c.loop.filled + result_unwrap_or c.read.result 0 =
    elim c.match-read.branch [
      | in-Ok w ↦ rw w.in-Ok.is w.filled-is
      | in-Err+else-not-try_again w ↦ rw w.in-Err.is (w.filled-is ∙ sym (add-zero c.loop.filled))
    ] in
    one_read _ _ c.read.result c.loop.invariant c.read.ensures.bound c.read.ensures.bytes n
