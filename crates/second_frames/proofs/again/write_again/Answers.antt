-- `second_frames::again::write_again` meets its contract. Assumes nothing.
use Rattle.std.proofs.Common.{sym, ◌∙◌}
use Rattle.frame.proofs.OnePaper.{read_known}
use Rattle.frame.proofs.Said.{data_said}
use Rattle.second_frames.proofs.again.write_again.Goals as goal

pub write_data_again-requires : goal.write_data_again-requires
write_data_again-requires c =
    let d = data_said _ _ (sym (read_known c.read_frame.result _ c.read_frame.ensures) ∙ c.in-Data.is) in
    d.least
