-- A part of an account: the figures of a report. Assumes nothing.
use Rattle.std.specs.Prelude.{ℕ, List, [], ◌∷◌, ◌++◌}
use Rattle.lines.specs.Text.{line}
use Rattle.reception.specs.declared.Report.{Report}
use Rattle.telling.specs.Account.{sent_word, heard_word, missing_word}

-- the lines of what was sent, heard and missing
unfoldable pub figures_of : Report → List ℕ
figures_of r =
    line sent_word (r.sent.0 ∷ r.sent_octets.0 ∷ [])
    ++ line heard_word (r.heard.0 ∷ r.heard_octets.0 ∷ [])
    ++ line missing_word (r.missing.0 ∷ r.missing_octets.0 ∷ [])
