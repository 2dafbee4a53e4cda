-- `lines::Text::put_fields` meets its contract: the word, and the numbers so far. Assumes nothing.
use Rattle.std.proofs.Common.{◌++◌, ◌+◌, ◌*◌, length, take}
use Rattle.lines.specs.Text.{fields_of}
use Rattle.lines.specs.Adding.{Adds}
use Rattle.lines.proofs.Text.put_fields.Given as goal

abbrev pub invariant-loop-n : goal.invariant-loop-n
invariant-loop-n l = Adds (l.word ++ fields_of (take l.n-index l.numbers)) (length l.word + 21 * l.n-index) l.fn.self l.self
