-- `printout::account_before` meets its contract. Assumes nothing.
use Rattle.lines.proofs.Added.{adds_none}
use Rattle.printout.specs.Printed.{most_text}
use Rattle.printout.proofs.account_before.Goals as goal

pub returns-in_default : goal.returns-in_default
returns-in_default c = rw c.in_default.is (adds_none c.args.text.now most_text)
