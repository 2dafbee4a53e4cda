-- What `feeding::read_on` keeps: each read stands behind those before it, and all of it is what the reader gave.
use Rattle.feeding.proofs.ReadBehind.{Reading}
use Rattle.feeding.proofs.read_on.Given as goal

abbrev pub invariant-loop : goal.invariant-loop
invariant-loop g l = Reading l.have l.initial.input (g.R.Read.remaining l.initial.from) (g.R.Read.remaining l.from) l.filled l.input
