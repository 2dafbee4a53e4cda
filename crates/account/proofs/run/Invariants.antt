-- What `account::run` keeps: the record is as it has to be, and the turns so far told the program's text as far as they went.
use Rattle.std.proofs.Common.{take}
use Rattle.printout.specs.Stepping.{between_in}
use Rattle.account.proofs.Started.{Loop}
use Rattle.account.proofs.WholeRun.{SoFar}
use Rattle.account.proofs.run.Given as goal

abbrev pub invariant-loop : goal.invariant-loop
invariant-loop g l = record {
  kept : Loop l.initial.marks l.initial.elapsed l.initial.sizes l.initial.input l.initial.out l.marks l.elapsed l.sizes l.input l.out l.going l.have;
  so_far : SoFar (g.R.Read.remaining l.initial.from) (g.W.Write.contents l.initial.to) (between_in l.going l.marks l.elapsed l.sizes) (take l.have l.input) (g.R.Read.remaining l.from) (g.W.Write.contents l.to);
}
