-- `reader::lengths::read_lengths` meets its contract, by what an accepted frame says of its lengths. Assumes nothing.
use mathlib.Core.Path.{◌≡◌, sym}
use mathlib.Core.List.{List}
use Prim.Native.Nat.{ℕ}
use lib.ListN.{length}
use borrow.Author.Tests.{le-ltb}
use Rattle.frame.specs.declared.Read.{Read}
use Rattle.frame.specs.Answers.{Listed}
use Rattle.frame.specs.Listing.{list_lengths, listed}
use Rattle.frame.specs.Paper.{listed_paper}
use Rattle.frame.specs.Reading.{read_frame}
use Rattle.frame.proofs.OnePaper.{read_known}
use Rattle.frame.proofs.Said.{lengths_said}
use Rattle.reader.specs.Lists.{Lists}
use Rattle.reader.proofs.lengths.read_lengths.Goals as goal

-- the promise, where the frame was read as x
lists : {s old : List ℕ} {r : Listed} {new : List ℕ} (x : Read) → x ≡ read_frame s
    → listed_paper r ≡ listed_paper (list_lengths x (length old)) → new ≡ listed (list_lengths x (length old)) s old → Lists s old r new
lists x e says leaves = record { says = rw (← e) says; leaves = rw (← e) leaves }

pub list-requires : goal.list-requires
list-requires c =
    let s = c.args.frame.now in
    let e = read_known _ (read_frame s) c.in-ClosingWithLengths.ensures in
    let d = lengths_said s c.in-ClosingWithLengths.c (λ i. (c.type_inv.frame i).fits) (sym e) in
    (d.closing.number, d.there, c.if-out-n.false)

pub returns-else-out-n : goal.returns-else-out-n
unfolding list_lengths listed
returns-else-out-n c =
    let h = le-ltb _ _ c.if-out-n.false in
    lists _ (read_known _ (read_frame c.args.frame.now) c.in-ClosingWithLengths.ensures) (simp h) (simp h c.list.ensures)
