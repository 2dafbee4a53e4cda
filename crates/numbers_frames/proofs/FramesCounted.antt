-- How many octets a frame has fits one number, and how answers about frames meet the promises. Assumes nothing.
use Prim.Native.Nat.{ℕ, ◌+◌, ◌≤◌}
use mathlib.Core.Path.{◌≡◌, ap, ◌∙◌}
use mathlib.Core.Bool.{false}
use mathlib.Core.List.{List}
use native.Mathlib.Omega.{arith}
use lib.ListN.{length}
use lib.Dec.{ltb, leb}
use borrow.Author.Tests.{ltb-false, leb-false}
use Rattle.units.specs.Limits.{last_stamp, most_payload}
use Rattle.fields.proofs.Tests.{or_false}
use Rattle.frame.specs.declared.ClosingPdu.{ClosingPdu}
use Rattle.frame.specs.Answers.{Written}
use Rattle.frame.specs.Counts.{data_wrong, closing_wrong, too_wide, given_wrong, list_wrong}
use Rattle.frame.specs.Layout.{filled}
use Rattle.frame.specs.Paper.{written_paper}
use Rattle.frame.specs.Writing.{write_data, write_closing, write_lengths}
use Rattle.writer.specs.Promise.{Wrote}
use Rattle.numbers.specs.Answers.{in_one}
use Rattle.numbers.proofs.InOne.{Few, lengths_few}
use Rattle.numbers_frames.specs.Writing.{Writes}
use Rattle.fields.proofs.Choosing.{tested}

pub wrote : (answer w : Written) (frame old new : List ℕ) (r : ℕ) → Wrote answer frame old w new → r ≡ in_one (written_paper w) → Writes answer frame old r new
wrote answer w frame old new r p e = record { says = e ∙ ap in_one p.says; leaves = p.leaves }

pub few_data : (stamp n e l room : ℕ) → Few (write_data stamp n e l room)
unfolding write_data written_paper
few_data stamp n e l room =
    tested Few _ _ (ltb last_stamp stamp) (λ _. omega arith)
    (λ _.
    tested Few _ _ (ltb most_payload l) (λ _. omega arith)
    (λ h.
    tested Few _ _ (data_wrong n e) (λ _. omega arith)
    (λ _. tested Few _ _ (ltb room (11 + l)) (λ _. omega arith) (λ _. omega (arith, ltb-false most_payload l h)))))

pub few_closing : (c : ClosingPdu) (room : ℕ) → Few (write_closing c room)
unfolding write_closing written_paper
few_closing c room =
    tested Few _ _ (ltb last_stamp c.stamp) (λ _. omega arith)
    (λ _.
    tested Few _ _ (given_wrong c) (λ _. omega arith)
    (λ _. tested Few _ _ (ltb room 18) (λ _. omega arith) (λ _. omega arith)))

given_few : (c : ClosingPdu) → given_wrong c ≡ false → c.number.0 ≤ 65535
unfolding given_wrong too_wide
given_few c w =
    let p = (or_false (too_wide c) (closing_wrong c) w).0 in
    let q = (or_false (leb 65536 c.number.0) _ p).0 in
    omega (arith, leb-false 65536 c.number.0 q)

pub few_lengths : (c : ClosingPdu) (ls : List ℕ) (room : ℕ) → Few (write_lengths c ls room)
unfolding write_lengths written_paper
few_lengths c ls room =
    tested Few _ _ (ltb last_stamp c.stamp) (λ _. omega arith)
    (λ _.
    tested Few _ _ (given_wrong c) (λ _. omega arith)
    (λ g.
    tested Few _ _ (list_wrong ls c.number.0 c.elapsed.0) (λ _. omega arith)
    (λ h.
    tested Few _ _ (ltb room (19 + filled (length ls))) (λ _. omega arith)
    (λ _. lengths_few ls c.number.0 c.elapsed.0 h (given_few c g)))))
