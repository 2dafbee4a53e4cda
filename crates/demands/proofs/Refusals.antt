-- Demand 1 of reading, writing and the clock: a refusal carries one of its call's numbers, and nothing lent differs after it. Assumes
-- nothing.
use Prim.Native.Nat.{ℕ, zero, suc, ◌+◌}
use native.Mathlib.Omega.{arith}
use mathlib.Core.Path.{◌≡◌, refl, sym, ap, ◌∙◌}
use mathlib.Core.Bool.{Bool, true, false, ◌&&◌, ◌||◌, false≢true}
use mathlib.Core.List.{List, [], ◌∷◌, ◌++◌}
use lib.Dec.{ltb, leb, eqb}
use lib.ListN.{length}
use Rattle.units.specs.Limits.{last_stamp, most_payload}
use Rattle.units.specs.Refusals.{number_of, refusals}
use Rattle.fields.proofs.Choosing.{whichever}
use Rattle.fields.proofs.Tests.{both, and_yes}
use Rattle.clock.specs.Answers.{Moment, DueTime}
use Rattle.clock.specs.Clock.{past, stamp_of as momentOf, due_at}
use Rattle.clock.specs.Paper.{moment_paper, due_paper}
use Rattle.frame.specs.declared.ClosingPdu.{ClosingPdu}
use Rattle.frame.specs.declared.Read.{Read}
use Rattle.frame.specs.declared.Read.TheVariants.{Closing, Data, ClosingWithLengths, Refused as NotRead}
use Rattle.frame.specs.Answers.{Listed, Written}
use Rattle.frame.specs.Paper.{CountPaper, read_paper, listed_paper, written_paper}
use Rattle.frame.specs.Listing.{list_lengths, listed}
use Rattle.frame.specs.Counts.{data_wrong, given_wrong, list_wrong}
use Rattle.frame.specs.Layout.{type_of, stamp_of, control, least, filled}
use Rattle.frame.specs.Reading.{length_wrong, check_wrong, counts_wrong, header_wrong, said, read_frame, read_headed, read_body}
use Rattle.frame.specs.Writing.{write_data, write_closing, write_lengths, after}
use Rattle.reader.specs.Lists.{Lists}
use Rattle.writer.specs.Promise.{Wrote}
use Rattle.demands.specs.Demand1.{among, carries, carries_as, of_reading, of_lengths, of_writing_data, of_writing_closing, of_writing_lengths, of_stamp, of_due, WritesOn}
use Rattle.std.specs.Prelude.{Ok, Err}

-- reading
abbrev ReadCarries : Read → Type 0
ReadCarries x = carries of_reading (read_paper x).number (read_paper x).found (read_paper x).worked (read_paper x).kind ≡ true

said_carries : (t : ℕ) (s : List ℕ) → ReadCarries (said t s)
unfolding read_paper
said_carries zero s = refl
said_carries (suc zero) s = refl
said_carries (suc (suc t)) s = refl

body_carries : (t : ℕ) (s : List ℕ) → ReadCarries (read_body t s)
unfolding read_body read_paper among
body_carries t s =
    whichever ReadCarries _ _ (length_wrong t s) refl
    (λ _. whichever ReadCarries _ _ (check_wrong t s) refl (λ _. whichever ReadCarries _ _ (counts_wrong t s) refl (λ _. said_carries t s)))

headed_carries : (t : ℕ) (s : List ℕ) → ReadCarries (read_headed t s)
unfolding read_headed read_paper among
headed_carries t s =
    whichever ReadCarries _ _ (header_wrong (control t) s) refl (λ _. whichever ReadCarries _ _ (ltb last_stamp (stamp_of s)) refl (λ _. body_carries t s))

pub read_carries : (s : List ℕ) → ReadCarries (read_frame s)
unfolding read_frame read_paper among
read_carries s =
    whichever ReadCarries _ _ (eqb (length s) 0) refl
    (λ _.
    whichever ReadCarries _ _ (eqb (type_of s) 2) refl
    (λ _.
    whichever ReadCarries _ _ (ltb 3 (type_of s)) refl
    (λ _. whichever ReadCarries _ _ (ltb (length s) (least (type_of s))) refl (λ _. headed_carries (type_of s) s))))

-- what was accepted was not refused
pub no_zero : {A : Type 0} → ◌≡◌ {A = ℕ} 1 0 → A
no_zero e = absurd (omega (arith, e))

abbrev pub accepted_of : CountPaper → ℕ
accepted_of p = p.accepted

-- one of some numbers is one of more
pub among_more : (xs ys : List ℕ) (n : ℕ) → among xs n ≡ true → among (xs ++ ys) n ≡ true
unfolding among
among_more [] ys n e = absurd (false≢true e)
among_more (x ∷ xs) ys n e = go (eqb x n) (among_more xs ys n) e
  where
    go : (t : Bool) → (among xs n ≡ true → among (xs ++ ys) n ≡ true) → (t || among xs n) ≡ true → (t || among (xs ++ ys) n) ≡ true
    go true h q = refl
    go false h q = h q

-- lengths
abbrev ListCarries : Listed → Type 0
ListCarries x = carries_as of_lengths (listed_paper x) ≡ true

listed_carries : (x : Read) (room : ℕ) → ReadCarries x → ListCarries (list_lengths x room)
unfolding list_lengths read_paper listed_paper among
listed_carries (NotRead r) room c =
    let q = both (among of_reading (number_of r) && among refusals (number_of r)) _ c in
    let p = both (among of_reading (number_of r)) _ q.0 in
    and_yes (and_yes (among_more of_reading (12 ∷ []) (number_of r) p.0) p.1) q.1
listed_carries (Closing p) room c = refl
listed_carries (Data d) room c = refl
listed_carries (ClosingWithLengths p) room c = whichever ListCarries _ _ (ltb room p.number.0) refl (λ _. refl)

none_listed : (a : Listed) (s old : List ℕ) → (listed_paper a).accepted ≡ 0 → listed a s old ≡ old
unfolding listed_paper listed
none_listed (Ok n) s old e = no_zero e
none_listed (Err r) s old e = refl

pub lists_carry : (s old : List ℕ) (r : Listed) (new : List ℕ) → Lists s old r new → WritesOn of_lengths (listed_paper r) old new
lists_carry s old r new w = (
  rw w.says (listed_carries (read_frame s) (length old) (read_carries s)),
  λ z. w.leaves ∙ none_listed (list_lengths (read_frame s) (length old)) s old (sym (ap accepted_of w.says) ∙ z),
)

-- writing
abbrev pub WriteCarries : List ℕ → Written → Type 0
WriteCarries numbers a = carries_as numbers (written_paper a) ≡ true

pub none_written : (a : Written) (frame old : List ℕ) → (written_paper a).accepted ≡ 0 → after a frame old ≡ old
unfolding written_paper after
none_written (Ok n) frame old e = no_zero e
none_written (Err r) frame old e = refl

pub writes : (numbers : List ℕ) (a : Written) (frame old : List ℕ) (r : Written) (new : List ℕ) → WriteCarries numbers a → Wrote a frame old r new
    → WritesOn numbers (written_paper r) old new
writes numbers a frame old r new c w = (
  rw w.says c,
  λ z. w.leaves ∙ none_written a frame old (sym (ap accepted_of w.says) ∙ z),
)

pub data_carries : (stamp n e l room : ℕ) → WriteCarries of_writing_data (write_data stamp n e l room)
unfolding write_data written_paper among
data_carries stamp n e l room =
    whichever (WriteCarries of_writing_data) _ _ (ltb last_stamp stamp) refl
    (λ _.
    whichever (WriteCarries of_writing_data) _ _ (ltb most_payload l) refl
    (λ _.
    whichever (WriteCarries of_writing_data) _ _ (data_wrong n e) refl
    (λ _. whichever (WriteCarries of_writing_data) _ _ (ltb room (11 + l)) refl (λ _. refl))))

pub closing_carries : (c : ClosingPdu) (room : ℕ) → WriteCarries of_writing_closing (write_closing c room)
unfolding write_closing written_paper among
closing_carries c room =
    whichever (WriteCarries of_writing_closing) _ _ (ltb last_stamp c.stamp) refl
    (λ _. whichever (WriteCarries of_writing_closing) _ _ (given_wrong c) refl (λ _. whichever (WriteCarries of_writing_closing) _ _ (ltb room 18) refl (λ _. refl)))

pub lengths_carry : (c : ClosingPdu) (ls : List ℕ) (room : ℕ) → WriteCarries of_writing_lengths (write_lengths c ls room)
unfolding write_lengths written_paper among
lengths_carry c ls room =
    whichever (WriteCarries of_writing_lengths) _ _ (ltb last_stamp c.stamp) refl
    (λ _.
    whichever (WriteCarries of_writing_lengths) _ _ (given_wrong c) refl
    (λ _.
    whichever (WriteCarries of_writing_lengths) _ _ (list_wrong ls c.number.0 c.elapsed.0) refl
    (λ _. whichever (WriteCarries of_writing_lengths) _ _ (ltb room (19 + filled (length ls))) refl (λ _. refl))))

-- the clock
abbrev MomentCarries : Moment → Type 0
MomentCarries x = carries of_stamp (moment_paper x).number (moment_paper x).found (moment_paper x).worked (moment_paper x).accepted ≡ true

pub moment_carries : (start tick : ℕ) → MomentCarries (momentOf start tick)
unfolding momentOf moment_paper among
moment_carries start tick = whichever MomentCarries _ _ (leb 60000 (past tick start)) refl (λ _. refl)

abbrev DueCarries : DueTime → Type 0
DueCarries x = carries of_due (due_paper x).number (due_paper x).found (due_paper x).worked (due_paper x).accepted ≡ true

pub due_carries : (start stamp : ℕ) → DueCarries (due_at start stamp)
unfolding due_at due_paper among
due_carries start stamp = whichever DueCarries _ _ (ltb last_stamp stamp) refl (λ _. refl)
