-- An answer is known from its number and values: no two answers have the same. Assumes nothing.
use Prim.Native.Nat.{ℕ, zero, suc}
use mathlib.Core.Path.{◌≡◌, refl, sym, ap, ◌∙◌}
use Rattle.frame.specs.declared.Read.{Read}
use Rattle.frame.specs.declared.Read.TheVariants.{Closing, Data, ClosingWithLengths, Refused as NotRead}
use Rattle.frame.specs.Answers.{Written, Listed}
use Rattle.frame.specs.declared.ClosingPdu.{ClosingPdu}
use Rattle.frame.specs.Paper.{ReadPaper, CountPaper, read_paper, written_paper, listed_paper}
use Rattle.std.specs.Prelude.{Ok, Err}
use Rattle.units.proofs.ToldByNumber.{refusal_with, told_again}

closing_from : ReadPaper → ClosingPdu
closing_from p =
    record {
      stamp = p.stamp;
      number = record { 0 = p.packet };
      elapsed = record { 0 = p.elapsed };
      packets = record { 0 = p.packets };
      octets = record { 0 = p.octets };
    }

-- the answer that a paper is of
read_from : ℕ → ReadPaper → Read
read_from zero p = NotRead (refusal_with p.number p.found p.worked)
read_from (suc zero) p = Closing (closing_from p)
read_from (suc (suc zero)) p =
    Data
    (record { stamp = p.stamp; number = record { 0 = p.packet }; elapsed = record { 0 = p.elapsed }; length = record { 0 = p.payload } })
read_from (suc (suc (suc k))) p = ClosingWithLengths (closing_from p)

read_from_lem : (a : Read) → read_from (read_paper a).kind (read_paper a) ≡ a
unfolding read_from closing_from read_paper
read_from_lem (Closing c) = refl
read_from_lem (Data d) = refl
read_from_lem (ClosingWithLengths c) = refl
read_from_lem (NotRead r) = ap NotRead (told_again r)

pub read_known : (a b : Read) → read_paper a ≡ read_paper b → a ≡ b
read_known a b e = sym (read_from_lem a) ∙ ap (λ (p : ReadPaper). read_from p.kind p) e ∙ read_from_lem b

written_from : ℕ → CountPaper → Written
written_from zero p = Err (refusal_with p.number p.found p.worked)
written_from (suc k) p = Ok p.count

written_from_lem : (a : Written) → written_from (written_paper a).accepted (written_paper a) ≡ a
unfolding written_from written_paper
written_from_lem (Ok n) = refl
written_from_lem (Err r) = ap Err (told_again r)

pub written_known : (a b : Written) → written_paper a ≡ written_paper b → a ≡ b
written_known a b e = sym (written_from_lem a) ∙ ap (λ (p : CountPaper). written_from p.accepted p) e ∙ written_from_lem b

listed_from : ℕ → CountPaper → Listed
listed_from zero p = Err (refusal_with p.number p.found p.worked)
listed_from (suc k) p = Ok (record { 0 = p.count })

listed_from_lem : (a : Listed) → listed_from (listed_paper a).accepted (listed_paper a) ≡ a
unfolding listed_from listed_paper
listed_from_lem (Ok n) = refl
listed_from_lem (Err r) = ap Err (told_again r)

pub listed_known : (a b : Listed) → listed_paper a ≡ listed_paper b → a ≡ b
listed_known a b e = sym (listed_from_lem a) ∙ ap (λ (p : CountPaper). listed_from p.accepted p) e ∙ listed_from_lem b
