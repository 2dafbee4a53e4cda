-- The gaps of an undamaged record put as lines one after another, as a loop goes. Assumes nothing.
use Prim.Native.Nat.{ℕ, ◌+◌, ◌*◌, ◌≤◌, ◌<◌}
use mathlib.Core.Path.{◌≡◌, refl, sym, ap, ◌∙◌}
use mathlib.Core.Bool.{cond}
use mathlib.Core.List.{List, [], ◌∷◌, ◌++◌, append_assoc}
use native.Mathlib.Omega.{arith}
use lib.ListN.{length}
use Rattle.units.specs.Limits.{most_capacity}
use Rattle.units.specs.declared.Octets.{Octets}
use Rattle.lines.specs.declared.Text.{Text}
use Rattle.lines.specs.Text.{line}
use Rattle.lines.specs.Adding.{Adds}
use Rattle.lines.proofs.Added.{adds_then, adds_in}
use Rattle.reception.specs.Sendings.{Held}
use Rattle.reception.specs.Reporting.{Gap, gap_to, gaps_of, sent_packets}
use Rattle.reception.proofs.ReportAccounts.{SentAs}
use Rattle.reporting.proofs.GapsLeft.{left, Going, going_start, all_left, next, going_heard, same, going_unheard, last_left}
use Rattle.telling.specs.Account.{gap_word, gap_lines}

-- the lines of gaps, and of more behind them
pub lines_append : (gs more : List Gap) → gap_lines (gs ++ more) ≡ gap_lines gs ++ gap_lines more
unfolding gap_lines
lines_append [] more = refl
lines_append (g ∷ gs) more =
    let l = line gap_word (g.first ∷ g.count ∷ g.octets ∷ []) in
    ap (λ (xs : List ℕ). l ++ xs) (lines_append gs more) ∙ sym (append_assoc l (gap_lines gs) (gap_lines more))

-- the loop is at place k: when the lines of the gaps that are left are put, then those of all stand from where it began
pub record Telling (r : Held) (n : ℕ) (text₀ text : Text) (i a k : ℕ) : Type 0 where
  pub going : Going r n i a k
  pub long : length text.out.now ≡ length text₀.out.now
  pub few : text.at ≤ text₀.at + 67 * k
  pub rest : (m : ℕ) (new : Text) → Adds (gap_lines (left r n k i a)) m text new → Adds (gap_lines (gaps_of r)) (67 * k + m) text₀ new

pub telling_start : (r : Held) (n : ℕ) (text : Text) → (s : List ℕ) × SentAs r s → r.capacity ≤ most_capacity → n ≡ sent_packets r
    → Telling r n text text 0 0 0
telling_start r n text x fits e =
    record {
      going = going_start r n e x fits;
      long = refl;
      few = omega arith;
      rest = λ m new p. adds_in (67 * 0 + m) (omega arith) (rw (all_left r n e) at p);
    }

module _ (r : Held) (n : ℕ) (text₀ text : Text) (i a k : ℕ) (g : Telling r n text₀ text i a k) where
  -- what is left begins with the gaps gs, and their lines were put
  behind : (gs more : List Gap) → left r n k i a ≡ gs ++ more → {l : ℕ} {text' : Text} → Adds (gap_lines gs) l text text'
      → (m : ℕ) (new : Text) → Adds (gap_lines more) m text' new → Adds (gap_lines (gaps_of r)) (67 * k + (l + m)) text₀ new
  behind gs more e {l} p m new q = g.rest (l + m) new (rw (e, lines_append gs more) (adds_then p q))

  module _ (lt : k < n) where
    -- packet k was heard, and the line of the gap before it was put
    pub heard_told : r.mark k ≡ 1 → (e l : ℕ) → e ≡ r.elapsed k → l ≡ r.size k → (text' : Text) → Adds (gap_lines (gap_to i a k e)) 67 text text'
        → Telling r n text₀ text' (k + 1) (e + l) (k + 1)
    heard_told t e l el ll text' p =
        record {
          going = going_heard r n i a k g.going lt t e l el ll;
          long = p.long ∙ g.long;
          few = omega (arith, g.few, p.within);
          rest = λ m new q.
              adds_in (67 * (k + 1) + m) (omega arith)
              (behind (gap_to i a k e) (left r n (k + 1) (k + 1) (e + l)) (next r n i a k g.going lt t e l el ll) p m new q);
        }

    -- or not
    pub unheard_told : (r.mark k ≡ 1 → ⊥) → Telling r n text₀ text i a (k + 1)
    unheard_told t =
        record {
          going = going_unheard r n i a k g.going lt t;
          long = g.long;
          few = omega (arith, g.few);
          rest = λ m new p. adds_in (67 * (k + 1) + m) (omega arith) (g.rest m new (rw (same r n i a k g.going lt t) p));
        }

  -- the loop is left, and the line of the gap before the end of what was sent was put
  pub all_told : n ≤ k → (total : Octets) → total ≡ record { 0 = cond r.closed r.total a } → (new : Text)
      → Adds (gap_lines (gap_to i a n total.0)) 67 text new → Adds (gap_lines (gaps_of r)) (67 * (n + 1)) text₀ new
  all_told le total q new p =
      adds_in (67 * (n + 1)) (omega (arith, g.going.here)) (g.rest 67 new (rw (last_left r n i a k g.going le total q) p))
