-- Given counts and lengths that writing does not refuse: what they then fit, and how many octets packed lengths fill.
-- Assumes nothing.
use Prim.Native.Nat.{ℕ, ◌^◌, ◌≤◌, ◌<◌}
use mathlib.Core.Path.{◌≡◌, refl}
use mathlib.Core.List.{List, [], ◌∷◌}
use mathlib.Core.Bool.{false, not}
use native.Mathlib.Omega.{arith}
use lib.ListN.{length}
use lib.Dec.{eqb, ltb, leb}
use borrow.Author.Tests.{ltb-false, leb-false, eqb-true, not-false}
use Rattle.units.specs.Limits.{most_payload}
use Rattle.fields.specs.Numbers.{octets}
use Rattle.frame.specs.declared.ClosingPdu.{ClosingPdu}
use Rattle.frame.specs.Layout.{filled}
use Rattle.frame.specs.Counts.{closing_wrong, too_wide, given_wrong, any_above, sum_of, list_wrong}
use Rattle.frame.specs.Writing.{packed}
use Rattle.fields.proofs.Tests.{or_false}

-- each count fits its field, and none is impossible
pub record Fits (c : ClosingPdu) : Type 0 where
  pub number : c.number.0 < 2 ^ 16
  pub elapsed : c.elapsed.0 < 2 ^ 32
  pub packets : c.packets.0 < 2 ^ 24
  pub octets : c.octets.0 < 2 ^ 40
  pub counts : closing_wrong c ≡ false

pub given_fits : (c : ClosingPdu) → given_wrong c ≡ false → Fits c
unfolding given_wrong too_wide
given_fits c w =
    let p = or_false (too_wide c) (closing_wrong c) w in
    let p1 = or_false (leb (2 ^ 16) c.number.0) _ p.0 in
    let p2 = or_false (leb (2 ^ 32) c.elapsed.0) _ p1.1 in
    let p3 = or_false (leb (2 ^ 24) c.packets.0) (leb (2 ^ 40) c.octets.0) p2.1 in
    record {
      number = leb-false (2 ^ 16) c.number.0 p1.0;
      elapsed = leb-false (2 ^ 32) c.elapsed.0 p2.0;
      packets = leb-false (2 ^ 24) c.packets.0 p3.0;
      octets = leb-false (2 ^ 40) c.octets.0 p3.1;
      counts = p.1;
    }

-- N lengths, none above 4,095, with the elapsed octets as their sum
pub list_right : (ls : List ℕ) (n e : ℕ) → list_wrong ls n e ≡ false → (length ls ≡ n) × (any_above ls ≡ false) × (sum_of ls ≡ e)
unfolding list_wrong
list_right ls n e w =
    let p1 = or_false (not (eqb (length ls) n)) _ w in
    let p2 = or_false (any_above ls) (not (eqb (sum_of ls) e)) p1.1 in
    (eqb-true (length ls) n (not-false (eqb (length ls) n) p1.0), p2.0, eqb-true (sum_of ls) e (not-false (eqb (sum_of ls) e) p2.1))

pub above_head : (a : ℕ) (ls : List ℕ) → any_above (a ∷ ls) ≡ false → (a ≤ most_payload) × (any_above ls ≡ false)
unfolding any_above
above_head a ls h =
    let p = or_false (ltb most_payload a) (any_above ls) h in
    (ltb-false most_payload a p.0, p.1)

pub length_packed : (ls : List ℕ) → length (packed ls) ≡ filled (length ls)
unfolding packed octets
length_packed [] = refl
length_packed (a ∷ []) = refl
length_packed (a ∷ b ∷ ls) = omega (arith, length_packed ls)
