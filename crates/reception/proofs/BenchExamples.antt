-- Bench examples G and H, of a record that heard B (packet 0, of one octet), in every capacity that has the places and for every length of
-- the packet heard next. Assumes nothing.
use Prim.Native.Nat.{ℕ, zero, suc, ◌+◌, ◌≤◌, ◌<◌}
use mathlib.Core.Path.{◌≡◌, refl}
use mathlib.Core.Logic.{⊎_elim}
use mathlib.Core.Bool.{true, false}
use mathlib.Core.List.{List, [], ◌∷◌}
use native.Mathlib.Omega.{arith}
use lib.ListN.{length, get_or}
use Rattle.units.specs.Limits.{most_payload, most_capacity}
use Rattle.frame.specs.Counts.{sum_of}
use Rattle.reception.specs.Sendings.{Held, Sending, Sent, Explains}
use Rattle.reception.specs.Adding.{empty_record, with_packet, packet_contradicts}
use Rattle.reception.proofs.SumsBefore.{before, before_start, before_next, climb}
use Rattle.reception.proofs.Points.{all_short}
use Rattle.fields.proofs.Tests.{either}
use Rattle.reception.proofs.ContradictsExactly.{explains_added, added_explains, agreeing_packet, packet_agrees}
use Rattle.reception.proofs.AnyOrder.{explains_empty}

-- after hearing B
abbrev pub after_b : ℕ → Held
after_b c = with_packet (empty_record c) 0 0 1

-- one octet, then m, then l
three : (m l : ℕ) → List ℕ
three m l = 1 ∷ m ∷ l ∷ []

three_sending : (m l : ℕ) → m ≤ most_payload → l ≤ most_payload → Sending (three m l)
unfolding three
three_sending m l hm hl = record { few = omega arith; short = short }
  where
    short : (k : ℕ) → k < length (three m l) → get_or (three m l) k 0 ≤ most_payload
    short zero lt = omega arith
    short (suc zero) lt = hm
    short (suc (suc zero)) lt = hl
    short (suc (suc (suc k))) lt = omega arith

three_explains : (c m l : ℕ) → m ≤ most_payload → l ≤ most_payload → Explains (after_b c) (three m l)
unfolding three sum_of
three_explains c m l hm hl =
    explains_added (empty_record c) 0 0 1 (three m l) (explains_empty c _ (three_sending m l hm hl))
    (record { within = omega arith; length_is = refl; before_is = refl })

-- B itself is accepted by an empty record
pub B_accepted : (c : ℕ) → 0 < c → packet_contradicts (empty_record c) 0 0 1 ≡ false
unfolding three sum_of
B_accepted c lt =
    agreeing_packet (empty_record c) 0 0 1 (three 0 0) lt (explains_empty c _ (three_sending 0 0 (omega arith) (omega arith)))
    (record { within = omega arith; length_is = refl; before_is = refl })

-- packet 2 after m octets more than B's is accepted, where m is a length
third : (c m l : ℕ) → 3 ≤ c → m ≤ most_payload → l ≤ most_payload → packet_contradicts (after_b c) 2 (1 + m) l ≡ false
unfolding three sum_of
third c m l le hm hl =
    agreeing_packet (after_b c) 2 (1 + m) l (three m l) (omega arith) (three_explains c m l hm hl)
    (record { within = omega arith; length_is = refl; before_is = omega arith })

pub G_accepted : (c l : ℕ) → 3 ≤ c → l ≤ most_payload → packet_contradicts (after_b c) 2 1 l ≡ false
G_accepted c l le hl = third c 0 l le (omega arith) hl

pub H_accepted : (c l : ℕ) → 3 ≤ c → l ≤ most_payload → packet_contradicts (after_b c) 2 4096 l ≡ false
H_accepted c l le hl = third c 4095 l le (omega arith) hl

-- whatever explains the record after B has one octet before packet 1
one_before : (c : ℕ) (s : List ℕ) → 0 < c → Explains (after_b c) s → before s 1 ≡ 1
one_before c s lt h =
    let w = (added_explains (empty_record c) 0 0 1 s lt refl h).1 in
    omega (arith, before_next s 0, before_start s, w.length_is)

-- so a packet that no such sending has contradicts
refused : (c k e l : ℕ) → c ≤ most_capacity → k < c → ((s : List ℕ) → Explains (after_b c) s → Sent s k e l → ⊥)
    → packet_contradicts (after_b c) k e l ≡ true
refused c k e l fits lt never =
    ⊎_elim (λ t. t)
    (λ t.
    let x =
    packet_agrees (after_b c) k e l (record { capacity_fits = fits; count_fits = λ _. omega arith }) lt
    ((three 0 0), three_explains c 0 0 (omega arith) (omega arith)) t
    in
    absurd (never x.0 x.1 x.2))
    (either (packet_contradicts (after_b c) k e l))

pub G_refused : (c l : ℕ) → 3 ≤ c → c ≤ most_capacity → packet_contradicts (after_b c) 1 2 l ≡ true
G_refused c l le fits =
    refused c 1 2 l fits (omega arith) (λ s h w. let one = one_before c s (omega arith) h in let two = w.before_is in omega (arith, one, two))

pub H_refused : (c l : ℕ) → 3 ≤ c → c ≤ most_capacity → packet_contradicts (after_b c) 2 4097 l ≡ true
H_refused c l le fits =
    refused c 2 4097 l fits (omega arith)
    (λ s h w.
    let one = one_before c s (omega arith) h in
    let up = climb s (all_short s h.sending) 1 2 (omega arith) in
    omega (arith, one, w.before_is, up.1))
