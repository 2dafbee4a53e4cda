-- Parts of one sending never contradict the record that heard others of them, whatever came, in which order and how often; and what the
-- record holds depends only on which came. Assumes nothing.
use Prim.Native.Nat.{ℕ, ◌≤◌, ◌<◌}
use mathlib.Core.Path.{◌≡◌, refl, sym, ap, ◌∙◌}
use mathlib.Core.Bool.{Bool, true, false, cond, ◌||◌, false≢true}
use mathlib.Core.List.{List, [], ◌∷◌}
use native.Mathlib.Omega.{arith}
use lib.Dec.{eqb}
use lib.ListN.{length, get_or, take}
use borrow.Author.Tests.{eqb-true, eq-eqb}
use Rattle.frame.specs.Counts.{sum_of}
use Rattle.reception.specs.Sendings.{Held, Sending, Sent, Whole, Explains}
use Rattle.reception.specs.Adding.{empty_record, packet_contradicts, closing_contradicts}
use Rattle.reception.specs.OneSequence.{Part, add_part, add_parts, came, closing_came, holding, PartsOf}
use Rattle.reception.specs.OneSequence.Part.{Packet, Closing}
use Rattle.fields.proofs.Choosing.{pick_same}
use Rattle.fields.proofs.Tests.{or_true}
use Rattle.reception.proofs.ContradictsExactly.{explains_added, explains_closed, agreeing_packet, agreeing_closing}

-- a packet of s, and the whole of s
pub sent_at : (s : List ℕ) (k : ℕ) → k < length s → Sent s k (sum_of (take k s)) (get_or s k 0)
sent_at s k lt = record { within = lt; length_is = refl; before_is = refl }

pub whole_of : (s : List ℕ) → Whole s (length s) (sum_of s)
whole_of s = record { count_is = refl; total_is = refl }

-- an empty record is explained by every sending
pub explains_empty : (c : ℕ) (s : List ℕ) → Sending s → Explains (empty_record c) s
explains_empty c s h =
    record {
      sending = h;
      packets = λ k q. let none : ◌≡◌ {A = ℕ} 0 1 = q.marked in absurd (omega (arith, none));
      closing = λ t. absurd (false≢true t);
    }

-- the sending explains whatever was heard of it
pub explains_parts : (r : Held) (s : List ℕ) (ps : List Part) → Explains r s → PartsOf s ps → Explains (add_parts r s ps) s
unfolding add_parts came
explains_parts r s [] h q = h
explains_parts r s (Packet k ∷ ps) h q =
    explains_parts (add_part r s (Packet k)) s ps (explains_added r k _ _ s h (sent_at s k (q k (rw (eq-eqb k k refl)))))
    (λ j c. q j (rw c (or_true (eqb j k))))
explains_parts r s (Closing ∷ ps) h q = explains_parts (add_part r s Closing) s ps (explains_closed r _ _ s h (whole_of s)) q

keeps_capacity : (r : Held) (s : List ℕ) (ps : List Part) → (add_parts r s ps).capacity ≡ r.capacity
unfolding add_parts
keeps_capacity r s [] = refl
keeps_capacity r s (Packet k ∷ ps) = keeps_capacity (add_part r s (Packet k)) s ps
keeps_capacity r s (Closing ∷ ps) = keeps_capacity (add_part r s Closing) s ps

-- no packet of it contradicts after any parts of it, in any order
pub packet_never_refused : (c : ℕ) (s : List ℕ) (ps : List Part) (k : ℕ) → Sending s → length s ≤ c → PartsOf s ps → k < length s
    → packet_contradicts (add_parts (empty_record c) s ps) k (sum_of (take k s)) (get_or s k 0) ≡ false
packet_never_refused c s ps k h le q lt =
    agreeing_packet (add_parts (empty_record c) s ps) k _ _ s (omega (arith, keeps_capacity (empty_record c) s ps))
    (explains_parts (empty_record c) s ps (explains_empty c s h) q) (sent_at s k lt)

-- nor does its closing
pub closing_never_refused : (c : ℕ) (s : List ℕ) (ps : List Part) → Sending s → PartsOf s ps
    → closing_contradicts (add_parts (empty_record c) s ps) (length s) (sum_of s) ≡ false
closing_never_refused c s ps h q =
    agreeing_closing (add_parts (empty_record c) s ps) _ _ s (explains_parts (empty_record c) s ps (explains_empty c s h) q) (whole_of s)

pick_or : {A : Type 0} (a b : Bool) (x y : A) → cond (a || b) x y ≡ cond b x (cond a x y)
pick_or true true x y = refl
pick_or true false x y = refl
pick_or false b x y = refl

-- f at another number where the two are one
own : (f : ℕ → ℕ) (j k y : ℕ) → cond (eqb k j) (f j) y ≡ cond (eqb k j) (f k) y
own f j k y = go (eqb k j) refl
  where
    go : (b : Bool) → eqb k j ≡ b → cond (eqb k j) (f j) y ≡ cond (eqb k j) (f k) y
    go true t = let same = eqb-true k j t in rw (t, same) refl
    go false t = rw t

-- one of the three numbers of a place, after parts of s: f of the place if it came
at_place : (s : List ℕ) (get : Held → ℕ → ℕ) (f : ℕ → ℕ)
    → ((r : Held) (j k : ℕ) → get (add_part r s (Packet j)) k ≡ cond (eqb k j) (f j) (get r k))
    → ((r : Held) (k : ℕ) → get (add_part r s Closing) k ≡ get r k) → (r : Held) (ps : List Part) (k : ℕ)
    → get (add_parts r s ps) k ≡ cond (came k ps) (f k) (get r k)
unfolding add_parts came
at_place s get f one other r [] k = refl
at_place s get f one other r (Packet j ∷ ps) k =
    at_place s get f one other (add_part r s (Packet j)) ps k
    ∙ ap (λ (y : ℕ). cond (came k ps) (f k) y) (one r j k ∙ own f j k (get r k))
    ∙ sym (pick_or (eqb k j) (came k ps) (f k) (get r k))
at_place s get f one other r (Closing ∷ ps) k =
    at_place s get f one other (add_part r s Closing) ps k ∙ ap (λ (y : ℕ). cond (came k ps) (f k) y) (other r k)

-- one of the closing's, likewise
at_end : {A : Type 0} (s : List ℕ) (get : Held → A) (v : A) → ((r : Held) (j : ℕ) → get (add_part r s (Packet j)) ≡ get r)
    → ((r : Held) → get (add_part r s Closing) ≡ v) → (r : Held) (ps : List Part) → get (add_parts r s ps) ≡ cond (closing_came ps) v (get r)
unfolding add_parts closing_came
at_end s get v other one r [] = refl
at_end s get v other one r (Packet j ∷ ps) =
    at_end s get v other one (add_part r s (Packet j)) ps ∙ ap (λ y. cond (closing_came ps) v y) (other r j)
at_end s get v other one r (Closing ∷ ps) =
    at_end s get v other one (add_part r s Closing) ps ∙ ap (λ y. cond (closing_came ps) v y) (one r) ∙ pick_same (closing_came ps) v

-- the record depends only on which frames were heard
pub only_which_came : (c : ℕ) (s : List ℕ) (ps : List Part) → add_parts (empty_record c) s ps ≡ holding c s ps
only_which_came c s ps =
    λ i.
    record {
      capacity = keeps_capacity (empty_record c) s ps i;
      mark = λ k. at_place s (λ (r : Held). r.mark) (λ _. 1) (λ r j k. refl) (λ r k. refl) (empty_record c) ps k i;
      elapsed = λ k. at_place s (λ (r : Held). r.elapsed) (λ k. sum_of (take k s)) (λ r j k. refl) (λ r k. refl) (empty_record c) ps k i;
      size = λ k. at_place s (λ (r : Held). r.size) (λ k. get_or s k 0) (λ r j k. refl) (λ r k. refl) (empty_record c) ps k i;
      closed = (at_end s (λ (r : Held). r.closed) true (λ r j. refl) (λ r. refl) (empty_record c) ps ∙ as_it_is (closing_came ps)) i;
      count = at_end s (λ (r : Held). r.count) (length s) (λ r j. refl) (λ r. refl) (empty_record c) ps i;
      total = at_end s (λ (r : Held). r.total) (sum_of s) (λ r j. refl) (λ r. refl) (empty_record c) ps i;
    }
  where
    as_it_is : (b : Bool) → cond b true false ≡ b
    as_it_is true = refl
    as_it_is false = refl
