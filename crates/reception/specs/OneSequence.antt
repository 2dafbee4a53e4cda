-- What a record holds of one sending, and the hearing of parts of it one after another (document 01, "If an empty record hears only
-- frames of one sequence"). Assumes nothing.
use Rattle.std.specs.Prelude.{ℕ, ◌<◌, ◌≡◌, Bool, true, false, cond, ◌||◌, List, [], ◌∷◌, eqb, length, get_or, take}
use Rattle.frame.specs.Counts.{sum_of}
use Rattle.reception.specs.Sendings.{Held}
use Rattle.reception.specs.Adding.{with_packet, with_closing}

-- a frame of a sequence: a packet by its number, or the closing
pub data Part : Type 0 where
  Packet : ℕ → Part
  Closing : Part

-- the record with that frame of the sending s added
abbrev pub add_part : Held → List ℕ → Part → Held
add_part r s (Packet k) = with_packet r k (sum_of (take k s)) (get_or s k 0)
add_part r s Closing = with_closing r (length s) (sum_of s)

-- and with some, in the order in which they came
unfoldable pub add_parts : Held → List ℕ → List Part → Held
add_parts r s [] = r
add_parts r s (p ∷ ps) = add_parts (add_part r s p) s ps

-- a part is packet k
abbrev pub is_packet : ℕ → Part → Bool
is_packet k (Packet j) = eqb k j
is_packet k Closing = false

-- it is the closing
abbrev pub is_closing : Part → Bool
is_closing (Packet j) = false
is_closing Closing = true

-- packet k was among the parts
unfoldable pub came : ℕ → List Part → Bool
came k [] = false
came k (p ∷ ps) = is_packet k p || came k ps

-- the closing was
unfoldable pub closing_came : List Part → Bool
closing_came [] = false
closing_came (p ∷ ps) = is_closing p || closing_came ps

-- what a record of capacity c holds of s, from which parts came alone
abbrev pub holding : ℕ → List ℕ → List Part → Held
holding c s ps =
    record {
      capacity = c;
      mark = λ k. cond (came k ps) 1 0;
      elapsed = λ k. cond (came k ps) (sum_of (take k s)) 0;
      size = λ k. cond (came k ps) (get_or s k 0) 0;
      closed = closing_came ps;
      count = cond (closing_came ps) (length s) 0;
      total = cond (closing_came ps) (sum_of s) 0;
    }

-- every packet that came is one of s
abbrev pub PartsOf : List ℕ → List Part → Type 0
PartsOf s ps = (k : ℕ) → came k ps ≡ true → k < length s
