-- A record with a frame added to it, and when the frame contradicts it (document 01, "The reception record"). Assumes nothing.
use Rattle.std.specs.Prelude.{ℕ, Bool, true, false, cond, not, ◌&&◌, eqb}
use Rattle.reception.specs.declared.Head.{Head}
use Rattle.reception.specs.Sendings.{Held}
use Rattle.reception.specs.Walk.{is_heard, is_explained}

-- nothing heard yet: "Unheard numbers hold zeros", and "without one, zeros" of the closing
abbrev pub empty_record : ℕ → Held
empty_record c = record { capacity = c; mark = λ k. 0; elapsed = λ k. 0; size = λ k. 0; closed = false; count = 0; total = 0 }

-- with packet k of l octets, before which were e
abbrev pub with_packet : Held → ℕ → ℕ → ℕ → Held
with_packet r k e l =
    record {
      capacity = r.capacity;
      mark = λ j. cond (eqb j k) 1 (r.mark j);
      elapsed = λ j. cond (eqb j k) e (r.elapsed j);
      size = λ j. cond (eqb j k) l (r.size j);
      closed = r.closed;
      count = r.count;
      total = r.total;
    }

-- with a closing of n packets and t octets
abbrev pub with_closing : Held → ℕ → ℕ → Held
with_closing r n t =
    record {
      capacity = r.capacity;
      mark = r.mark;
      elapsed = r.elapsed;
      size = r.size;
      closed = true;
      count = n;
      total = t;
    }

-- a head with that closing
abbrev pub closed_head : Head → ℕ → ℕ → Head
closed_head h n t =
    record {
      bearer = h.bearer;
      period = h.period;
      stamp = h.stamp;
      closed = true;
      count = record { 0 = n };
      total = record { 0 = t };
    }

-- a pair of numbers is another one
abbrev pub differ : ℕ → ℕ → ℕ → ℕ → Bool
differ a b c d = not (eqb a c && eqb b d)

-- "Hearing contradicts exactly if no sending explains the record with the frame added": a packet that is held with other octets, or
-- that makes a record of which the walk finds no sending
unfoldable pub packet_contradicts : Held → ℕ → ℕ → ℕ → Bool
packet_contradicts r k e l = cond (is_heard r k) (differ (r.elapsed k) (r.size k) e l) (not (is_explained (with_packet r k e l)))

-- and a closing likewise
unfoldable pub closing_contradicts : Held → ℕ → ℕ → Bool
closing_contradicts r n t = cond r.closed (differ r.count r.total n t) (not (is_explained (with_closing r n t)))
