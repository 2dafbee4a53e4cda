-- How each answer meets the promise of hearing. Assumes nothing.
use Prim.Native.Nat.{ℕ, ◌≤◌, ◌<◌}
use mathlib.Core.Path.{◌≡◌, refl}
use mathlib.Core.Bool.{true, false}
use lib.ListN.{length}
use borrow.Author.Tests.{le-leb, lt-leb, lt-ltb, le-ltb}
use Rattle.frame.specs.declared.ClosingPdu.{ClosingPdu}
use Rattle.frame.specs.declared.DataPdu.{DataPdu}
use Rattle.reception.specs.Answers.{Taking}
use Rattle.reception.specs.Adding.{packet_contradicts, closing_contradicts}
use Rattle.reception.specs.Hearing.{Kept, held_by, Outcome, refuses, takes, keeps, other_key, keep_packet, keep_closing, hear_packet, hear_closing, Takes}
use Rattle.std.specs.Prelude.{Ok}
use Rattle.units.specs.declared.refusals.Refusal.TheVariants.{BeyondCapacity, Contradiction, OtherSequence}
use Rattle.units.specs.declared.refusals.Refusal.{Refusal}

-- a refusal
pub refused_as : (k : Kept) (n : Refusal) {t : Outcome} {r : Taking} → t ≡ refuses k n → r ≡ keeps k.head n → Takes t r k.marks k.elapsed k.sizes
refused_as k n e q = record { says = rw (e, q) refl; leaves = rw (e, q) refl }

-- something taken
pub taken_as : (k : Kept) {t : Outcome} {r : Taking} → t ≡ takes k → r ≡ record { answer = Ok tt; head = k.head } → Takes t r k.marks k.elapsed k.sizes
taken_as k e q = record { says = rw (e, q) refl; leaves = rw (e, q) refl }

-- the tests of a data PDU in their order
module _ (k : Kept) (bearer period : ℕ) (d : DataPdu) where
  pub packet_other : other_key k.head bearer period d.stamp ≡ true → hear_packet k bearer period d ≡ refuses k OtherSequence
  unfolding hear_packet
  packet_other o = rw o refl

  module _ (o : other_key k.head bearer period d.stamp ≡ false) where
    pub packet_beyond : length k.marks ≤ d.number.0 → hear_packet k bearer period d ≡ refuses k BeyondCapacity
    unfolding hear_packet
    packet_beyond h = rw (o, le-leb _ _ h) refl

    module _ (h : d.number.0 < length k.marks) where
      pub packet_off_fact : packet_contradicts (held_by k) d.number.0 d.elapsed.0 d.length.0 ≡ true → hear_packet k bearer period d ≡ refuses k Contradiction
      unfolding hear_packet
      packet_off_fact w = rw (o, lt-leb (length k.marks) d.number.0 h, w) refl

      pub packet_taken : packet_contradicts (held_by k) d.number.0 d.elapsed.0 d.length.0 ≡ false
          → hear_packet k bearer period d ≡ takes (keep_packet k d.number.0 d.elapsed.0 d.length.0)
      unfolding hear_packet
      packet_taken w = rw (o, lt-leb (length k.marks) d.number.0 h, w) refl

-- and of a closing PDU
module _ (k : Kept) (bearer period : ℕ) (c : ClosingPdu) where
  pub closing_other : other_key k.head bearer period c.stamp ≡ true → hear_closing k bearer period c ≡ refuses k OtherSequence
  unfolding hear_closing
  closing_other o = rw o refl

  module _ (o : other_key k.head bearer period c.stamp ≡ false) where
    pub closing_beyond : length k.marks < c.number.0 → hear_closing k bearer period c ≡ refuses k BeyondCapacity
    unfolding hear_closing
    closing_beyond h = rw (o, lt-ltb _ _ h) refl

    module _ (h : c.number.0 ≤ length k.marks) where
      pub closing_off_fact : closing_contradicts (held_by k) c.number.0 c.elapsed.0 ≡ true → hear_closing k bearer period c ≡ refuses k Contradiction
      unfolding hear_closing
      closing_off_fact w = rw (o, le-ltb (length k.marks) c.number.0 h, w) refl

      pub closing_taken : closing_contradicts (held_by k) c.number.0 c.elapsed.0 ≡ false
          → hear_closing k bearer period c ≡ takes (keep_closing k c.number.0 c.elapsed.0)
      unfolding hear_closing
      closing_taken w = rw (o, le-ltb (length k.marks) c.number.0 h, w) refl
