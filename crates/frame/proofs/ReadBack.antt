-- What is written is read back: the frames of Types 0 and 1 give the fields that went in. Assumes nothing.
use Prim.Native.Nat.{ℕ, ◌+◌, ◌*◌, ◌/◌, ◌%◌, ◌≤◌, ◌<◌}
use mathlib.Core.Path.{◌≡◌, refl, ap, ◌∙◌}
use mathlib.Core.List.{List, ◌∷◌, ◌++◌, append_assoc}
use mathlib.Core.Bool.{false}
use native.Mathlib.Omega.{arith}
use lib.ListN.{length, get_or, take, drop, length-append}
use lib.Seq.{take_at, drop_at, get_or_at}
use borrow.Author.Tests.{le-ltb, eq-eqb}
use Rattle.units.specs.Limits.{most_payload, last_stamp}
use Rattle.fields.specs.Numbers.{be, octets}
use Rattle.fields.proofs.ReadAgain.{be_at, length_octets}
use Rattle.checks.specs.Check.{header_check, payload_check}
use Rattle.checks.proofs.Rows.{check_lt}
use Rattle.checks.proofs.ShortSums.{header, payload}
use Rattle.frame.specs.declared.ClosingPdu.{ClosingPdu}
use Rattle.frame.specs.declared.Read.TheVariants.{Closing, Data}
use Rattle.frame.specs.Layout.{stamp_of, number_of, elapsed_of, payload_part, payload_of, data_pdu, closing_of}
use Rattle.frame.specs.Payloads.{payload_kept, AllPayload, IpPacket}
use Rattle.frame.specs.Counts.{data_wrong}
use Rattle.frame.specs.Reading.{read_frame, header_wrong, payload_wrong}
use Rattle.frame.specs.Writing.{control_part, closing_control, sealed, data_frame, closing_frame}
use Rattle.frame.proofs.Accepted.{Good, read_good}
use Rattle.frame.proofs.Fitting.{Fits}
use Rattle.frame.proofs.Payloads.{dropped}
use Rattle.frame.proofs.Said.{data_right}

-- both checks of a sealed frame are right, whatever its control part and its payload part

abbrev both : List ℕ → List ℕ → ℕ
both c p = header_check c * 1024 + payload_check p

both_lt : (c p : List ℕ) → both c p < 65536
both_lt c p = omega (arith, check_lt header c, check_lt payload p)

pub sealed_headed : (c p : List ℕ) (k : ℕ) → length c ≡ k → header_wrong k (sealed c p) ≡ false
unfolding octets
sealed_headed c p k e =
    let a : sealed c p ≡ c ++ (octets 2 (both c p) ++ p) = append_assoc c (octets 2 (both c p)) p in
    let t : take k (c ++ (octets 2 (both c p) ++ p)) ≡ c = take_at c (octets 2 (both c p) ++ p) k e in
    let g : get_or (c ++ (octets 2 (both c p) ++ p)) k 0 ≡ both c p / 256 % 256 = get_or_at c (both c p / 256 % 256) (both c p % 256 ∷ p) 0 k e in
    let q : header_check c ≡ both c p / 256 % 256 / 4 = omega (arith, check_lt header c, check_lt payload p) in
    rw (a, t, g) (simp (eq-eqb _ _ q))

pub sealed_checked : (c p : List ℕ) (k : ℕ) → length c ≡ k → payload_wrong k (sealed c p) ≡ false
sealed_checked c p k e =
    let a : sealed c p ≡ c ++ (octets 2 (both c p) ++ p) = append_assoc c (octets 2 (both c p)) p in
    let b : be 2 (c ++ (octets 2 (both c p) ++ p)) (length c) ≡ both c p = be_at 2 (both c p) c p (both_lt c p) in
    let l : length (c ++ octets 2 (both c p)) ≡ length c + 2 = length-append c (octets 2 (both c p)) ∙ rw length_octets in
    let d : drop (length c + 2) (sealed c p) ≡ p = drop_at (c ++ octets 2 (both c p)) p (length c + 2) l in
    let q : payload_check p ≡ both c p % 1024 = omega (arith, check_lt header c, check_lt payload p) in
    rw (← e, d, a, b) (simp (eq-eqb _ _ q))

-- Type 1

-- all of a payload stands behind the checks, and what the rule keeps of it is the frame's payload
pub part_back : (stamp n e : ℕ) (p : List ℕ) → payload_part 9 (data_frame stamp n e p) ≡ p
unfolding octets data_frame
part_back stamp n e p = refl

pub payload_back : (stamp n e : ℕ) (p : List ℕ) → payload_of (data_frame stamp n e p) ≡ take (payload_kept p) p
payload_back stamp n e p = rw (part_back stamp n e p)

module _ (stamp n e : ℕ) (p : List ℕ) (st : stamp ≤ last_stamp) (sz : payload_kept p ≤ most_payload) (w : data_wrong n e ≡ false) where
  abbrev s : List ℕ
  s = data_frame stamp n e p

  data_stamp : stamp_of s ≡ stamp
  unfolding octets data_frame
  data_stamp = be_at 2 stamp (octets 1 16) (octets 2 n ++ octets 4 e ++ octets 2 (both (control_part 1 stamp n e) p) ++ p) (omega arith)

  data_number : number_of s ≡ n
  unfolding octets data_frame
  data_number = be_at 2 n (octets 1 16 ++ octets 2 stamp) (octets 4 e ++ octets 2 (both (control_part 1 stamp n e) p) ++ p) (omega (arith, data_right n e w))

  data_elapsed : elapsed_of s ≡ e
  unfolding octets data_frame
  data_elapsed = be_at 4 e (octets 1 16 ++ octets 2 stamp ++ octets 2 n) (octets 2 (both (control_part 1 stamp n e) p) ++ p) (omega (arith, data_right n e w))

  data_good : Good s
  unfolding octets data_frame
  data_good =
      record {
        some = omega arith;
        not_two = λ h. omega (arith, h);
        known = omega arith;
        long = omega arith;
        headed = sealed_headed (control_part 1 stamp n e) p 9 refl;
        stamped = rw data_stamp st;
        sized = rw (part_back stamp n e p) (le-ltb most_payload (payload_kept p) sz);
        checked = sealed_checked (control_part 1 stamp n e) p 9 refl;
        counted = rw (data_number, data_elapsed) w;
      }

  -- a data frame gives back the fields that it was written from, and how much of its payload the rule keeps
  pub data_back : read_frame s ≡ Data (data_pdu stamp n e (payload_kept p))
  unfolding octets data_frame
  data_back =
      read_good s data_good ∙ rw (data_stamp, data_number, data_elapsed, part_back stamp n e p)

-- a payload that can be written, and from which the rule drops nothing, comes back whole
pub data_back_whole : (stamp n e : ℕ) (p : List ℕ) → stamp ≤ last_stamp → length p ≤ most_payload → data_wrong n e ≡ false → AllPayload p
    → read_frame (data_frame stamp n e p) ≡ Data (data_pdu stamp n e (length p))
data_back_whole stamp n e p st sz w all = data_back stamp n e p st (rw all sz) w ∙ rw all

-- of an IP packet and an extension of at most four octets the packet comes back, also where both together have more than 4,095 octets
pub extended_back : (stamp n e : ℕ) (p x : List ℕ) → stamp ≤ last_stamp → length p ≤ most_payload → data_wrong n e ≡ false → IpPacket p → length x ≤ 4
    → read_frame (data_frame stamp n e (p ++ x)) ≡ Data (data_pdu stamp n e (length p))
extended_back stamp n e p x st sz w i few =
    let d = dropped p x i few in
    data_back stamp n e (p ++ x) st (rw d sz) w ∙ rw d

-- Types 0 and 3: the fields of a closing control part, whatever stands behind it

module _ (t : ℕ) (c : ClosingPdu) (q : List ℕ) (f : Fits c) where
  abbrev behind : List ℕ
  behind = closing_control t c ++ q

  pub closing_fields : c.stamp ≤ last_stamp → closing_of behind ≡ c
  unfolding octets
  closing_fields st =
      let st' : be 2 behind 1 ≡ c.stamp = be_at 2 c.stamp (octets 1 (t * 16)) (octets 2 c.number.0 ++ octets 4 c.elapsed.0 ++ octets 3 c.packets.0 ++ octets 5 c.octets.0 ++ q) (omega arith) in
      let n : be 2 behind 3 ≡ c.number.0 = be_at 2 c.number.0 (octets 1 (t * 16) ++ octets 2 c.stamp) (octets 4 c.elapsed.0 ++ octets 3 c.packets.0 ++ octets 5 c.octets.0 ++ q) f.number in
      let e : be 4 behind 5 ≡ c.elapsed.0 = be_at 4 c.elapsed.0 (octets 1 (t * 16) ++ octets 2 c.stamp ++ octets 2 c.number.0) (octets 3 c.packets.0 ++ octets 5 c.octets.0 ++ q) f.elapsed in
      let p : be 3 behind 9 ≡ c.packets.0 = be_at 3 c.packets.0 (control_part t c.stamp c.number.0 c.elapsed.0) (octets 5 c.octets.0 ++ q) f.packets in
      let o : be 5 behind 12 ≡ c.octets.0 = be_at 5 c.octets.0 (control_part t c.stamp c.number.0 c.elapsed.0 ++ octets 3 c.packets.0) q f.octets in
      rw (st', n, e, p, o)

-- Type 0

module _ (c : ClosingPdu) (st : c.stamp ≤ last_stamp) (f : Fits c) where
  closing_good : Good (closing_frame c)
  unfolding octets closing_frame
  closing_good =
      let k = closing_control 0 c in
      let h : header_check k ≡ header_check k * 4 % 256 / 4 = omega (arith, check_lt header k) in
      let b : closing_of (closing_frame c) ≡ c = closing_fields 0 c (octets 1 (header_check k * 4)) f st in
      record {
        some = omega arith;
        not_two = λ e. omega (arith, e);
        known = omega arith;
        long = omega arith;
        headed = simp (eq-eqb _ _ h);
        stamped = omega (arith, ap (λ (x : ClosingPdu). x.stamp) b);
        sized = refl;
        checked = refl;
        counted = rw b f.counts;
      }

  pub closing_back : read_frame (closing_frame c) ≡ Closing c
  unfolding octets closing_frame
  closing_back =
      read_good (closing_frame c) closing_good ∙ ap Closing (closing_fields 0 c (octets 1 (header_check (closing_control 0 c) * 4)) f st)
