-- What reading tells of a frame's checks: both of a check that is wrong, and zeros with any other answer. Assumes nothing.
use Prim.Native.Nat.{ℕ, zero, suc, ◌≤◌}
use native.Mathlib.Omega.{arith}
use mathlib.Core.Path.{◌≡◌, refl, sym, ◌∙◌}
use mathlib.Core.Bool.{true, false, not, false≢true, true≢false}
use mathlib.Core.List.{List}
use lib.Dec.{eqb, ltb}
use lib.ListN.{length, take}
use borrow.Author.Tests.{eqb-false, not-true, le-ltb, ne_eqb}
use Rattle.units.specs.declared.refusals.Refusal.{Refusal}
use Rattle.units.specs.Limits.{last_stamp}
use Rattle.units.proofs.ToldByNumber.{refusal_with, told_again}
use Rattle.units.specs.Refusals.{number_of, found_of, worked_of, tells_checks, header_check_wrong, payload_check_wrong}
use Rattle.fields.proofs.Choosing.{whichever, tested}
use Rattle.checks.specs.Check.{header_check, payload_check}
use Rattle.frame.specs.declared.Read.{Read}
use Rattle.frame.specs.declared.Read.TheVariants.{Refused}
use Rattle.frame.specs.Layout.{type_of, stamp_of, control, least, header_check_in, payload_check_in, payload_part}
use Rattle.frame.specs.Paper.{read_paper}
use Rattle.frame.specs.Reading.{refuse, refuse_header, refuse_payload, header_wrong, length_wrong, check_wrong, counts_wrong, said, read_body, read_headed, read_frame}
use Rattle.frame.specs.WrongChecks.{WrongCheck, ChecksTold}
use Rattle.frame.proofs.Accepted.{least_ge}
use Rattle.units.specs.declared.refusals.Refusal.TheVariants.{SizeWrong}

-- with any other number, or accepted, there are zeros
pub zeros_told : (s : List ℕ) (n : ℕ) → tells_checks n ≡ false → ChecksTold s n 0 0
zeros_told s n t =
    record {
      header = λ e. absurd (true≢false (rw e at t));
      payload = λ e. absurd (true≢false (rw e at t));
      neither = λ _. (refl, refl);
    }

-- a test of two numbers that did not agree
wrong : (found worked : ℕ) → not (eqb worked found) ≡ true → WrongCheck found worked found worked
wrong found worked t =
    record { told_found = refl; told_worked = refl; apart = λ e. eqb-false worked found (not-true (eqb worked found) t) (sym e) }

-- what an answer of reading tells
abbrev ReadTells : List ℕ → Read → Type 0
ReadTells s x = ChecksTold s (read_paper x).number (read_paper x).found (read_paper x).worked

header_told : (s : List ℕ) → header_wrong (control (type_of s)) s ≡ true
    → ChecksTold s header_check_wrong (header_check_in (control (type_of s)) s) (header_check (take (control (type_of s)) s))
header_told s t =
    record { header = λ _. wrong _ _ t; payload = λ e. absurd (eqb-false header_check_wrong payload_check_wrong refl e); neither = λ n. absurd (true≢false n) }

payload_told : (s : List ℕ) (t : ℕ) → type_of s ≡ t → check_wrong t s ≡ true
    → ChecksTold s payload_check_wrong (payload_check_in (control t) s) (payload_check (payload_part (control t) s))
payload_told s t e w =
    record {
      header = λ q. absurd (eqb-false payload_check_wrong header_check_wrong refl q);
      payload = λ _. rw e (differs t w);
      neither = λ n. absurd (true≢false n);
    }
  where
    differs : (t : ℕ) → check_wrong t s ≡ true
        → WrongCheck (payload_check_in (control t) s) (payload_check (payload_part (control t) s)) (payload_check_in (control t) s) (payload_check (payload_part (control t) s))
    differs zero w = absurd (false≢true w)
    differs (suc zero) w = wrong _ _ w
    differs (suc (suc t)) w = wrong _ _ w

said_told : (t : ℕ) (s : List ℕ) → ReadTells s (said t s)
unfolding read_paper
said_told zero s = zeros_told s 0 refl
said_told (suc zero) s = zeros_told s 0 refl
said_told (suc (suc t)) s = zeros_told s 0 refl

body_told : (s : List ℕ) (t : ℕ) → type_of s ≡ t → ReadTells s (read_body t s)
unfolding read_body read_paper
body_told s t e =
    whichever (ReadTells s) _ _ (length_wrong t s) (zeros_told s 6 refl)
    (λ _.
    tested (ReadTells s) _ _ (check_wrong t s) (payload_told s t e)
    (λ _. whichever (ReadTells s) _ _ (counts_wrong t s) (zeros_told s 8 refl) (λ _. said_told t s)))

headed_told : (s : List ℕ) → ReadTells s (read_headed (type_of s) s)
unfolding read_headed read_paper
headed_told s =
    tested (ReadTells s) _ _ (header_wrong (control (type_of s)) s) (header_told s)
    (λ _. whichever (ReadTells s) _ _ (ltb last_stamp (stamp_of s)) (zeros_told s 5 refl) (λ _. body_told s (type_of s) refl))

-- of any octets
pub read_told : (s : List ℕ) → ReadTells s (read_frame s)
unfolding read_frame read_paper
read_told s =
    whichever (ReadTells s) _ _ (eqb (length s) 0) (zeros_told s 1 refl)
    (λ _.
    whichever (ReadTells s) _ _ (eqb (type_of s) 2) (zeros_told s 2 refl)
    (λ _.
    whichever (ReadTells s) _ _ (ltb 3 (type_of s)) (zeros_told s 3 refl)
    (λ _. whichever (ReadTells s) _ _ (ltb (length s) (least (type_of s))) (zeros_told s 1 refl) (λ _. headed_told s))))

-- a refusal with zeros is that of its number alone
pub no_checks : (r : Refusal) → (found_of r ≡ 0) × (worked_of r ≡ 0) → r ≡ refusal_with (number_of r) 0 0
no_checks r z = sym (told_again r) ∙ rw (z.0, z.1)

-- of a frame that is refused
module _ (s : List ℕ) (r : Refusal) (e : read_frame s ≡ Refused r) where
  pub refusal_told : ChecksTold s (number_of r) (found_of r) (worked_of r)
  unfolding read_paper
  refusal_told = rw e at (read_told s)

  pub told_header : number_of r ≡ header_check_wrong
      → WrongCheck (found_of r) (worked_of r) (header_check_in (control (type_of s)) s) (header_check (take (control (type_of s)) s))
  told_header = refusal_told.header

  pub told_payload : number_of r ≡ payload_check_wrong
      → WrongCheck (found_of r) (worked_of r) (payload_check_in (control (type_of s)) s) (payload_check (payload_part (control (type_of s)) s))
  told_payload = refusal_told.payload

  pub told_nothing : tells_checks (number_of r) ≡ false → r ≡ refusal_with (number_of r) 0 0
  told_nothing t = no_checks r (refusal_told.neither t)

-- and the other way: a wrong check is told, where nothing comes before it
module _ (s : List ℕ) (two : type_of s ≡ 2 → ⊥) (known : type_of s ≤ 3) (long : least (type_of s) ≤ length s) where
  headed : read_frame s ≡ read_headed (type_of s) s
  unfolding read_frame
  headed =
      let some = least_ge (type_of s) in
      simp (
        ne_eqb (length s) 0 (λ e. omega (arith, some, long, e)),
        ne_eqb (type_of s) 2 two,
        le-ltb 3 (type_of s) known,
        le-ltb (length s) (least (type_of s)) long,
      )

  pub header_refused : header_wrong (control (type_of s)) s ≡ true → read_frame s ≡ refuse_header (control (type_of s)) s
  unfolding read_headed
  header_refused w = rw headed (simp w)

  -- a wrong size likewise, whatever the payload check
  pub size_refused : header_wrong (control (type_of s)) s ≡ false → stamp_of s ≤ last_stamp → length_wrong (type_of s) s ≡ true → read_frame s ≡ refuse SizeWrong
  unfolding read_headed read_body
  size_refused h p l = rw headed (simp (h, le-ltb last_stamp (stamp_of s) p, l))

  pub payload_refused : header_wrong (control (type_of s)) s ≡ false → stamp_of s ≤ last_stamp → length_wrong (type_of s) s ≡ false → check_wrong (type_of s) s ≡ true
      → read_frame s ≡ refuse_payload (control (type_of s)) s
  unfolding read_headed read_body
  payload_refused h p l w = rw headed (simp (h, le-ltb last_stamp (stamp_of s) p, l, w))
