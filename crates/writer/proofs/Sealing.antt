-- A frame that is laid from behind: the payload part, the control part in front, and the checks between them. Assumes nothing.
use Prim.Native.Nat.{ℕ, ◌+◌, ◌*◌, ◌≤◌, ◌<◌}
use native.Mathlib.Omega.{arith}
use mathlib.Core.Path.{◌≡◌, ap, ◌∙◌}
use mathlib.Core.List.{List, ◌++◌}
use lib.ListN.{length, take, length-append}
use Rattle.fields.specs.Numbers.{octets}
use Rattle.fields.specs.Runs.{laid, front}
use Rattle.fields.proofs.ReadAgain.{length_octets}
use Rattle.fields.proofs.Laying.{laid_on, take_front, front_before}
use Rattle.checks.specs.Check.{header_check, payload_check}
use Rattle.checks.proofs.Rows.{check_lt}
use Rattle.checks.proofs.ShortSums.{payload}
use Rattle.frame.specs.Writing.{sealed}

-- a payload check leaves six of sixteen bits for the header check
pub ten_bits : (xs : List ℕ) {r : ℕ} → r ≡ payload_check xs → r < 1024
ten_bits xs e = omega (arith, e, check_lt payload xs)

pub sealing : (old head part : List ℕ) (n : ℕ) {o₁ o₂ o₃ : List ℕ} {check : ℕ} → length head ≡ n → n + 2 ≤ length old → check ≡ payload_check part → o₁ ≡ laid old (n + 2) part → o₂ ≡ front o₁ head → o₃ ≡ laid o₂ n (octets 2 (header_check (take n o₂) * 1024 + check)) → o₃ ≡ front old (sealed head part)
sealing old head part n {o₁} {o₂} l h p e₁ e₂ e₃ =
    let both = octets 2 (header_check head * 1024 + payload_check part) in
    let t : take n o₂ ≡ head = ap (take n) e₂ ∙ take_front o₁ head n l in
    let m : length (head ++ both) ≡ n + 2 = rw (length-append, l, length_octets) in
    laid_on o₁ head both n l e₂ (rw (t, p) at e₃) ∙ ap (λ (o : List ℕ). front o (head ++ both)) e₁ ∙ front_before old (head ++ both) part (n + 2) m h
