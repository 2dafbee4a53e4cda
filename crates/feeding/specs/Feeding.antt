-- What is known of a buffer that was fed. Assumes nothing.
use Rattle.std.specs.Prelude.{ℕ, ◌≤◌, ◌<◌, ◌≡◌, Bool, true, false, List, length, take}
use Rattle.feeding.specs.declared.End.{End}
use Rattle.feeding.specs.declared.End.TheVariants.{Full, Over, Failed}
use Rattle.feeding.specs.declared.Fed.{Fed}

-- whether the input has ended
abbrev pub is_over : End → Bool
is_over Full = false
is_over Over = true
is_over (Failed e) = false

-- n octets are there now, and those that were there before stay
pub record Behind (have : ℕ) (old : List ℕ) (n : ℕ) (new : List ℕ) : Type 0 where
  pub more : have ≤ n
  pub within : n ≤ length new
  pub kept : take have new ≡ take have old

-- octets were read behind those that were there. Unless a read failed, the input has ended exactly where the buffer is not full
pub record ReadOn (have : ℕ) (old : List ℕ) (r : Fed) (new : List ℕ) : Type 0 where
  pub behind : Behind have old r.have new
  pub full : r.end ≡ Full → r.have ≡ length new
  pub over : r.end ≡ Over → r.have < length new
