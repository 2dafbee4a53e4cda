-- The record before the first item, and what is kept from one read to the next. Assumes nothing.
use Prim.Native.Nat.{ℕ}
use mathlib.Core.Path.{◌≡◌, refl, ap, ◌∙◌}
use mathlib.Core.List.{List}
use lib.ListN.{length, replicate, length-replicate}
use Rattle.std.specs.Prelude.{None}
use Rattle.printout.specs.declared.Going.{Going}
use Rattle.printout.specs.Printed.{nothing_yet}
use Rattle.printout.specs.Stepping.{between_in, Ready}
use Rattle.printout.proofs.StaysReady.{placed_ready}
use Rattle.account.specs.Turning.{Turns}

-- nothing was begun
pub started : (marks elapsed sizes : List ℕ) (place offset : ℕ) → marks ≡ replicate 4096 0 → elapsed ≡ replicate 4096 0 → sizes ≡ replicate 4096 0
    → Ready (record { begun = None; place = place; offset = offset }) marks elapsed sizes
started marks elapsed sizes place offset m e z =
    placed_ready _ marks elapsed sizes
    (record {
      marks_long = ap length m ∙ length-replicate {A = ℕ} 4096 0;
      elapsed_long = ap length e ∙ length-replicate {A = ℕ} 4096 0;
      sizes_long = ap length z ∙ length-replicate {A = ℕ} 4096 0;
      heard = tt;
    })
    (λ n. (m, e, z))

pub record Loop (marks₀ elapsed₀ sizes₀ input₀ out₀ marks elapsed sizes input out : List ℕ) (g : Going) (have : ℕ) : Type 0 where
  pub turns : Turns g marks elapsed sizes input have
  pub marks_same : length marks ≡ length marks₀
  pub elapsed_same : length elapsed ≡ length elapsed₀
  pub sizes_same : length sizes ≡ length sizes₀
  pub input_same : length input ≡ length input₀
  pub out_same : length out ≡ length out₀

-- it starts where document 01's text does
pub starts : (marks elapsed sizes : List ℕ) → marks ≡ replicate 4096 0 → elapsed ≡ replicate 4096 0 → sizes ≡ replicate 4096 0
    → between_in (record { begun = None; place = 0; offset = 0 }) marks elapsed sizes ≡ nothing_yet
starts marks elapsed sizes m e z = rw (m, e, z) refl
