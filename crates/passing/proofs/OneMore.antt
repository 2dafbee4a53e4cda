-- One item more: what is told goes on by its text, and it takes octets unless it stops the program. Assumes nothing.
use Prim.Native.Nat.{ℕ, ◌+◌, ◌-◌, ◌≤◌, ◌<◌}
use mathlib.Core.Path.{◌≡◌, refl, sym, ap, ◌∙◌}
use mathlib.Core.Logic.{◌⊎◌, inl, inr}
use mathlib.Core.Bool.{Bool, true, false, cond, false≢true}
use mathlib.Core.List.{List, [], ◌++◌}
use native.Mathlib.Omega.{arith}
use borrow.Author.Tests.{ltb-true, ltb-false, leb-true}
use lib.Dec.{ltb, leb}
use lib.ListN.{length, drop, length-drop}
use lib.Seq.{drop-drop}
use Rattle.fields.specs.Choice.{◌when◌otherwise◌}
use Rattle.fields.proofs.Choosing.{past}
use Rattle.lines.specs.declared.Text.{Text}
use Rattle.lines.specs.Adding.{room, Adds}
use Rattle.lines.proofs.Added.{adds_none, adds_then}
use Rattle.std.specs.Prelude.{Err}
use Rattle.items.specs.declared.NoItem.TheVariants.{Cut}
use Rattle.items.specs.Items.{longest_item, item_of, size_of}
use Rattle.items.proofs.Enough.{never_cut, size_there}
use Rattle.printout.specs.declared.Going.{Going}
use Rattle.printout.specs.declared.Went.{Went}
use Rattle.printout.specs.Printed.{Between, most_text, step_of, used_by}
use Rattle.printout.specs.Stepping.{between_in, Known, Ready, StepsWith, UnbegunKept}
use Rattle.printout.proofs.Stepped.{begins_none}
use Rattle.printout.proofs.WholeText.{takes_some}
use Rattle.passing.specs.Passing.{goes_on, Told, PassedWith}
use Rattle.passing.proofs.Telling.{told_nothing, told_then, told_item, told_over}

-- what is known where the next item is passed
pub goes_on_means : (rest : ℕ) (ended : Bool) (room : ℕ) (stops : Bool) → goes_on rest ended room stops ≡ true
    → (stops ≡ false) × (most_text ≤ room) × (1 ≤ rest) × ((longest_item ≤ rest) ⊎ (ended ≡ true))
unfolding goes_on
goes_on_means rest ended room stops e =
    let s = past false _ true stops false≢true e in
    let r = past false _ true (ltb room most_text) false≢true s.1 in
    let m = go ended r.1 in
    (s.0, ltb-false _ _ r.0, m.0, m.1)
  where
    go : (t : Bool) → (ltb 0 rest when t otherwise leb longest_item rest) ≡ true → (1 ≤ rest) × ((longest_item ≤ rest) ⊎ (t ≡ true))
    go true h = (ltb-true _ _ h, inr refl)
    go false h = let l = leb-true longest_item rest h in (omega (arith, l), inl l)

-- none takes more octets than there are, and one that does not stop the program takes some
used_in : (b : Between) (input : List ℕ) → used_by b input ≤ length input
used_in b input = go (step_of b input).stops
  where
    go : (t : Bool) → (0 when t otherwise size_of (item_of input)) ≤ length input
    go true = omega arith
    go false = size_there input

used_is : (b : Between) (input : List ℕ) → (step_of b input).stops ≡ false → used_by b input ≡ size_of (item_of input)
used_is b input s = rw s refl

-- what is kept in the middle, with so many octets left
pub record PassingWith (K : Known) (b : Between) (input : List ℕ) (ended : Bool) (marks₀ elapsed₀ sizes₀ : List ℕ) (text₀ : Text) (marks elapsed sizes : List ℕ) (to : Text) (g : Going) (left : ℕ) (stops : Bool) : Type 0 where
  pub text : List ℕ
  pub most : ℕ
  pub adds : Adds text most text₀ to
  pub told : Told b input ended text stops (between_in g marks elapsed sizes) (drop (length input - left) input)
  pub ready : K g marks elapsed sizes
  pub left_in : left ≤ length input
  pub marks_same : length marks ≡ length marks₀
  pub elapsed_same : length elapsed ≡ length elapsed₀
  pub sizes_same : length sizes ≡ length sizes₀

-- the same, and the record is ready
abbrev pub Passing : Between → List ℕ → Bool → List ℕ → List ℕ → List ℕ → Text → List ℕ → List ℕ → List ℕ → Text → Going → ℕ → Bool → Type 0
Passing = PassingWith Ready

none_passed : (input : List ℕ) → drop (length input - length input) input ≡ input
none_passed input = let z : length input - length input ≡ 0 = omega arith in rw z refl

pub passing_start : {K : Known} (marks elapsed sizes input : List ℕ) (to : Text) (ended : Bool) (g : Going) → K g marks elapsed sizes
    → PassingWith K (between_in g marks elapsed sizes) input ended marks elapsed sizes to marks elapsed sizes to g (length input) false
passing_start {K} marks elapsed sizes input to ended g y =
    record {
      text = [];
      most = 0;
      adds = adds_none to 0;
      told = rw (none_passed input) (told_nothing (between_in g marks elapsed sizes) input ended);
      ready = y;
      left_in = omega arith;
      marks_same = refl;
      elapsed_same = refl;
      sizes_same = refl;
    }

-- what is kept where no item more is passed
pub passing_done : {K : Known} (b : Between) (input : List ℕ) (ended : Bool) (marks₀ elapsed₀ sizes₀ : List ℕ) (text₀ : Text) (marks elapsed sizes : List ℕ) (to : Text) (g : Going) (left : ℕ) (stops : Bool)
    → PassingWith K b input ended marks₀ elapsed₀ sizes₀ text₀ marks elapsed sizes to g left stops → goes_on left ended (room to) stops ≡ false
    → PassedWith K b input ended (record { going = g; used = length input - left; stops = stops }) marks elapsed sizes text₀ to
    × (goes_on (length input - (length input - left)) ended (room to) stops ≡ false)
passing_done {K} b input ended marks₀ elapsed₀ sizes₀ text₀ marks elapsed sizes to g left stops p off =
    let n : length input - (length input - left) ≡ left = omega (arith, p.left_in) in
    (record { text = p.text; most = p.most; adds = p.adds; told = p.told; ready = p.ready; used_in = omega arith }, rw n off)

module _ {K : Known} (b : Between) (input : List ℕ) (ended : Bool) (marks₀ elapsed₀ sizes₀ : List ℕ) (text₀ : Text) (marks elapsed sizes : List ℕ) (to : Text) (g : Going) (left : ℕ) (stops : Bool)
    (p : PassingWith K b input ended marks₀ elapsed₀ sizes₀ text₀ marks elapsed sizes to g left stops) (w : Went) (marks' elapsed' sizes' : List ℕ) (to' : Text) (rest : List ℕ)
    (is : rest ≡ drop (length input - left) input)
    (t : StepsWith K (step_of (between_in g marks elapsed sizes) rest) (used_by (between_in g marks elapsed sizes) rest) w marks' elapsed' sizes' to to') where
  rest_long : length rest ≡ left
  rest_long = let d = length-drop (length input - left) input in let i = p.left_in in ap length is ∙ d ∙ omega (arith, i)

  pub used_less : w.used ≤ left
  used_less = let u = t.used in let i = used_in (between_in g marks elapsed sizes) rest in let l = rest_long in omega (arith, u, i, l)

  item_told : 1 ≤ left → (longest_item ≤ left) ⊎ (ended ≡ true)
      → Told (between_in g marks elapsed sizes) rest ended (step_of (between_in g marks elapsed sizes) rest).text w.stops (between_in w.going marks' elapsed' sizes') (drop (size_of (item_of rest)) rest)
  item_told l o = rw (t.stops, t.next) (told_item (between_in g marks elapsed sizes) rest ended (rw rest_long l) (whole o))
    where
      whole : (longest_item ≤ left) ⊎ (ended ≡ true) → (item_of rest ≡ Err Cut → ⊥) ⊎ (ended ≡ true)
      whole (inl h) = inl (never_cut rest (rw rest_long h))
      whole (inr e) = inr e

  -- behind the item stands what is left then
  behind : w.stops ≡ false → drop (size_of (item_of rest)) rest ≡ drop (length input - (left - w.used)) input
  behind s =
      let u : w.used ≡ size_of (item_of rest) = t.used ∙ used_is (between_in g marks elapsed sizes) rest (sym t.stops ∙ s) in
      let l = used_less in
      let i = p.left_in in
      let n : length input - left + size_of (item_of rest) ≡ length input - (left - w.used) = omega (arith, u, l, i) in
      ap (drop (size_of (item_of rest))) is ∙ drop-drop (size_of (item_of rest)) (length input - left) input ∙ ap (λ (k : ℕ). drop k input) n

  left_told : 1 ≤ left → (longest_item ≤ left) ⊎ (ended ≡ true)
      → Told (between_in g marks elapsed sizes) rest ended (step_of (between_in g marks elapsed sizes) rest).text w.stops (between_in w.going marks' elapsed' sizes') (drop (length input - (left - w.used)) input)
  left_told l o = go w.stops refl (item_told l o)
    where
      go : (x : Bool) → w.stops ≡ x
          → Told (between_in g marks elapsed sizes) rest ended (step_of (between_in g marks elapsed sizes) rest).text x (between_in w.going marks' elapsed' sizes') (drop (size_of (item_of rest)) rest)
          → Told (between_in g marks elapsed sizes) rest ended (step_of (between_in g marks elapsed sizes) rest).text x (between_in w.going marks' elapsed' sizes') (drop (length input - (left - w.used)) input)
      go true e q = told_over _ _ q
      go false e q = rw (← behind e) q

  module _ (free : ℕ) (on : goes_on left ended free stops ≡ true) where
    known : (stops ≡ false) × (most_text ≤ free) × (1 ≤ left) × ((longest_item ≤ left) ⊎ (ended ≡ true))
    known = goes_on_means left ended free stops on

    told_on : Told b input ended (p.text ++ (step_of (between_in g marks elapsed sizes) rest).text) w.stops (between_in w.going marks' elapsed' sizes') (drop (length input - (left - w.used)) input)
    told_on =
        let k = known in
        told_then {c = between_in g marks elapsed sizes} {mid = rest} {s = p.text} (rw (is, ← k.0) p.told) (left_told k.2 k.3)

    pub passing_on : length marks' ≡ length marks → length elapsed' ≡ length elapsed → length sizes' ≡ length sizes
        → PassingWith K b input ended marks₀ elapsed₀ sizes₀ text₀ marks' elapsed' sizes' to' w.going (left - w.used) w.stops
    passing_on m e s =
        record {
          text = p.text ++ (step_of (between_in g marks elapsed sizes) rest).text;
          most = p.most + most_text;
          adds = adds_then p.adds t.adds;
          told = told_on;
          ready = t.ready;
          left_in = omega (arith, p.left_in);
          marks_same = m ∙ p.marks_same;
          elapsed_same = e ∙ p.elapsed_same;
          sizes_same = s ∙ p.sizes_same;
        }

    pub passes_less : cond w.stops 0 (1 + (left - w.used)) < cond stops 0 (1 + left)
    passes_less = rw known.0 (go w.stops refl)
      where
        go : (x : Bool) → w.stops ≡ x → cond x 0 (1 + (left - w.used)) < 1 + left
        go true e = omega arith
        go false e =
            let n = takes_some (between_in g marks elapsed sizes) rest (sym t.stops ∙ e) in
            let u : w.used ≡ size_of (item_of rest) = t.used ∙ used_is (between_in g marks elapsed sizes) rest (sym t.stops ∙ e) in
            let l = used_less in
            omega (arith, n, u, l)

-- nothing was passed yet
pub unbegun_start : (g : Going) (marks elapsed sizes : List ℕ) → UnbegunKept (between_in g marks elapsed sizes) g marks elapsed sizes
unbegun_start g marks elapsed sizes e = refl

-- an item that begins no sequence leaves all as it was
pub unbegun_on : {K : Known} (b : Between) (g : Going) (marks elapsed sizes rest : List ℕ) (w : Went) (marks' elapsed' sizes' : List ℕ) (to to' : Text)
    → UnbegunKept b g marks elapsed sizes
    → StepsWith K (step_of (between_in g marks elapsed sizes) rest) (used_by (between_in g marks elapsed sizes) rest) w marks' elapsed' sizes' to to'
    → UnbegunKept b w.going marks' elapsed' sizes'
unbegun_on {K} b g marks elapsed sizes rest w marks' elapsed' sizes' to to' kept t e =
    let n : between_in w.going marks' elapsed' sizes' ≡ between_in g marks elapsed sizes =
    t.next ∙ begins_none (between_in g marks elapsed sizes) rest (ap (λ (x : Between). x.begun) (sym t.next) ∙ e) in
    n ∙ kept (ap (λ (x : Between). x.begun) (sym n) ∙ e)
