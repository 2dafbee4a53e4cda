-- The whole text is the text of the steps in order: one step and then what it leaves, and more input changes no item that is all
-- there. Assumes nothing.
use Rattle.std.proofs.Common.{◌≡◌, ℕ, zero, suc, ◌+◌, ◌≤◌, Bool, true, false, cond, eqb, ◌⊎◌, List, [], ◌++◌, length, take, drop, sym, refl, ap, ◌∙◌, inl, inr, true≢false, append-nil, arith, length-append, length-drop, ne_eqb, eqb-true}
use lib.Seq.{drop-append-le, take-append-le}
use Rattle.fields.specs.Choice.{◌when◌otherwise◌}
use Rattle.fields.proofs.Tests.{either}
use Rattle.std.specs.Prelude.{Ok, Err}
use Rattle.items.specs.declared.Item.TheVariants.{Begins, Frame}
use Rattle.items.specs.declared.NoItem.TheVariants.{Cut}
use Rattle.items.specs.Items.{Found, item_of, size_of}
use Rattle.items.proofs.Enough.{frame_there, size_there, enough}
use Rattle.printout.specs.Printed.{Between, Step, account_before, item_step, step_of, printed, text_from}

-- an item that does not stop the program takes octets
pub takes_some : (b : Between) (input : List ℕ) → (step_of b input).stops ≡ false → 1 ≤ size_of (item_of input)
unfolding item_step size_of
takes_some b input s = go (item_of input) s
  where
    go : (i : Found) → (item_step b input i).stops ≡ false → 1 ≤ size_of i
    go (Ok (Begins k)) e = omega arith
    go (Ok (Frame n)) e = omega arith
    go (Err x) e = absurd (true≢false e)

-- the text of the step in front, and of what is left by the rest
abbrev StepThen : (Between → List ℕ → List ℕ) → Between → List ℕ → List ℕ
StepThen rest b s = (step_of b s).text ++ cond (step_of b s).stops [] (rest (step_of b s).next (drop (size_of (item_of s)) s))

ended_text : (n : ℕ) (b : Between) (s : List ℕ) → length s ≡ 0 → printed n b s ≡ account_before b
unfolding printed
ended_text zero b s e = refl
ended_text (suc n) b s e = rw e refl

going_text : (n : ℕ) (b : Between) (s : List ℕ) → eqb (length s) 0 ≡ false → printed (suc n) b s ≡ StepThen (printed n) b s
unfolding printed
going_text n b s e = ap (λ (t : Bool). account_before b when t otherwise StepThen (printed n) b s) e

same_then : (f g : Between → List ℕ → List ℕ) (b : Between) (s : List ℕ)
    → ((step_of b s).stops ≡ false → f (step_of b s).next (drop (size_of (item_of s)) s) ≡ g (step_of b s).next (drop (size_of (item_of s)) s))
    → StepThen f b s ≡ StepThen g b s
same_then f g b s h = ap (λ (t : List ℕ). (step_of b s).text ++ t) (go (step_of b s).stops h)
  where
    go : (t : Bool) → (t ≡ false → f (step_of b s).next (drop (size_of (item_of s)) s) ≡ g (step_of b s).next (drop (size_of (item_of s)) s))
        → cond t [] (f (step_of b s).next (drop (size_of (item_of s)) s)) ≡ cond t [] (g (step_of b s).next (drop (size_of (item_of s)) s))
    go true k = refl
    go false k = k refl

shorter : (b : Between) (s : List ℕ) (n : ℕ) → (step_of b s).stops ≡ false → length s ≤ suc n → length (drop (size_of (item_of s)) s) ≤ n
shorter b s n e l =
    let t = takes_some b s e in
    let d = length-drop (size_of (item_of s)) s in
    omega (arith, t, d, l)

one_more : (m n : ℕ) (b : Between) (s : List ℕ)
    → ((step_of b s).stops ≡ false → printed m (step_of b s).next (drop (size_of (item_of s)) s) ≡ printed n (step_of b s).next (drop (size_of (item_of s)) s))
    → printed (suc m) b s ≡ printed (suc n) b s
one_more m n b s h = go (either (eqb (length s) 0))
  where
    go : (eqb (length s) 0 ≡ true) ⊎ (eqb (length s) 0 ≡ false) → printed (suc m) b s ≡ printed (suc n) b s
    go (inl e) = let z = eqb-true _ _ e in ended_text (suc m) b s z ∙ sym (ended_text (suc n) b s z)
    go (inr e) = going_text m b s e ∙ same_then (printed m) (printed n) b s h ∙ sym (going_text n b s e)

-- as many steps as octets are enough: more print the same
pub enough_steps : (m n : ℕ) (b : Between) (s : List ℕ) → length s ≤ m → length s ≤ n → printed m b s ≡ printed n b s
enough_steps zero n b s lm ln = let e : length s ≡ 0 = omega (arith, lm) in ended_text zero b s e ∙ sym (ended_text n b s e)
enough_steps (suc m) zero b s lm ln = let e : length s ≡ 0 = omega (arith, ln) in ended_text (suc m) b s e ∙ sym (ended_text zero b s e)
enough_steps (suc m) (suc n) b s lm ln = one_more m n b s (λ q. enough_steps m n _ _ (shorter b s m q lm) (shorter b s n q ln))

-- "The end of input prints the last account"
pub text_end : (b : Between) → text_from b [] ≡ account_before b
text_end b = ended_text 0 b [] refl

-- a step, and then the text of what it leaves
pub text_step : (b : Between) (s : List ℕ) → 1 ≤ length s → text_from b s ≡ (step_of b s).text ++ cond (step_of b s).stops [] (text_from (step_of b s).next (drop (size_of (item_of s)) s))
text_step b s l =
    let e : eqb (length s) 0 ≡ false = ne_eqb (length s) 0 (λ (z : length s ≡ 0). omega (arith, z, l)) in
    enough_steps (length s) (suc (length s)) b s (omega arith) (omega arith)
    ∙ going_text (length s) b s e
    ∙ same_then (printed (length s)) text_from b s (λ q. enough_steps (length s) _ _ _ (shorter b s (length s) q (omega arith)) (omega arith))

-- more input behind an item that is all there changes nothing of its step
same_body : (s more : List ℕ) (n : ℕ) → 4 + n ≤ length s → take n (drop 4 (s ++ more)) ≡ take n (drop 4 s)
same_body s more n h =
    let d = length-drop 4 s in
    ap (take n) (drop-append-le 4 s more (omega (arith, h))) ∙ take-append-le n (drop 4 s) more (omega (arith, d, h))

same_step : (b : Between) (s more : List ℕ) (i : Found) → item_of s ≡ i → item_step b (s ++ more) i ≡ item_step b s i
unfolding item_step
same_step b s more (Ok (Begins k)) e = refl
same_step b s more (Ok (Frame n)) e = rw (same_body s more n (frame_there s n e).1) refl
same_step b s more (Err x) e = refl

pub step_more : (b : Between) (s more : List ℕ) → (item_of s ≡ Err Cut → ⊥) → step_of b (s ++ more) ≡ step_of b s
step_more b s more n = ap (item_step b (s ++ more)) (enough s more n) ∙ same_step b s more (item_of s) refl

-- of an item that is all there, or with which the input ends: its text, and then that of what it leaves
pub text_on : (b : Between) (s more : List ℕ) → 1 ≤ length s → (item_of s ≡ Err Cut → ⊥) ⊎ (more ≡ [])
    → text_from b (s ++ more) ≡ (step_of b s).text ++ cond (step_of b s).stops [] (text_from (step_of b s).next (drop (size_of (item_of s)) s ++ more))
text_on b s more l (inl n) =
    let d : drop (size_of (item_of (s ++ more))) (s ++ more) ≡ drop (size_of (item_of s)) s ++ more =
    ap (λ (i : Found). drop (size_of i) (s ++ more)) (enough s more n) ∙ drop-append-le (size_of (item_of s)) s more (size_there s)
    in
    let h = length-append s more in
    text_step b (s ++ more) (omega (arith, l, h))
    ∙ ap (λ (t : Step). t.text ++ cond t.stops [] (text_from t.next (drop (size_of (item_of (s ++ more))) (s ++ more)))) (step_more b s more n)
    ∙ ap (λ (t : List ℕ). (step_of b s).text ++ cond (step_of b s).stops [] (text_from (step_of b s).next t)) d
text_on b s more l (inr e) = rw (e, append-nil s, append-nil (drop (size_of (item_of s)) s)) (text_step b s l)
