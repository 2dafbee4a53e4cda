-- Octets read behind octets that were read. Assumes nothing.
use Rattle.std.proofs.Common.{◌≡◌, ℕ, ◌+◌, ◌≤◌, List, [], ◌++◌, length, take, drop, refl, sym, ap, subst, ◌∙◌, arith, length-append, length-take-le, drop_at, take-append-drop}
use Rattle.std.proofs.Math.Seq.{take-take, take-append-le, drop-append-le}
use Rattle.std.proofs.lemmas.List.{drop-take}
use Rattle.std.proofs.lemmas.Slice.{take-put_mid_below}
use Rattle.std.specs.Prelude.{Option, Result, Ok, Err}
use Rattle.std.specs.Result.{result_unwrap_or}
use Rattle.std.specs.Io.{ReadsAtMost}
use Rattle.std.specs.Io.KnownBytes.{ReadConsumes, Consumes}
use Rattle.std.proofs.KnownBytes.{Consumes-nil, Consumes-kept, Consumes-trans}
use borrow.Rule.Slice.PartMut.{put_mid, post_of}
use Rattle.feeding.specs.Feeding.{Behind}

-- nothing was read yet
pub none_read : (have : ℕ) (s : List ℕ) → have ≤ length s → Behind have s have s
none_read have s h = record { more = omega arith; within = h; kept = refl }

-- what was there before the first read is kept by the next one too
pub read_twice : (have : ℕ) (old : List ℕ) (m : ℕ) (mid : List ℕ) (n : ℕ) (new : List ℕ) → Behind have old m mid → Behind m mid n new → Behind have old n new
read_twice have old m mid n new p q =
    let i = p.more in
    let j = q.more in
    record {
      more = omega (arith, i, j);
      within = q.within;
      kept = sym (take-take have m new i) ∙ ap (take have) q.kept ∙ take-take have m mid i ∙ p.kept;
    }

-- told by another name of its number
pub same_behind : (have : ℕ) (old : List ℕ) (m n : ℕ) (new : List ℕ) → n ≡ m → Behind have old m new → Behind have old n new
same_behind have old m n new e b = rw e b

-- one read into the part behind the front; where it failed, nothing was given
pub read_bytes : {E : Type 0} (a b : Option (List ℕ)) (r : Result ℕ E) (have : ℕ) (front part rest : List ℕ) → length front ≡ have
    → ReadsAtMost r part → ReadConsumes a b r part → Consumes a b (drop have (take (have + result_unwrap_or r 0) (front ++ (part ++ rest))))
read_bytes a b (Ok n) have front part rest long fits read =
    subst (Consumes a b) (sym (drop-take have n (front ++ (part ++ rest))))
    (subst (Consumes a b) (sym (ap (take n) (drop_at front (part ++ rest) have long) ∙ take-append-le n part rest fits.0)) read.0)
read_bytes a b (Err e) have front part rest long fits read =
    subst (Consumes a b) (sym (drop-take have 0 (front ++ (part ++ rest)))) (Consumes-kept a a b [] (Consumes-nil a) read)

-- reads behind reads: xs has m octets of which the first have were there before, and ys has n of which the first m stayed
pub more_read : (a b c : Option (List ℕ)) (have m n : ℕ) (xs ys : List ℕ) → have ≤ m → m ≤ n → m ≤ length xs → take m ys ≡ take m xs
    → Consumes a b (drop have (take m xs)) → Consumes b c (drop m (take n ys)) → Consumes a c (drop have (take n ys))
more_read a b c have m n xs ys h mn within kept p q =
    let later = drop m (take n ys) in
    let front : take m (take n ys) ≡ take m xs = take-take m n ys mn ∙ kept in
    let long : length (take m xs) ≡ m = length-take-le m xs within in
    let joined : drop have (take n ys) ≡ drop have (take m xs) ++ later =
    ap (drop have) (sym (take-append-drop m (take n ys)) ∙ ap (λ l. l ++ later) front) ∙ drop-append-le have (take m xs) later (omega arith) in
    subst (Consumes a c) (sym joined) (Consumes-trans a b c _ _ p q)

-- what is kept from one read to the next
pub record Reading (have : ℕ) (old : List ℕ) (given left : Option (List ℕ)) (n : ℕ) (input : List ℕ) : Type 0 where
  pub behind : Behind have old n input
  pub bytes : Consumes given left (drop have (take n input))

got_fits : {E : Type 0} (r : Result ℕ E) (part : List ℕ) → ReadsAtMost r part → result_unwrap_or r 0 ≤ length part
got_fits (Ok n) part fits = fits.0
got_fits (Err e) part fits = omega arith

-- one read more
pub one_read : {E : Type 0} {have : ℕ} {old : List ℕ} {given left after : Option (List ℕ)} {m n : ℕ} {input : List ℕ} (part : List ℕ) (k : ℕ) (r : Result ℕ E)
    → Reading have old given left m input → ReadsAtMost r part → ReadConsumes left after r part → n ≡ m + result_unwrap_or r 0
    → Reading have old given after n (put_mid m k input part)
one_read {have = have} {old} {given} {left} {after} {m} {n} {input} part k r p fits read e =
    let within = p.behind.within in
    let front : length (take m input) ≡ m = length-take-le m input within in
    let q : Behind m input n (put_mid m k input part) =
    record {
      more = omega (arith, e);
      within = let g = got_fits r part fits in simp length-append (omega (arith, e, g, front));
      kept = take-put_mid_below m k input part m (omega arith) within;
    } in
    record {
      behind = read_twice have old m input n _ p.behind q;
      bytes = more_read given left after have m n input _ p.behind.more q.more within q.kept p.bytes
          (rw e (read_bytes left after r m (take m input) part (post_of m k input) front fits read));
    }
