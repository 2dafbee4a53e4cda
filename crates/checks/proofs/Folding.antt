-- Words of 64 digits, for every generator: moved up by sums of powers of D, put one after the other, and filled from octets.
-- Assumes nothing.
use mathlib.Core.Path.{◌≡◌, refl, sym, ap, ap₂, ◌∙◌, subst}
use mathlib.Core.List.{List, [], ◌∷◌, ◌++◌}
use Prim.Native.Nat.{ℕ, zero, suc, ◌+◌, ◌-◌, ◌*◌, ◌/◌, ◌%◌, ◌^◌, ◌<◌, ◌≤◌}
use native.Mathlib.Nat.{mod-lt, mod-le, add-zero, add_comm, add-suc, zero-add, pow-suc, div-eq_of_lt, lt_of_le_of_lt, lt_of_lt_of_le, div-mul-le_self}
use native.Mathlib.Omega.{arith}
use lib.Arith.{digits_div}
use lib.Pow.{pow_pos, pow-add, pow_mono, split, shl_lt, shr_lt, shl-shr, shr-shr}
use lib.Bits.{bit_xor, xor_shifted, xor_lt, xor_zero_r, xor_comm, xor_assoc}
use lib.ListN.{length, get_or, drop}
use lib.Seq.{drop-cons}
use Rattle.std.proofs.lemmas.List.{drop_all}
use Rattle.fields.specs.Numbers.{be}
use Rattle.fields.proofs.ReadAgain.{be_lt}
use Rattle.checks.specs.Check.{divide, low_digits}
use Rattle.checks.specs.Inside.{Generator, SameAs, feed, leaves, passed, powers, words, ups}
use Rattle.checks.proofs.Division.{feed_lt, feed_xor, feed_apart, feed_split, feed_zeros, feed_small, feed_low, agree}
use Rattle.checks.proofs.Rows.{run_nil, passed_next}

-- each of the exponents is at most n
pub data Within (n : ℕ) : List ℕ → Type 0 where
  none : Within n []
  more : {e : ℕ} {es : List ℕ} → e ≤ n → Within n es → Within n (e ∷ es)

pub within_three : {n a b c : ℕ} → a ≤ n → b ≤ n → c ≤ n → Within n (a ∷ b ∷ c ∷ [])
within_three ha hb hc = more ha (more hb (more hc none))

-- the n words of ws from i on, which are all that stand there
abbrev words_from : ℕ → List ℕ → ℕ → List ℕ
words_from zero ws i = []
words_from (suc n) ws i = get_or ws i 0 ∷ words_from n ws (suc i)

each_word : (n : ℕ) (ws : List ℕ) (i : ℕ) → i + n ≡ length ws → drop i ws ≡ words_from n ws i
each_word zero ws i h = drop_all i ws (omega arith)
each_word (suc n) ws i h = drop-cons ws i 0 (omega arith) ∙ ap (λ t. get_or ws i 0 ∷ t) (each_word n ws (suc i) (omega arith))

-- a block, word by word
pub eight : (ws : List ℕ) → 8 ≡ length ws → ws ≡ words_from 8 ws 0
eight ws h = each_word 8 ws 0 h

-- how many digits some words have
abbrev pub span : List ℕ → ℕ
span [] = 0
span (w ∷ ws) = 64 + span ws

out : (a b x : ℕ) → b + a ≡ 64 → x * 2 ^ a / 2 ^ 64 ≡ x / 2 ^ b
out a b x e =
    ap (λ (n : ℕ). x * 2 ^ a / 2 ^ n) (sym e ∙ add_comm b a) ∙ sym (shr-shr (x * 2 ^ a) a b)
    ∙ ap (λ (y : ℕ). y / 2 ^ b) (shl-shr x a)

-- a word that is reduced is shorter
pub reduced_lt : (n a b c x m u : ℕ) → x < 2 ^ (m + n) → n ≤ u → m + a ≤ u → m + b ≤ u → m + c ≤ u
    → bit_xor (ups (x / 2 ^ n) (a ∷ b ∷ c ∷ [])) (x % 2 ^ n) < 2 ^ u
reduced_lt n a b c x m u hx hn ha hb hc =
    let h : ℕ = x / 2 ^ n in
    let hh : h < 2 ^ m = shr_lt m n hx in
    let one : (e : ℕ) → m + e ≤ u → h * 2 ^ e % 2 ^ 64 < 2 ^ u = λ e l. lt_of_le_of_lt (mod-le (h * 2 ^ e) (2 ^ 64)) (lt_of_lt_of_le (shl_lt m e hh) (pow_mono l)) in
    xor_lt u (ups h (a ∷ b ∷ c ∷ [])) (x % 2 ^ n)
    (xor_lt u (h * 2 ^ a % 2 ^ 64) (ups h (b ∷ c ∷ [])) (one a ha)
    (xor_lt u (h * 2 ^ b % 2 ^ 64) (ups h (c ∷ [])) (one b hb) (xor_lt u (h * 2 ^ c % 2 ^ 64) 0 (one c hc) (pow_pos u))))
    (lt_of_lt_of_le (mod-lt x (pow_pos n)) (pow_mono hn))

octets_pow : (w : ℕ) → 256 ^ w ≡ 2 ^ (8 * w)
octets_pow zero = refl
octets_pow (suc w) =
    let e : 8 * w + 8 ≡ 8 * suc w = omega arith in
    pow-suc 256 w ∙ ap (λ (m : ℕ). m * 256) (octets_pow w) ∙ sym (pow-add 2 (8 * w) 8) ∙ ap (λ (n : ℕ). 2 ^ n) e

module _ {g k : ℕ} (G : Generator g k) where
  -- zeros in front do not count
  feed_pad : (m n x : ℕ) → x < 2 ^ n → feed g k (m + n) 0 x ≡ feed g k n 0 x
  feed_pad m n x h =
      feed_split G m n 0 x
      ∙ ap (λ (y : ℕ). feed g k n (feed g k m 0 y) x) (div-eq_of_lt h)
      ∙ ap (λ (r : ℕ). feed g k n r x) (feed_small G m 0 (pow_pos m) (pow_pos k))

  -- digits above the 64 low ones do not count
  word_low : (x : ℕ) → leaves g k (x % 2 ^ 64) ≡ leaves g k x
  word_low x = sym (feed_low G 64 0 (x / 2 ^ 64) (x % 2 ^ 64)) ∙ ap (feed g k 64 0) (split x 64)

  word_lt : (x : ℕ) → leaves g k x < 2 ^ k
  word_lt x = feed_lt G 64 0 x (pow_pos k)

  word_xor : (x y : ℕ) → leaves g k (bit_xor x y) ≡ bit_xor (leaves g k x) (leaves g k y)
  word_xor x y = feed_xor G 64 0 0 x y (pow_pos k) (pow_pos k)

  word_zero : leaves g k 0 ≡ 0
  word_zero = feed_small G 64 0 (pow_pos 64) (pow_pos k)

  -- a word times D^a: what leaves it at the top, as a word ahead, and what stays
  shift : (a b x : ℕ) → b + a ≡ 64 → x < 2 ^ 64
      → feed g k a (leaves g k x) 0 ≡ bit_xor (feed g k 64 (leaves g k (x * 2 ^ a / 2 ^ 64)) 0) (leaves g k (x * 2 ^ a))
  shift a b x e h =
      let y : ℕ = x * 2 ^ a in
      let t : ℕ = y / 2 ^ 64 in
      let ht : t < 2 ^ a = shr_lt a 64 (subst (λ (n : ℕ). y < 2 ^ n) (add_comm 64 a) (shl_lt 64 a h)) in
      sym (feed_low G a (leaves g k x) x 0)
      ∙ ap₂ (λ (z u : ℕ). feed g k a (leaves g k z) u) (sym (shl-shr x a)) (add-zero y)
      ∙ sym (feed_split G 64 a 0 y)
      ∙ ap (λ (n : ℕ). feed g k n 0 y) (add_comm 64 a)
      ∙ feed_split G a 64 0 y
      ∙ feed_apart G 64 (feed g k a 0 t) y (feed_lt G a 0 t (pow_pos k))
      ∙ ap (λ (r : ℕ). bit_xor (feed g k 64 r 0) (leaves g k y))
      (sym (feed_pad b a t ht) ∙ ap (λ (n : ℕ). feed g k n 0 t) e)

  -- nothing leaves it
  pub shift_small : (a b x : ℕ) → b + a ≡ 64 → x < 2 ^ 64 → x * 2 ^ a < 2 ^ 64
      → feed g k a (leaves g k x) 0 ≡ leaves g k (x * 2 ^ a % 2 ^ 64)
  shift_small a b x e h i =
      shift a b x e h
      ∙ ap (λ (t : ℕ). bit_xor (feed g k 64 (leaves g k t) 0) (leaves g k (x * 2 ^ a))) (div-eq_of_lt i)
      ∙ ap (λ (r : ℕ). bit_xor r (leaves g k (x * 2 ^ a))) (ap (λ (r : ℕ). feed g k 64 r 0) word_zero ∙ word_zero)
      ∙ sym (word_low (x * 2 ^ a))

  -- a sum of powers times a short word
  ups_small : (m n h : ℕ) {es : List ℕ} → m + n ≡ 64 → h < 2 ^ m → Within n es → leaves g k (ups h es) ≡ powers g k es (leaves g k h)
  ups_small m n h s hh none = word_zero
  ups_small m n h s hh (more {e} {es} he w) =
      let r : 64 - e + e ≡ 64 = omega arith in
      let i : h < 2 ^ 64 = lt_of_lt_of_le hh (pow_mono {j = 64} (omega arith)) in
      let j : h * 2 ^ e < 2 ^ 64 = lt_of_lt_of_le (shl_lt m e hh) (pow_mono {j = 64} (omega arith)) in
      word_xor (h * 2 ^ e % 2 ^ 64) (ups h es) ∙ ap₂ bit_xor (sym (shift_small e (64 - e) h r i j)) (ups_small m n h s hh w)

  -- a sum of powers times what a short word stands for, plus another word
  pub carried : (es : List ℕ) (x x' y : ℕ) → x' < 2 ^ 38 → Within 26 es → leaves g k x' ≡ leaves g k x
      → leaves g k (bit_xor (ups x' es) y) ≡ bit_xor (powers g k es (leaves g k x)) (leaves g k y)
  carried es x x' y h w e =
      word_xor (ups x' es) y ∙ ap (λ (m : ℕ). bit_xor m (leaves g k y)) (ups_small 38 26 x' refl h w ∙ ap (powers g k es) e)

  -- where D^n is a sum of powers, it is so at every remainder
  pub times : (n : ℕ) (es : List ℕ) → SameAs g k n es → (r : ℕ) → r < 2 ^ k → feed g k n r 0 ≡ powers g k es r
  times n es e r h = sym (xor_zero_r (feed g k n r 0)) ∙ agree G (n ∷ []) es e r h

  -- digits from n on come back as the sum that D^n is
  pub reduced : (n : ℕ) (es : List ℕ) (x : ℕ) → n ≤ 64 → x < 2 ^ 64 → Within n es → SameAs g k n es
      → leaves g k (bit_xor (ups (x / 2 ^ n) es) (x % 2 ^ n)) ≡ leaves g k x
  reduced n es x hn hx w dn =
      let h : ℕ = x / 2 ^ n in
      let y : ℕ = x % 2 ^ n in
      let s : 64 - n + n ≡ 64 = omega arith in
      let hh : h < 2 ^ (64 - n) = shr_lt (64 - n) n (subst (λ (m : ℕ). x < 2 ^ m) (sym s) hx) in
      let i : h < 2 ^ 64 = lt_of_lt_of_le hh (pow_mono {j = 64} (omega arith)) in
      let j : h * 2 ^ n < 2 ^ 64 = lt_of_le_of_lt (div-mul-le_self x (2 ^ n)) hx in
      word_xor (ups h es) y
      ∙ ap (λ (m : ℕ). bit_xor m (leaves g k y))
      (ups_small (64 - n) n h s hh w
      ∙ sym (times n es dn (leaves g k h) (word_lt h))
      ∙ shift_small n (64 - n) h s i j
      ∙ word_low (h * 2 ^ n))
      ∙ sym (word_xor (h * 2 ^ n) y)
      ∙ ap (leaves g k) (xor_shifted h n y (mod-lt x (pow_pos n)) ∙ split x n)

  -- the remainder of a short word: its upper digits by a rule f that is right of them, and its lower ones
  pub rest : (f : ℕ → ℕ) (z : ℕ) → k ≤ 64 → z < 2 ^ 64 → z / 2 ^ k < 2 ^ k → f (z / 2 ^ k) ≡ feed g k k (z / 2 ^ k) 0
      → bit_xor (f (z / 2 ^ k)) (z % 2 ^ k) ≡ leaves g k z
  rest f z hk hz hh e =
      let h : ℕ = z / 2 ^ k in
      let l : ℕ = z % 2 ^ k in
      let s : 64 - k + k ≡ 64 = omega arith in
      let i : h < 2 ^ 64 = lt_of_lt_of_le hh (pow_mono {j = 64} (omega arith)) in
      let j : h * 2 ^ k < 2 ^ 64 = lt_of_le_of_lt (div-mul-le_self z (2 ^ k)) hz in
      ap₂ bit_xor
      (e ∙ ap (λ (m : ℕ). feed g k k m 0) (sym (feed_small G 64 h i hh)) ∙ shift_small k (64 - k) h s i j ∙ word_low (h * 2 ^ k))
      (sym (feed_small G 64 l (lt_of_le_of_lt (mod-le z (2 ^ k)) hz) (mod-lt z (pow_pos k))))
      ∙ sym (word_xor (h * 2 ^ k) l)
      ∙ ap (leaves g k) (xor_shifted h k l (mod-lt z (pow_pos k)) ∙ split z k)

  -- octets of a row, as a field
  octet_more : (n r y b : ℕ) → b < 256 → feed g k (n + 8) r (y * 256 + b) ≡ feed g k 8 (feed g k n r y) b
  octet_more n r y b h =
      feed_split G n 8 r (y * 256 + b)
      ∙ ap (λ (z : ℕ). feed g k 8 (feed g k n r z) (y * 256 + b)) (digits_div y h)
      ∙ feed_low G 8 (feed g k n r y) y b

  module _ (s : List ℕ) (octet : (i : ℕ) → get_or s i 0 < 256) where
    passed_field : (w i : ℕ) → i + w ≤ length s → feed g k (8 * w) (passed g k s i) (be w s i) ≡ passed g k s (i + w)
    unfolding be divide low_digits
    passed_field zero i h = ap (passed g k s) (sym (add-zero i))
    passed_field (suc w) i h =
        let e : 8 * suc w ≡ 8 * w + 8 = omega arith in
        ap (λ (n : ℕ). feed g k n (passed g k s i) (be (suc w) s i)) e
        ∙ octet_more (8 * w) (passed g k s i) (be w s i) (get_or s (i + w) 0) (octet (i + w))
        ∙ ap (λ (r : ℕ). feed g k 8 r (get_or s (i + w) 0)) (passed_field w i (omega arith))
        ∙ sym (passed_next g k s (i + w) (omega arith))
        ∙ ap (passed g k s) (sym (add-suc i w))

    -- eight octets more
    pub passed_word : (i : ℕ) → i + 8 ≤ length s → feed g k 64 (passed g k s i) (be 8 s i) ≡ passed g k s (i + 8)
    passed_word i h = passed_field 8 i h

    -- the first octets, at most eight of them
    pub first_octets : (i : ℕ) → i ≤ 8 → i ≤ length s → leaves g k (be i s 0) ≡ passed g k s i
    first_octets i hi hs =
        let e : 64 ≡ 64 - 8 * i + 8 * i = omega arith in
        let l : be i s 0 < 2 ^ (8 * i) = subst (λ (m : ℕ). be i s 0 < m) (octets_pow i) (be_lt s octet i 0) in
        ap (λ (n : ℕ). feed g k n 0 (be i s 0)) e
        ∙ feed_pad (64 - 8 * i) (8 * i) (be i s 0) l
        ∙ ap (λ (r : ℕ). feed g k (8 * i) r (be i s 0)) (sym (run_nil g k 0))
        ∙ passed_field i 0 (rw zero-add hs)
        ∙ ap (passed g k s) (zero-add i)

    -- a word folded onto what stands for the octets before it
    pub next_word : (es : List ℕ) (i x w r : ℕ) → SameAs g k 64 es → i + 8 ≤ length s
        → leaves g k x ≡ passed g k s i → w ≡ be 8 s i → leaves g k r ≡ bit_xor (powers g k es (leaves g k x)) (leaves g k w)
        → leaves g k r ≡ passed g k s (i + 8)
    next_word es i x w r d64 h ex ew er =
        er
        ∙ ap (λ (m : ℕ). bit_xor m (leaves g k w)) (sym (times 64 es d64 (leaves g k x) (word_lt x)))
        ∙ sym (feed_apart G 64 (leaves g k x) w (word_lt x))
        ∙ ap₂ (feed g k 64) ex ew
        ∙ passed_word i h

  words_lt : (r : ℕ) (ws : List ℕ) → r < 2 ^ k → words g k r ws < 2 ^ k
  words_lt r [] h = h
  words_lt r (w ∷ ws) h = words_lt (feed g k 64 r w) ws (feed_lt G 64 r w h)

  -- the remainder so far and the words, apart
  words_apart : (r : ℕ) (ws : List ℕ) → r < 2 ^ k → words g k r ws ≡ bit_xor (feed g k (span ws) r 0) (words g k 0 ws)
  unfolding divide low_digits
  words_apart r [] h = sym (xor_zero_r r)
  words_apart r (w ∷ ws) h =
      let r' : ℕ = feed g k 64 r 0 in
      let x : ℕ = leaves g k w in
      let n : ℕ = span ws in
      words_apart (feed g k 64 r w) ws (feed_lt G 64 r w h)
      ∙ ap (λ (m : ℕ). bit_xor (feed g k n m 0) (words g k 0 ws)) (feed_apart G 64 r w h)
      ∙ ap (λ (m : ℕ). bit_xor m (words g k 0 ws)) (feed_xor G n r' x 0 0 (feed_lt G 64 r 0 h) (word_lt w))
      ∙ xor_assoc (feed g k n r' 0) (feed g k n x 0) (words g k 0 ws)
      ∙ ap₂ bit_xor (sym (feed_zeros G 64 n r)) (sym (words_apart x ws (word_lt w)))

  words_append : (r : ℕ) (xs ys : List ℕ) → words g k r (xs ++ ys) ≡ words g k (words g k r xs) ys
  words_append r [] ys = refl
  words_append r (x ∷ xs) ys = words_append (feed g k 64 r x) xs ys

  -- words of zeros in front do not count
  pub lead : (ws : List ℕ) → words g k 0 (0 ∷ ws) ≡ words g k 0 ws
  lead ws = ap (λ (r : ℕ). words g k r ws) word_zero

  -- one word in place of two parts
  pub joint : (es xs ys : List ℕ) (p q r : ℕ) → SameAs g k (span ys) es
      → leaves g k p ≡ words g k 0 xs → leaves g k q ≡ words g k 0 ys
      → leaves g k r ≡ bit_xor (powers g k es (leaves g k p)) (leaves g k q)
      → leaves g k r ≡ words g k 0 (xs ++ ys)
  joint es xs ys p q r e hp hq hr =
      hr
      ∙ ap₂ bit_xor (ap (powers g k es) hp ∙ sym (times (span ys) es e (words g k 0 xs) (words_lt 0 xs (pow_pos k)))) hq
      ∙ sym (words_apart (words g k 0 xs) ys (words_lt 0 xs (pow_pos k)))
      ∙ sym (words_append 0 xs ys)

  -- a word pushed behind eight, where D^512 is D
  pub pushed : SameAs g k 512 (1 ∷ []) → (a b c d e f m n w : ℕ) → a < 2 ^ 64
      → words g k 0 (b ∷ c ∷ d ∷ e ∷ f ∷ m ∷ bit_xor n (a / 2 ^ 63) ∷ bit_xor w (a * 2 % 2 ^ 64) ∷ [])
      ≡ feed g k 64 (words g k 0 (a ∷ b ∷ c ∷ d ∷ e ∷ f ∷ m ∷ n ∷ [])) w
  pushed turn a b c d e f m n w h =
      let P : ℕ = words g k 0 (b ∷ c ∷ d ∷ e ∷ f ∷ m ∷ []) in
      let hP : P < 2 ^ k = words_lt 0 (b ∷ c ∷ d ∷ e ∷ f ∷ m ∷ []) (pow_pos k) in
      let t : ℕ = a / 2 ^ 63 in
      let u : ℕ = a * 2 % 2 ^ 64 in
      let A : ℕ = leaves g k a in
      ap (λ (r : ℕ). feed g k 64 r (bit_xor w u))
      (ap (λ (r : ℕ). feed g k 64 r (bit_xor n t)) (sym (xor_zero_r P)) ∙ feed_xor G 64 P 0 n t hP (pow_pos k))
      ∙ feed_xor G 64 (feed g k 64 P n) (leaves g k t) w u (feed_lt G 64 P n hP) (word_lt t)
      ∙ ap (bit_xor (feed g k 64 (feed g k 64 P n) w))
      (feed_apart G 64 (leaves g k t) u (word_lt t)
      ∙ ap₂ (λ (x y : ℕ). bit_xor (feed g k 64 (leaves g k x) 0) y) (sym (out 1 63 a refl)) (word_low (a * 2))
      ∙ sym (shift 1 63 a refl h)
      ∙ sym (xor_zero_r (feed g k 1 A 0))
      ∙ sym (times 512 (1 ∷ []) turn A (word_lt a)))
      ∙ xor_comm (feed g k 64 (feed g k 64 P n) w) (feed g k 512 A 0)
      ∙ sym (words_apart A (b ∷ c ∷ d ∷ e ∷ f ∷ m ∷ n ∷ w ∷ []) (word_lt a))
