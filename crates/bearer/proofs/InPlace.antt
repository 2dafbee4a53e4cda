-- Functions that take a struct of plain data by `&mut`, pass a copy of it to a function by value, and store the struct that comes
-- back: the steps that their proofs share, for any such struct. Assumes nothing.
use Prim.Native.Nat.{ℕ}
use mathlib.Core.List.{List, [], ◌∷◌}
use seplogic.Ra.Ura.{Ura}
use base.Fraction.{full_share}
use mir.Syntax.{Fn}
use mir.Val.{Val}
use base.Logic.{ent, via, fst∗, id⊢}
use base.Stored.{Gv}
use base.Fml.{Lft, GName, Share, flft, fobs, fauth, fbor, fobor}
use prog.Wp.{WpFn, Tables}
use types.Logic.{Logic}
use contract.Lifetimes.{Lfts, Shares, AllOutlive}
use types.Kit.{Goal, Soaks, Item, Seq, Step, step, ‵, raw, some, later, ◌⊛◌, ◌$◌, move, drop, use1, split, pick, await}
use types.SemTy.{Body}
use sound.WpLaws.{WpFn-mono}
use denote.RattleType.{flat}
use denote.Laws.{Is, shows, Are, Ises, Spells, valss, Tellss}
use denote.Memory.{mem, cell_at}
use denote.Signature.{type_at, types_at}
use denote.Steps.{opens, closes, owned, peeks}
use denote.Struct.Struct.{Plains}
use denote.Struct.Declared.{Declared, row, fields}
use denote.Struct.Steps.{spelt}
use denote.Struct.Laws as LL
use denote.Triple.Entry.{Args, Res, alive, on_entry}
use denote.Triple.Spec.{Meets, triple_of}
use denote.Triple.Clauses.{Clauses, Ended, Lasts, at_exit, lasts, ensured, closing}
use denote.Triple.Walked.{Stays, AllGo, walk_of, walked, walk_Meets}

module _ {M : Type 1} {𝓤 : Ura M} {𝓛 : Logic 𝓤} {K : Type 0} {Γ : List (Item 𝓤)} {G : Goal 𝓤 𝓛.H} where
  -- a `&κ mut T` is opened: its machine value is written out, and what relates the two is in hand. What the value owns is let go,
  -- since it is facts alone
  pub takes : K → Soaks G → (T : Declared) (L : LL.Laws T) → {κ : Lft} {q : Share} {γ : GName} (h : T.D) (b o : ℕ)
      → (Is (row T) h (LL.vals T L h)
      → Seq K 𝓛 (‵ (cell_at full_share (row T).mir (LL.vals T L h) b o) ∷ ‵ (fobor κ q (Body (mem (row T)) b o γ)) ∷ ‵ (fobs γ ((row T).coded.code h)) ∷ ‵ (fauth γ ((row T).coded.code h)) ∷ Γ) G)
      → Seq K 𝓛 (‵ (fobs γ ((row T).coded.code h)) ∷ ‵ (fbor κ (Body (mem (row T)) b o γ)) ∷ ‵ (flft κ q) ∷ Γ) G
  takes t z T L h b o k =
      opens t z (row T) {h = h} b o (λ vs. spelt t (row T) (Is (row T)) (shows 𝓛 (row T)) (LL.vals T L) (LL.tells T L) full_share h vs b o $
      move t (1 ∷ []) $ peeks t (row T) (Is (row T)) (shows 𝓛 (row T)) h (LL.vals T L h) (λ g. drop t $ k g))

  -- the open borrow is closed at the value h' that was stored
  pub puts : K → Soaks G → (T : Declared) (L : LL.Laws T) → Plains (fields T) → {κ : Lft} {q : Share} {u v : Gv} (h' : T.D) → Is (row T) h' (LL.vals T L h') → {γ : GName} (b o : ℕ)
      → Step K 𝓛 (‵ (fobs γ ((row T).coded.code h')) ∷ ‵ (fbor κ (Body (mem (row T)) b o γ)) ∷ ‵ (flft κ q) ∷ Γ) G
      (‵ (cell_at full_share (row T).mir (LL.vals T L h') b o) ∷ ‵ (fobor κ q (Body (mem (row T)) b o γ)) ∷ ‵ (fobs γ u) ∷ ‵ (fauth γ v) ∷ Γ) G
  puts t z T L pl h' is b o =
      step (λ s. owned t (row T) (Is (row T)) (LL.makes T pl 𝓛) h' (LL.vals T L h') is $ move t (1 ∷ 0 ∷ []) $ closes t z (row T) h' (LL.vals T L h') b o $ s)

  -- the callee has returned v: it stands for some result r, and each `&mut` that was given has a last value among ws. In hand are what
  -- the callee promises of them, the last values, the callee's tokens, and what the result owns
  pub answers : K → Soaks G → (T : Ended) (c : Clauses 𝓤 T) (y : (triple_of 𝓛 T.signature (closing 𝓛 T c)).Ghost) (v : Val)
      → ((r : Res T.signature y.0.0) (ws : Lasts T y.0.0 y.0.3)
      → Seq K 𝓛 (raw ((c y.0.0 y.0.3).ensures y.1 r (at_exit T y.0.0 y.0.3 ws)) ∷ ‵ (lasts T y.0.0 y.0.3 ws) ∷ raw (alive 𝓛 T.signature y.0.0 y.0.1) ∷ ‵ ((type_at T.signature.result y.0.0).own_val r (v ∷ [])) ∷ Γ) G)
      → Seq K 𝓛 (raw ((triple_of 𝓛 T.signature (closing 𝓛 T c)).post y v) ∷ Γ) G
  answers t z T c y v k =
      use1 𝓛 (later (some (λ (r : Res T.signature y.0.0). (raw (alive 𝓛 T.signature y.0.0 y.0.1) ⊛ ‵ ((type_at T.signature.result y.0.0).own_val r (v ∷ []))) ⊛ raw (ensured 𝓛 T c y.0.0 y.0.3 y.1 r)))) (id⊢ 𝓤 _) $
      await t z $ pick t (λ r. split t $ move t (1 ∷ []) $
      use1 𝓛 (some (λ (ws : Lasts T y.0.0 y.0.3). ‵ (lasts T y.0.0 y.0.3 ws) ⊛ raw ((c y.0.0 y.0.3).ensures y.1 r (at_exit T y.0.0 y.0.3 ws)))) (id⊢ 𝓤 _) $
      pick t (λ ws. split t $ move t (2 ∷ []) $ split t $ move t (3 ∷ 2 ∷ []) $ k r ws))

-- from a walk of a function's MIR to its contract, for a function that requires nothing
pub meets : {M : Type 1} {𝓤 : Ura M} (𝓛 : Logic 𝓤) (T : Ended) (hs : Stays T.signature.params T.kept)
    → AllGo 𝓛 T.signature.lifetimes T.signature.params T.kept hs
    → (c : Clauses 𝓤 T) (f : Fn) (𝓣 : Tables 𝓤 𝓛.H) (sp : (κs : Lfts T.signature.lifetimes) → Spells (types_at T.signature.params κs))
    → ((κs : Lfts T.signature.lifetimes) → Tellss (types_at T.signature.params κs) (Ises (types_at T.signature.params κs)) (sp κs))
    → ((κs : Lfts T.signature.lifetimes) (qs : Shares T.signature.lifetimes) (bounds : AllOutlive T.signature.lifetimes T.signature.outlives κs) (a : Args T.signature κs) (g : (c κs a).ghost)
    → Are (types_at T.signature.params κs) (Ises (types_at T.signature.params κs)) a (valss (types_at T.signature.params κs) (sp κs) a)
    → ent 𝓤 (on_entry 𝓛 T.signature κs qs a (valss (types_at T.signature.params κs) (sp κs) a))
    (WpFn 𝓤 𝓛.H 𝓣.C 𝓣.Λ f (flat (types_at T.signature.params κs) (valss (types_at T.signature.params κs) (sp κs) a))
    ((walk_of 𝓛 T hs c).post ((κs, qs, bounds, a, valss (types_at T.signature.params κs) (sp κs) a), g))))
    → Meets 𝓛 T.signature (WpFn 𝓤 𝓛.H 𝓣.C 𝓣.Λ f) (closing 𝓛 T c)
meets {𝓤 = 𝓤} 𝓛 T hs go c f 𝓣 sp tl k =
    walk_Meets 𝓛 T hs go c (WpFn 𝓤 𝓛.H 𝓣.C 𝓣.Λ f) (WpFn-mono 𝓤 𝓛.H 𝓛.laws 𝓣 f)
    (walked 𝓛 T hs c (WpFn 𝓤 𝓛.H 𝓣.C 𝓣.Λ f) sp tl (λ κs qs bounds a g are. via 𝓤 _ (fst∗ 𝓤 _ ((c κs a).requires g)) (k κs qs bounds a g are)))
