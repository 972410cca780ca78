-- What `Words` owns is taken apart and made, and a `&mut` to one is opened and closed. Assumes `Logic`.
use Rattle.std.proofs.Common.{◌≡◌, ℕ, ◌*◌, ◌^◌, ◌<◌, List, [], ◌∷◌, ◌++◌, refl, sym, ap, ◌∙◌, w64}
use seplogic.Ra.Ura.{Ura}
use base.Fraction.{full_share}
use base.Logic.{id⊢, never}
use base.Stored.{Gv}
use base.Fml.{Lft, GName, Share, Fml, fsep, flt, flft, fobs, fauth, fbor, fobor}
use mir.Val.{Val, vint, vptr, vstruct, vcons, vnil, of_list}
use types.Logic.{Logic}
use types.Kit.{Goal, Soaks, Step, step, Seq, Item, ‵, ◌$◌, move, drop, rewrite, fsplit, fjoin, fpick, fpack, feq_l, feq_i, flt_l, flt_i}
use types.SemTy.{Body}
use denote.RattleType.{RattleType, Valss}
use denote.Memory.{cell_at, mem}
use denote.RawPtr.{Ptr, block_ptr, ptr_val, in_block, in_a_block}
use denote.Steps.{opens, closes, nothing}
use denote.Struct.Struct.{Struct, within}
use denote.Struct.Owning.{shape}
use Rattle.word_mem.specs.Ownership.{all_own}
use Rattle.word_mem.specs.declared.words.Words.{Words}
use Rattle.word_mem.specs.contracts.words.Words as C

-- the machine value of a pointer and a count
abbrev pub pair_of : Ptr → ℕ → Val
pair_of p n = vstruct (vcons (ptr_val p) (vcons (vint w64 n) vnil))

abbrev pub row_val : ℕ → ℕ → ℕ → Val
row_val b o n = pair_of (block_ptr b o) n

abbrev pub W : RattleType
W = C.the_row

-- the two fields, as a plain struct
abbrev pub Fields : RattleType
Fields = Struct (shape C.the_type)

abbrev pub places : Words → ℕ → ℕ → Fml
places d b o = all_own (block_ptr b o) d.items d.filled

module _ {M : Type 1} {𝓤 : Ura M} {𝓛 : Logic 𝓤} {K : Type 0} {Γ : List (Item 𝓤)} {G : Goal 𝓤 𝓛.H} where
  pub row-had : K → (d : Words) (vs : List Val)
      → ((b o : ℕ) → d.ptr ≡ block_ptr b o → vs ≡ row_val b o d.len ∷ [] → d.len < 2 ^ 64 → d.len * 8 < 2 ^ 63 → Seq K 𝓛 (‵ (places d b o) ∷ Γ) G)
      → Seq K 𝓛 (‵ (W.own_val d vs) ∷ Γ) G
  row-had t d vs k =
      fsplit t $ fpick t (λ vss. fsplit t $ feq_l t (λ all. fsplit t $ feq_l t (λ e₀. fsplit t $ fsplit t $ feq_l t (λ e₁. flt_l t (λ fn. drop t $ fsplit t $ flt_l t (λ fit.
      in_a_block t d.ptr (λ p. in_block p (all_own p d.items d.filled)) (id⊢ 𝓤 (never 𝓤)) (λ b o e.
      k b o e (all ∙ ((λ i. vstruct (of_list (e₀ i ++ (e₁ i ++ []))) ∷ []) ∙ ap (λ (p : Ptr). pair_of p d.len ∷ []) e)) fn fit)))))))

  pub row-made : K → (d : Words) (b o : ℕ) → d.ptr ≡ block_ptr b o → d.len < 2 ^ 64 → d.len * 8 < 2 ^ 63
      → Step K 𝓛 (‵ (W.own_val d (row_val b o d.len ∷ [])) ∷ Γ) G (‵ (places d b o) ∷ Γ) G
  row-made t d b o at fn fit = step (λ s.
      flt_i t (d.len * 8) (2 ^ 63) fit $ fjoin t $
      nothing t $ flt_i t d.len (2 ^ 64) fn $ feq_i t (List Val) (vint w64 d.len ∷ []) (vint w64 d.len ∷ []) refl $ fjoin t $ fjoin t $
      feq_i t (List Val) (vptr b o ∷ []) (vptr b o ∷ []) refl $ fjoin t $ feq_i t (List Val) (row_val b o d.len ∷ []) (row_val b o d.len ∷ []) refl $ fjoin t $
      fpack t (Valss (shape C.the_type).fields) (within (shape C.the_type) (block_ptr b o, (d.len, tt)) (row_val b o d.len ∷ [])) (vptr b o ∷ [], (vint w64 d.len ∷ [], tt)) $ fjoin t $
      rewrite t 0 (λ (p : Ptr). ‵ (fsep (Fields.own_val (p, (d.len, tt)) (row_val b o d.len ∷ [])) (fsep (flt (d.len * 8) (2 ^ 63)) (in_block p (all_own p d.items d.filled))))) (sym at) refl $ s)

module _ {M : Type 1} {𝓤 : Ura M} {𝓛 : Logic 𝓤} {K : Type 0} {Γ : List (Item 𝓤)} {G : Goal 𝓤 𝓛.H} where
  -- [the places; the two fields; the open borrow; obs; auth]
  pub row-opens : K → Soaks G → {κ : Lft} {q : Share} {γ : GName} (d : Words) (rb ro : ℕ)
      → ((b o : ℕ) → d.ptr ≡ block_ptr b o → d.len < 2 ^ 64 → d.len * 8 < 2 ^ 63
      → Seq K 𝓛 (‵ (places d b o) ∷ ‵ (cell_at full_share W.mir (row_val b o d.len ∷ []) rb ro) ∷ ‵ (fobor κ q (Body (mem W) rb ro γ)) ∷ ‵ (fobs γ (W.coded.code d)) ∷ ‵
      (fauth γ (W.coded.code d)) ∷ Γ) G)
      → Seq K 𝓛 (‵ (fobs γ (W.coded.code d)) ∷ ‵ (fbor κ (Body (mem W) rb ro γ)) ∷ ‵ (flft κ q) ∷ Γ) G
  row-opens t z d rb ro k =
      opens t z W {h = d} rb ro (λ vs. move t (1 ∷ []) $ row-had t d vs (λ b o e is fn fit.
      rewrite t 1 (λ (ws : List Val). ‵ (cell_at full_share W.mir ws rb ro)) is refl $ k b o e fn fit))

  pub row-closes : K → Soaks G → {κ : Lft} {q : Share} {u v : Gv} {γ : GName} (d : Words) (b o rb ro : ℕ) → d.ptr ≡ block_ptr b o → d.len < 2 ^ 64 → d.len * 8 < 2 ^ 63
      → Step K 𝓛 (‵ (fobs γ (W.coded.code d)) ∷ ‵ (fbor κ (Body (mem W) rb ro γ)) ∷ ‵ (flft κ q) ∷ Γ) G
      (‵ (places d b o) ∷ ‵ (cell_at full_share W.mir (row_val b o d.len ∷ []) rb ro) ∷ ‵ (fobor κ q (Body (mem W) rb ro γ)) ∷ ‵ (fobs γ u) ∷ ‵ (fauth γ v) ∷ Γ) G
  row-closes t z d b o rb ro at fn fit = step (λ s. row-made t d b o at fn fit $ move t (1 ∷ 0 ∷ []) $ closes t z W d (row_val b o d.len ∷ []) rb ro $ s)
