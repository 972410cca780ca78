-- What a `&` to a row of words shows: its two fields, and a `&` to each word that was written. Assumes `Logic`.
use Rattle.std.proofs.Common.{◌≡◌, ℕ, zero, suc, ◌+◌, ◌*◌, ◌^◌, ◌<◌, Bool, true, false, List, [], ◌∷◌, length, get_or, refl}
use native.Mathlib.Nat.{not-suc-le-zero, le_of_suc-le-suc}
use seplogic.Ra.Ura.{Ura}
use base.Logic.{ent, sep, never}
use base.Fml.{Lft, flt, fhide}
use types.Logic.{Logic, sem}
use types.Kit.{‵, ◌⊛◌, ◌$◌, ◌∵◌, !, qed, by, move, keep, drop, use1, split, rewrite, fsplit, done}
use denote.Builtin.{u64, usize}
use denote.Index.{place, place_is}
use denote.Memory.{hidden_shr}
use denote.Opens.{unhide}
use denote.RawPtr.{RawPtr, block_ptr, null_ptr}
use denote.Struct.Lending.{lent_out}
use Rattle.word_mem.specs.Ownership.{word_lent, all_lent}
use Rattle.word_mem.specs.declared.words.Words.{Words}
use Rattle.word_mem.specs.contracts.words.Words as C
use Rattle.word_mem.proofs.Rows.{W, Fields}

module _ {M : Type 1} {𝓤 : Ura M} (𝓛 : Logic 𝓤) (κ : Lft) where
  pub shown : (d : Words) (b o : ℕ) → ent 𝓤 (sem 𝓛 (hidden_shr W κ d b o)) (sep 𝓤 (sem 𝓛 (hidden_shr RawPtr κ d.ptr b (o + 0))) (sep 𝓤 (sem 𝓛 (hidden_shr usize κ d.len b (o + 8)))
      (sep 𝓤 (sem 𝓛 (flt (d.len * 8) (2 ^ 63))) (sem 𝓛 (all_lent d.ptr d.items d.filled κ)))))
  shown d b o = qed 𝓛 (‵ (hidden_shr W κ d b o) ∷ []) ∵
      use1 𝓛 (‵ (hidden_shr Fields κ (d.ptr, (d.len, tt)) b o) ⊛ ‵ (fhide (C.the_lent d d.ptr κ))) (lent_out 𝓛 C.struct C.the_codes C.the_heap C.the_lent κ d b o) $ split ! $
      unhide ! $ fsplit ! $ fsplit ! $ move ! (1 ∷ []) $ fsplit ! $ keep ! (2 ∷ 0 ∷ 4 ∷ []) $ done !

  pub none-at-null : (xs : List ℕ) (fs : List Bool) (i : ℕ) → i < length xs → i < length fs → get_or fs i false ≡ true → ent 𝓤 (sem 𝓛 (all_lent null_ptr xs fs κ)) (never 𝓤)
  none-at-null [] fs i l m full = absurd (not-suc-le-zero l)
  none-at-null (x ∷ xs) [] i l m full = absurd (not-suc-le-zero m)
  none-at-null (x ∷ xs) (f ∷ fs) zero l m full = qed 𝓛 (‵ (word_lent f null_ptr x κ) ∷ ‵ (all_lent null_ptr xs fs κ) ∷ []) ∵
      rewrite ! 0 (λ (g : Bool). ‵ (word_lent g null_ptr x κ)) full refl $ fsplit ! $ keep ! (0 ∷ []) $ done !
  none-at-null (x ∷ xs) (f ∷ fs) (suc i) l m full = qed 𝓛 (‵ (word_lent f null_ptr x κ) ∷ ‵ (all_lent null_ptr xs fs κ) ∷ []) ∵
      drop ! $ by ! (none-at-null xs fs i (le_of_suc-le-suc l) (le_of_suc-le-suc m) full)

  one-lent : (b o : ℕ) (xs : List ℕ) (fs : List Bool) (i : ℕ) → i < length xs → i < length fs → get_or fs i false ≡ true
      → ent 𝓤 (sem 𝓛 (all_lent (block_ptr b o) xs fs κ)) (sem 𝓛 (hidden_shr u64 κ (get_or xs i 0) b (place 8 o i)))
  one-lent b o [] fs i l m full = absurd (not-suc-le-zero l)
  one-lent b o (x ∷ xs) [] i l m full = absurd (not-suc-le-zero m)
  one-lent b o (x ∷ xs) (f ∷ fs) zero l m full = qed 𝓛 (‵ (word_lent f (block_ptr b o) x κ) ∷ ‵ (all_lent (block_ptr b (o + 8)) xs fs κ) ∷ []) ∵
      rewrite ! 0 (λ (g : Bool). ‵ (word_lent g (block_ptr b o) x κ)) full refl $ fsplit ! $ keep ! (1 ∷ []) $ done !
  one-lent b o (x ∷ xs) (f ∷ fs) (suc i) l m full = qed 𝓛 (‵ (word_lent f (block_ptr b o) x κ) ∷ ‵ (all_lent (block_ptr b (o + 8)) xs fs κ) ∷ []) ∵
      drop ! $ by ! (one-lent b (o + 8) xs fs i (le_of_suc-le-suc l) (le_of_suc-le-suc m) full)

  pub word-shown : (b o : ℕ) (xs : List ℕ) (fs : List Bool) (i : ℕ) → i < length xs → i < length fs → get_or fs i false ≡ true
      → ent 𝓤 (sem 𝓛 (all_lent (block_ptr b o) xs fs κ)) (sem 𝓛 (hidden_shr u64 κ (get_or xs i 0) b (i * 8 + o)))
  word-shown b o xs fs i l m full = qed 𝓛 (‵ (all_lent (block_ptr b o) xs fs κ) ∷ []) ∵
      use1 𝓛 (‵ (hidden_shr u64 κ (get_or xs i 0) b (place 8 o i))) (one-lent b o xs fs i l m full) $
      rewrite ! 0 (λ (k : ℕ). ‵ (hidden_shr u64 κ (get_or xs i 0) b k)) (place_is 8 o i) refl $ done !
