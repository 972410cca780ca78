-- One place comes out of a row of words and goes back, and a row is room for an array. Assumes `Logic`.
use Rattle.std.proofs.Common.{◌≡◌, ℕ, zero, suc, ◌+◌, ◌*◌, ◌<◌, Bool, true, false, List, [], ◌∷◌, length, set, replicate, refl, sym, arith}
use native.Mathlib.Nat.{not-suc-le-zero, le_of_suc-le-suc}
use seplogic.Ra.Ura.{Ura}
use base.Fraction.{full_share}
use base.Fml.{Fml, ftrue, fsep, fat, froom}
use base.Logic.{SProp, ent, sep, id⊢}
use mir.Syntax.{w64, ty_int}
use mir.Val.{vint}
use types.Logic.{Logic, sem}
use types.Kit.{‵, ◌⊛◌, ◌$◌, ◌∵◌, !, qed, by, move, keep, use1, use2, split, rewrite, fsplit, frame, done}
use denote.Builtin.{u64}
use denote.Index.{place, place_is}
use denote.Memory.{part_at}
use denote.Plain.{uint_in, uint_out}
use denote.RawPtr.{block_ptr}
use Rattle.word_mem.specs.Ownership.{block_of_words, word_own, all_own}

-- the row without its i-th place
abbrev pub besides : ℕ → ℕ → List ℕ → List Bool → ℕ → Fml
besides b o [] fs i = ftrue
besides b o (x ∷ xs) [] i = ftrue
besides b o (x ∷ xs) (f ∷ fs) zero = all_own (block_ptr b (o + 8)) xs fs
besides b o (x ∷ xs) (f ∷ fs) (suc i) = fsep (word_own f (block_ptr b o) x) (besides b (o + 8) xs fs i)

module _ {M : Type 1} {𝓤 : Ura M} (𝓛 : Logic 𝓤) (b : ℕ) where
  abbrev one : Bool → ℕ → ℕ → Fml
  one f o x = word_own f (block_ptr b o) x

  abbrev all : ℕ → List ℕ → List Bool → Fml
  all o xs fs = all_own (block_ptr b o) xs fs

  abbrev has : Fml → SProp 𝓤
  has F = sem 𝓛 F

  -- a place is room, whether or not it holds a word
  emptied : (f : Bool) (o x : ℕ) → ent 𝓤 (has (one f o x)) (has (froom (ty_int w64) b o))
  emptied false o x = id⊢ 𝓤 (has (froom (ty_int w64) b o))
  emptied true o x = qed 𝓛 (‵ (part_at u64 full_share x b o) ∷ []) ∵
      use1 𝓛 (‵ (fat full_share (ty_int w64) b o (vint w64 x))) (uint_out 𝓛 full_share w64 x b o) $ by ! (𝓛.laws.at_room (ty_int w64) b o (vint w64 x))

  takes : (xs : List ℕ) (fs : List Bool) (i o : ℕ) → i < length xs → i < length fs
      → ent 𝓤 (has (all o xs fs)) (sep 𝓤 (has (froom (ty_int w64) b (place 8 o i))) (has (besides b o xs fs i)))
  takes [] fs i o l m = absurd (not-suc-le-zero l)
  takes (x ∷ xs) [] i o l m = absurd (not-suc-le-zero m)
  takes (x ∷ xs) (f ∷ fs) zero o l m = qed 𝓛 (‵ (all o (x ∷ xs) (f ∷ fs)) ∷ []) ∵ fsplit ! $
      use1 𝓛 (‵ (froom (ty_int w64) b o)) (emptied f o x) $ done !
  takes (x ∷ xs) (f ∷ fs) (suc i) o l m =
      qed 𝓛 (‵ (all o (x ∷ xs) (f ∷ fs)) ∷ []) ∵ fsplit ! $ move ! (1 ∷ []) $
      use1 𝓛 (‵ (froom (ty_int w64) b (place 8 (o + 8) i)) ⊛ ‵ (besides b (o + 8) xs fs i)) (takes xs fs i (o + 8) (le_of_suc-le-suc l) (le_of_suc-le-suc m)) $
      split ! $ frame ! $ move ! (1 ∷ 0 ∷ []) $ done !

  puts : (xs : List ℕ) (fs : List Bool) (i y o : ℕ) → i < length xs → i < length fs
      → ent 𝓤 (sep 𝓤 (has (one true (place 8 o i) y)) (has (besides b o xs fs i))) (has (all o (set xs i y) (set fs i true)))
  puts [] fs i y o l m = absurd (not-suc-le-zero l)
  puts (x ∷ xs) [] i y o l m = absurd (not-suc-le-zero m)
  puts (x ∷ xs) (f ∷ fs) zero y o l m = qed 𝓛 (‵ (one true o y) ∷ ‵ (all (o + 8) xs fs) ∷ []) ∵ done !
  puts (x ∷ xs) (f ∷ fs) (suc i) y o l m =
      qed 𝓛 (‵ (one true (place 8 (o + 8) i) y) ∷ ‵ (besides b o (x ∷ xs) (f ∷ fs) (suc i)) ∷ []) ∵ move ! (1 ∷ []) $ fsplit ! $ move ! (2 ∷ 1 ∷ []) $
      use2 𝓛 (‵ (all (o + 8) (set xs i y) (set fs i true))) (puts xs fs i y (o + 8) (le_of_suc-le-suc l) (le_of_suc-le-suc m)) $ move ! (1 ∷ 0 ∷ []) $ done !

  module _ (o : ℕ) (xs : List ℕ) (fs : List Bool) (i : ℕ) (l : i < length xs) (m : i < length fs) where
    pub room-out : ent 𝓤 (has (all o xs fs)) (sep 𝓤 (has (froom (ty_int w64) b (i * 8 + o))) (has (besides b o xs fs i)))
    room-out =
        qed 𝓛 (‵ (all o xs fs) ∷ []) ∵
        use1 𝓛 (‵ (froom (ty_int w64) b (place 8 o i)) ⊛ ‵ (besides b o xs fs i)) (takes xs fs i o l m) $ split ! $
        rewrite ! 0 (λ (k : ℕ). ‵ (froom (ty_int w64) b k)) (place_is 8 o i) refl $ done !

    pub word-in : (y : ℕ) → ent 𝓤 (sep 𝓤 (has (fat full_share (ty_int w64) b (i * 8 + o) (vint w64 y))) (has (besides b o xs fs i))) (has (all o (set xs i y) (set fs i true)))
    word-in y =
        qed 𝓛 (‵ (fat full_share (ty_int w64) b (i * 8 + o) (vint w64 y)) ∷ ‵ (besides b o xs fs i) ∷ []) ∵
        use1 𝓛 (‵ (part_at u64 full_share y b (i * 8 + o))) (uint_in 𝓛 full_share w64 y b (i * 8 + o)) $
        rewrite ! 0 (λ (k : ℕ). ‵ (part_at u64 full_share y b k)) (sym (place_is 8 o i)) refl $ by ! (puts xs fs i y o l m)

  -- room for an array is a row of places that hold nothing, and any row is room
  pub of-room : (n o : ℕ) → ent 𝓤 (has (froom (block_of_words n) b o)) (has (all o (replicate n 0) (replicate n false)))
  of-room zero o = qed 𝓛 (‵ (froom (block_of_words 0) b o) ∷ []) ∵ keep ! [] $ done !
  of-room (suc n) o = qed 𝓛 (‵ (froom (block_of_words (suc n)) b o) ∷ []) ∵
      use1 𝓛 (‵ (froom (ty_int w64) b o) ⊛ ‵ (froom (block_of_words n) b (o + 8))) (𝓛.laws.room_uncons (ty_int w64) n b o) $ split ! $
      frame ! $ by ! (of-room n (o + 8))

  pub to-room : (xs : List ℕ) (fs : List Bool) (o : ℕ) → length fs ≡ length xs → ent 𝓤 (has (all o xs fs)) (has (froom (block_of_words (length xs)) b o))
  to-room [] fs o e = 𝓛.laws.room_nil (ty_int w64) b o
  to-room (x ∷ xs) [] o e = let e' : 0 ≡ suc (length xs) = e in absurd (not-suc-le-zero {n = 0} (omega arith))
  to-room (x ∷ xs) (f ∷ fs) o e =
      let e' : suc (length fs) ≡ suc (length xs) = e in
      qed 𝓛 (‵ (one f o x) ∷ ‵ (all (o + 8) xs fs) ∷ []) ∵
      use1 𝓛 (‵ (froom (ty_int w64) b o)) (emptied f o x) $ move ! (1 ∷ []) $
      use1 𝓛 (‵ (froom (block_of_words (length xs)) b (o + 8))) (to-room xs fs (o + 8) (omega arith)) $ move ! (1 ∷ []) $ by ! (𝓛.laws.room_cons (ty_int w64) (length xs) b o)
