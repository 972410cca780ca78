-- A `&` to a row of words is made where one to each of its written words is. Assumes `Logic`.
use Rattle.std.proofs.Common.{ℕ, ◌*◌, ◌^◌, Bool, true, false, List, [], ◌∷◌}
use seplogic.Ra.Ura.{Ura}
use base.Fml.{Lft, ftrue, flt}
use contract.BorrowLft.{⊑_static}
use types.Logic.{Logic}
use denote.Builtin.{u64}
use denote.Plain.{uint_row_laws}
use mir.Syntax.{w64}
use denote.RawPtr.{Ptr, block_ptr, null_ptr, in_block, ◌+ₚ◌}
use denote.Shares.{Shares-less}
use denote.Sharing.{ShrLaws, said}
use denote.SharingLaws.{nothing_shr_laws, said_shr_laws, beside_shr_laws}
use denote.Param.Shared.{copy_shared}
use denote.Struct.Field.{RawPtr-field, usize-field, u64-field}
use denote.Struct.Laws.{RawPtr-copy, usize-copy, u64-copy}
use denote.Struct.Lending.{lent_at_shr_laws, Lends, Lends-false, Lends-lies, Lends-said, Lends-nothing, Lends-both, of_Lends}
use Rattle.word_mem.specs.Ownership.{word_own, all_own, word_lent, all_lent}
use Rattle.word_mem.specs.contracts.words.Words as C
use Rattle.word_mem.proofs.words.Words.TheLaw.Statement.{statement}

word_laws : (f : Bool) (p : Ptr) (x : ℕ) → ShrLaws (word_lent f p x)
word_laws true p x = lent_at_shr_laws u64 (uint_row_laws w64) p x
word_laws false p x = nothing_shr_laws

all_laws : (p : Ptr) (xs : List ℕ) (fs : List Bool) → ShrLaws (all_lent p xs fs)
all_laws p [] fs = nothing_shr_laws
all_laws p (x ∷ xs) [] = nothing_shr_laws
all_laws p (x ∷ xs) (f ∷ fs) = beside_shr_laws (word_lent f p x) (all_lent (p +ₚ 8) xs fs) (word_laws f p x) (all_laws (p +ₚ 8) xs fs)

module _ {M : Type 1} {𝓤 : Ura M} (𝓛 : Logic 𝓤) (l : Lft) where
  Lends-word : (f : Bool) (p : Ptr) (x : ℕ) → Lends 𝓛 (word_own f p x) (word_lent f p x) l
  Lends-word true p x = Lends-lies 𝓛 u64 l p x (Shares-less 𝓛 u64 [] l (⊑_static l) ((copy_shared u64-field u64-copy).shares M 𝓤 𝓛) x)
  Lends-word false p x = Lends-nothing 𝓛 (word_own false p x) l

  Lends-all : (p : Ptr) (xs : List ℕ) (fs : List Bool) → Lends 𝓛 (all_own p xs fs) (all_lent p xs fs) l
  Lends-all p [] fs = Lends-nothing 𝓛 ftrue l
  Lends-all p (x ∷ xs) [] = Lends-nothing 𝓛 ftrue l
  Lends-all p (x ∷ xs) (f ∷ fs) =
      Lends-both 𝓛 (word_own f p x) (all_own (p +ₚ 8) xs fs) (word_lent f p x) (all_lent (p +ₚ 8) xs fs) l (Lends-word f p x) (Lends-all (p +ₚ 8) xs fs)

  Lends-row : (p : Ptr) (xs : List ℕ) (fs : List Bool) → Lends 𝓛 (in_block p (all_own p xs fs)) (all_lent p xs fs) l
  Lends-row (block_ptr b o) xs fs = Lends-all (block_ptr b o) xs fs
  Lends-row null_ptr xs fs = Lends-false 𝓛 (all_lent null_ptr xs fs) l

pub shares : statement
shares = of_Lends C.struct C.the_codes C.the_heap C.the_lent
    (λ d p. let small = flt (d.len * 8) (2 ^ 63) in beside_shr_laws (said small) (all_lent d.ptr d.items d.filled) (said_shr_laws small tt) (all_laws d.ptr d.items d.filled))
    (copy_shared RawPtr-field RawPtr-copy, (copy_shared usize-field usize-copy, tt))
    (λ M 𝓤 𝓛 d p.
    let l = (C.the_row).lives in let small = flt (d.len * 8) (2 ^ 63) in
    Lends-both 𝓛 small (in_block d.ptr (all_own d.ptr d.items d.filled)) (said small) (all_lent d.ptr d.items d.filled) l (Lends-said 𝓛 small tt l)
    (Lends-row 𝓛 l d.ptr d.items d.filled))
