-- Records of shared binaries and of funs in the free words of a room.
use Rattle.std.proofs.Common.{◌≡◌, ℕ, zero, suc, ◌+◌, ◌-◌, ◌<◌, ◌≤◌, Bool, List, [], ◌∷◌, length, get_or, replicate, refl, sym, ◌∙◌, ap, subst, arith, inl, inr}
use Rattle.std.proofs.lemmas.List.{length-replicate}
use Rattle.plain_term.specs.Bytes.{shared_bytes}
use Rattle.term_words.specs.Role.{outside}
use Rattle.term_words.specs.Object.{IsBinRecord}
use Rattle.term_words.specs.Kept.{Keeps}
use Rattle.term_build.specs.Taken.{Lie}
use Rattle.term_build.specs.Parts.{IsRecordOf}
use Rattle.term_build.proofs.Rooms.{room-taken}
use Rattle.shared_rec.specs.Record.{WritesRecord, record_roles, length_in}
use Rattle.shared_rec.proofs.Rows.{writes-keep}
use Rattle.ladder_tests.specs.Bench.{IsRoll, shared_of}

pub roll-size : (shared : List (List ℕ)) (id len byte : ℕ) → IsRoll shared id len byte → length (shared_bytes shared id) ≡ len
roll-size shared id len byte r = ap length r.bytes ∙ length-replicate {A = ℕ} len byte

-- The record of a shared binary in the list.
pub named-roll : (c : ℕ → ℕ → Bool) (shared : List (List ℕ)) (mem : List ℕ) (v id len byte : ℕ) → IsRoll shared id len byte → IsBinRecord c mem v id (replicate len byte)
    → IsRecordOf c shared mem v len id
named-roll c shared mem v id len byte r m =
    let P : List ℕ → Type 0 = λ bytes. IsBinRecord c mem v id bytes in
    record { from_one = r.from_one; known = r.known; size = roll-size shared id len byte r; record_is = subst P (sym r.bytes) m }

rolls-len : (ps : List (ℕ × ℕ)) → length (shared_of ps) ≡ length ps
rolls-len [] = refl
rolls-len (p ∷ ps) = ap suc (rolls-len ps)

rolls-at : (ps : List (ℕ × ℕ)) (k : ℕ) (d : ℕ × ℕ) → k < length ps → get_or (shared_of ps) k [] ≡ replicate (get_or ps k d).0 (get_or ps k d).1
rolls-at [] k d h = absurd (omega (arith, h))
rolls-at (p ∷ ps) zero d h = refl
rolls-at (p ∷ ps) (suc k) d h = rolls-at ps k d (omega (arith, h))

-- A number from 1 on names one of them.
pub roll-is : (ps : List (ℕ × ℕ)) (id : ℕ) (d : ℕ × ℕ) → (id ≡ 0 → ⊥) → id ≤ length ps → (get_or ps (id - 1) d).0 ≤ 1024
    → IsRoll (shared_of ps) id (get_or ps (id - 1) d).0 (get_or ps (id - 1) d).1
roll-is ps zero d some known few = absurd (some refl)
roll-is ps (suc k) d some known few =
    let P : ℕ → Type 0 = λ x. get_or (shared_of ps) k [] ≡ replicate (get_or ps x d).0 (get_or ps x d).1 in
    let e : k ≡ suc k - 1 = omega arith in
    record { from_one = omega arith; known = omega (arith, known, rolls-len ps); bytes = subst P e (rolls-at ps k d (omega (arith, known))); few = few }

-- The length in a record's fourth word.
pub size-in : (mem : List ℕ) (at a s n : ℕ) (ws : List ℕ) → Lie mem at (a ∷ s ∷ 0 ∷ n ∷ ws) → length_in mem at ≡ n
size-in mem at a s n ws lie = lie.each 3 (at + 3) (omega arith) refl

-- A record whose bytes were all written.
pub filled : (c : ℕ → ℕ → Bool) (mid new : List ℕ) (at id len byte : ℕ)
    → ((d : ℕ → ℕ → Bool) (serial : ℕ) (bytes : List ℕ) → IsBinRecord d mid at serial bytes → IsBinRecord d new at serial (replicate (length bytes) byte))
    → IsBinRecord c mid at id (replicate len 0) → IsBinRecord c new at id (replicate len byte)
filled c mid new at id len byte made zeros =
    let P : ℕ → Type 0 = λ n. IsBinRecord c new at id (replicate n byte) in
    subst P (length-replicate {A = ℕ} len 0) (made c id (replicate len 0) zeros)

-- Two writes in the first free words of a room keep what is clear of it.
pub twice-kept : (at m k end : ℕ) (old mid new : List ℕ) → WritesRecord at (at + (4 + m)) old mid → WritesRecord (at + 4) (at + 4 + k) mid new → k ≡ m → at + (4 + m) ≤ end
    → Keeps (outside at end) (outside (at + (4 + m)) end) old new
twice-kept at m k end old mid new u w same fits =
    let both : WritesRecord at (at + (4 + m)) old new = record {
      same_len = w.same_len ∙ u.same_len;
      others = λ q apart. elim apart [
        | inl low ↦ w.others q (inl (omega (arith, low))) ∙ u.others q (inl low)
        | inr high ↦ w.others q (inr (omega (arith, high, same))) ∙ u.others q (inr high)
      ];
    } in
    writes-keep record_roles (outside at end) (outside (at + (4 + m)) end) at (4 + m) old new both (room-taken record_roles (4 + m) at end fits)
