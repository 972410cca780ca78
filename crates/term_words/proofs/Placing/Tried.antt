-- In a memory that is written out, what holds of each place of a row is found by trying each.
use Rattle.std.proofs.Common.{◌≡◌, ℕ, zero, suc, ◌+◌, ◌*◌, ◌/◌, ◌%◌, ◌<◌, ◌≤◌, ◌⊎◌, Bool, true, List, length, get_or, sym, subst, arith, inl, inr, ◌==◌, ◌&&◌}
use Rattle.std.proofs.lemmas.Bool.{and_parts, eqb-true}
use Rattle.std.proofs.lemmas.Bool.Decides.{nat_tests}
use Rattle.plain_term.specs.Measures.{bin_words}
use Rattle.term_words.specs.Object.{byte_of, BytesLie, IsObject}
use Rattle.term_words.specs.Role.{roles_of}

-- whether a test holds of each of n places from one on
unfoldable pub all_hold : (ℕ → Bool) → ℕ → ℕ → Bool
all_hold f from zero = true
all_hold f from (suc n) = f from && all_hold f (from + 1) n

pub holds-there : (f : ℕ → Bool) (from n q : ℕ) → all_hold f from n ≡ true → from ≤ q → q < from + n → f q ≡ true
unfolding all_hold
holds-there f from zero q h low high = absurd (omega (arith, low, high))
holds-there f from (suc n) q h low high =
    let (this, rest) = and_parts (f from) (all_hold f (from + 1) n) h in
    let order : (q ≡ from) ⊎ (from + 1 ≤ q) = grind (arith, low) in
    elim order [
      | inl same ↦ (let P : ℕ → Type 0 = λ x. f x ≡ true in subst P (sym same) this)
      | inr more ↦ holds-there f (from + 1) n q rest more (omega (arith, high))
    ]

-- whether the words from a place on have this byte of a list at its place
unfoldable pub byte_lies : List ℕ → ℕ → List ℕ → ℕ → Bool
byte_lies mem q bytes i = byte_of (get_or mem (q + i / 8) 0) (i % 8) == get_or bytes i 0

pub bytes-lie : (mem : List ℕ) (q : ℕ) (bytes : List ℕ) → all_hold (byte_lies mem q bytes) 0 (bin_words (length bytes) * 8) ≡ true → BytesLie mem q bytes
unfolding byte_lies
bytes-lie mem q bytes h = record {
  each = λ i a below place.
      let P : ℕ → Type 0 = λ x. byte_of (get_or mem x 0) (i % 8) ≡ get_or bytes i 0 in
      subst P (sym place) (eqb-true _ _ (holds-there (byte_lies mem q bytes) 0 (bin_words (length bytes) * 8) i h (omega arith) (omega (arith, below))));
}

-- An object lies where its first word and its others have their roles.
pub object-lies : (mem : List ℕ) (role : ℕ → ℕ) (p n : ℕ) → p + (n + 1) ≤ length mem → roles_of role p 3 ≡ true → all_hold (λ q. roles_of role q 4) (p + 1) n ≡ true
    → IsObject (roles_of role) mem p (n + 1)
object-lies mem role p n inside head tail = record {
  within = inside;
  first = head;
  others = λ q above below. holds-there (λ x. roles_of role x 4) (p + 1) n q tail (omega (arith, above)) (omega (arith, below));
}

-- A place of role 0 has none.
pub none-there : (role : ℕ → ℕ) (a k : ℕ) → role a ≡ 0 → roles_of role a k ≡ true → ⊥
unfolding roles_of
none-there role a k none h = grind (arith, nat_tests)
