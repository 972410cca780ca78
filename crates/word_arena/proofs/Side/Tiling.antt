-- Rows of blocks.
use Rattle.std.proofs.Common.{◌≡◌, ℕ, zero, suc, ◌+◌, ◌/◌, ◌<◌, ◌≤◌, true, false, nat_lt, List, [], ◌∷◌, ◌++◌, length, get_or, refl, sym, ◌∙◌, ap, subst, arith, inl, inr}
use Rattle.std.proofs.lemmas.Bool.{cases_lt}
use Rattle.std.proofs.lemmas.Bool.Decides.{nat_tests}
use Rattle.word_arena.specs.Blocks.{size_at, IsHeader, Blocks, Blocked, places_from, block_places, IsListed}

-- One row after another.
pub blocks-append : (mem : List ℕ) (a b c : ℕ) (xs ys : List ℕ) → Blocks mem a xs b → Blocks mem b ys c → Blocks mem a (xs ++ ys) c
blocks-append mem a b c [] ys same more = let P : ℕ → Type 0 = λ z. Blocks mem z ys c in subst P (sym same) more
blocks-append mem a b c (x ∷ xs) ys (place, is, rest) more =
    (place, is, blocks-append mem (a + size_at mem x) b c xs ys rest more)

-- Where a row is parted.
pub record Parted (mem : List ℕ) (a c : ℕ) (xs ys : List ℕ) : Type 0 where
  pub at : ℕ
  pub front : Blocks mem a xs at
  pub back : Blocks mem at ys c

pub blocks-part : (mem : List ℕ) (a c : ℕ) (xs ys : List ℕ) → Blocks mem a (xs ++ ys) c → Parted mem a c xs ys
blocks-part mem a c [] ys row = record { at = a; front = refl; back = row }
blocks-part mem a c (x ∷ xs) ys (place, is, rest) =
    let r = blocks-part mem (a + size_at mem x) c xs ys rest in
    record { at = r.at; front = (place, is, r.front); back = r.back }

pub blocks-order : (mem : List ℕ) (a b : ℕ) (xs : List ℕ) → Blocks mem a xs b → a ≤ b
blocks-order mem a b [] same = omega arith
blocks-order mem a b (x ∷ xs) (place, is, rest) = omega (arith, blocks-order mem (a + size_at mem x) b xs rest)

-- A block of a row lies in the row's words.
pub record Within (mem : List ℕ) (a b p : ℕ) : Type 0 where
  pub header : IsHeader (get_or mem p 0)
  pub from : a ≤ p
  pub to : p + size_at mem p ≤ b

pub blocks-within : (mem : List ℕ) (a b p : ℕ) (xs : List ℕ) → Blocks mem a xs b → IsListed p xs → Within mem a b p
blocks-within mem a b p [] row is = elim is [ ]
blocks-within mem a b p (x ∷ xs) (place, is, rest) (inl here) =
    let order : a + size_at mem x ≤ b = blocks-order mem (a + size_at mem x) b xs rest in
    let P : ℕ → Type 0 = λ z. Within mem a b z in
    subst P (sym here) (record { header = is; from = omega arith; to = omega arith })
blocks-within mem a b p (x ∷ xs) (place, is, rest) (inr there) =
    let r = blocks-within mem (a + size_at mem x) b p xs rest there in
    record { header = r.header; from = omega arith; to = r.to }

-- A row is one still where its headers are the same.
pub blocks-same : (old new : List ℕ) (a b : ℕ) (xs : List ℕ) → ((p : ℕ) → IsListed p xs → get_or new p 0 ≡ get_or old p 0) → Blocks old a xs b → Blocks new a xs b
blocks-same old new a b [] same row = row
blocks-same old new a b (x ∷ xs) same (place, is, rest) =
    let word : get_or old x 0 ≡ get_or new x 0 = sym (same x (inl refl)) in
    let Q : ℕ → Type 0 = λ h. Blocks new (a + h / 16) xs b in
    (place, subst IsHeader word is, subst Q word (blocks-same old new (a + size_at old x) b xs (λ p in_rest. same p (inr in_rest)) rest))

-- Two blocks of a row are one, or the first ends before the second begins.
pub blocks-apart : (mem : List ℕ) (a b p q : ℕ) (xs : List ℕ) → Blocks mem a xs b → IsListed p xs → IsListed q xs → p < q → p + size_at mem p ≤ q
blocks-apart mem a b p q [] row is also below = elim is [ ]
blocks-apart mem a b p q (x ∷ xs) (place, is, rest) (inl here) (inl same) below = omega arith
blocks-apart mem a b p q (x ∷ xs) (place, is, rest) (inl here) (inr there) below =
    let r = blocks-within mem (a + size_at mem x) b q xs rest there in
    let P : ℕ → Type 0 = λ z. z + size_at mem z ≤ q in
    subst P (sym here) (omega (arith, r.from, place))
blocks-apart mem a b p q (x ∷ xs) (place, is, rest) (inr first) (inl there) below =
    let r = blocks-within mem (a + size_at mem x) b p xs rest first in
    absurd (omega (arith, r.from, place, is.sized))
blocks-apart mem a b p q (x ∷ xs) (place, is, rest) (inr first) (inr second) below =
    blocks-apart mem (a + size_at mem x) b p q xs rest first second below

-- The block in which a place lies; that it is one block is `blocks-apart`.
pub record Covers (mem : List ℕ) (q : ℕ) (xs : List ℕ) : Type 0 where
  pub p : ℕ
  pub listed : IsListed p xs
  pub from : p ≤ q
  pub to : q < p + size_at mem p

pub blocks-cover : (mem : List ℕ) (a b q : ℕ) (xs : List ℕ) → Blocks mem a xs b → a ≤ q → q < b → Covers mem q xs
blocks-cover mem a b q [] same low high = absurd (omega (arith, same))
blocks-cover mem a b q (x ∷ xs) (place, is, rest) low high =
    elim (cases_lt q (a + size_at mem x)) as (λ _. Covers mem q (x ∷ xs)) [
      | inl here ↦ record { p = x; listed = inl refl; from = omega (arith, place); to = omega (arith, place) }
      | inr past ↦ (
          let r = blocks-cover mem (a + size_at mem x) b q xs rest past high in
          record { p = r.p; listed = inr r.listed; from = r.from; to = r.to })
    ]

-- A row that reaches no farther than another from the same place is its front.
pub record Front (mem : List ℕ) (b c : ℕ) (xs ys : List ℕ) : Type 0 where
  pub rest : List ℕ
  pub is : ys ≡ xs ++ rest
  pub row : Blocks mem b rest c

pub blocks-front : (mem : List ℕ) (a b c : ℕ) (xs ys : List ℕ) → Blocks mem a xs b → Blocks mem a ys c → b ≤ c → Front mem b c xs ys
blocks-front mem a b c [] ys same row order =
    let P : ℕ → Type 0 = λ z. Blocks mem z ys c in
    record { rest = ys; is = refl; row = subst P same row }
blocks-front mem a b c (x ∷ xs) [] (place, is, rest) same order =
    let far : a + size_at mem x ≤ b = blocks-order mem (a + size_at mem x) b xs rest in
    absurd (omega (arith, is.sized))
blocks-front mem a b c (x ∷ xs) (y ∷ ys) (place, is, rest) (place', is', rest') order =
    let same : y ≡ x = place' ∙ sym place in
    let P : ℕ → Type 0 = λ z. Blocks mem (a + size_at mem z) ys c in
    let r = blocks-front mem (a + size_at mem x) b c xs ys rest (subst P same rest') order in
    record { rest = r.rest; is = ap (λ (z : ℕ). z ∷ ys) same ∙ ap (λ (zs : List ℕ). x ∷ zs) r.is; row = r.row }

-- The headers lead over any row that reaches the memory's end.
pub places-row : (mem : List ℕ) (steps a : ℕ) (xs : List ℕ) → Blocks mem a xs (length mem) → length mem ≤ a + steps → places_from mem steps a ≡ xs
places-row mem zero a [] row room = refl
places-row mem zero a (x ∷ xs) (place, is, rest) room =
    let far : a + size_at mem x ≤ length mem = blocks-order mem (a + size_at mem x) (length mem) xs rest in
    absurd (omega (arith, is.sized))
places-row mem (suc steps) a [] row room =
    let past : nat_lt a (length mem) ≡ false = grind (arith, nat_tests) in
    rw past refl
places-row mem (suc steps) a (x ∷ xs) (place, is, rest) room =
    let far : a + size_at mem x ≤ length mem = blocks-order mem (a + size_at mem x) (length mem) xs rest in
    let inside : nat_lt a (length mem) ≡ true = grind (arith, nat_tests, is.sized) in
    let P : ℕ → Type 0 = λ z. Blocks mem (a + size_at mem z) xs (length mem) in
    let more : places_from mem steps (a + size_at mem a) ≡ xs =
    places-row mem steps (a + size_at mem a) xs (subst P place rest) (let s : 1 ≤ size_at mem a = (let Q : ℕ → Type 0 = λ z. 1 ≤ size_at mem z in subst Q place is.sized) in omega arith) in
    rw (inside, more, place) refl

pub block_places-row : (mem xs : List ℕ) → Blocks mem 0 xs (length mem) → block_places mem ≡ xs
unfolding block_places
block_places-row mem xs row = places-row mem (length mem) 0 xs row (omega arith)

pub blocked-row : (mem xs : List ℕ) → Blocks mem 0 xs (length mem) → Blocked mem
blocked-row mem xs row =
    let P : List ℕ → Type 0 = λ z. Blocks mem 0 z (length mem) in
    record { row = subst P (sym (block_places-row mem xs row)) row }
