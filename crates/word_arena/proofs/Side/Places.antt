-- Places in lists of places.
use Rattle.std.proofs.Common.{◌≡◌, ℕ, ◌+◌, ◌⊎◌, List, [], ◌∷◌, ◌++◌, get_or, refl, sym, ap, arith, inl, inr}
use Rattle.word_arena.specs.Blocks.{IsListed, free_among}

pub in-left : (p : ℕ) (xs ys : List ℕ) → IsListed p xs → IsListed p (xs ++ ys)
in-left p [] ys is = elim is [ ]
in-left p (x ∷ xs) ys (inl here) = inl here
in-left p (x ∷ xs) ys (inr there) = inr (in-left p xs ys there)

pub in-right : (p : ℕ) (xs ys : List ℕ) → IsListed p ys → IsListed p (xs ++ ys)
in-right p [] ys is = is
in-right p (x ∷ xs) ys is = inr (in-right p xs ys is)

pub in-append : (p : ℕ) (xs ys : List ℕ) → IsListed p (xs ++ ys) → IsListed p xs ⊎ IsListed p ys
in-append p [] ys is = inr is
in-append p (x ∷ xs) ys (inl here) = inl (inl here)
in-append p (x ∷ xs) ys (inr there) =
    elim (in-append p xs ys there) as (λ _. IsListed p (x ∷ xs) ⊎ IsListed p ys) [ inl a ↦ inl (inr a) | inr b ↦ inr b ]

-- The list up to a place that stands in it, and what follows it.
pub record Around (p : ℕ) (xs : List ℕ) : Type 0 where
  pub before : List ℕ
  pub after : List ℕ
  pub is : xs ≡ before ++ (p ∷ after)

pub around : (p : ℕ) (xs : List ℕ) → IsListed p xs → Around p xs
around p [] is = elim is [ ]
around p (x ∷ xs) (inl here) = record { before = []; after = xs; is = ap (λ (z : ℕ). z ∷ xs) (sym here) }
around p (x ∷ xs) (inr there) =
    let r = around p xs there in
    record { before = x ∷ r.before; after = r.after; is = ap (λ (zs : List ℕ). x ∷ zs) r.is }

pub free_among-append : (mem xs ys : List ℕ) → free_among mem (xs ++ ys) ≡ free_among mem xs + free_among mem ys
free_among-append mem [] ys = omega arith
free_among-append mem (x ∷ xs) ys = omega (arith, free_among-append mem xs ys)

-- Blocks whose headers are the same have the same free words.
pub free_among-same : (old new xs : List ℕ) → ((p : ℕ) → IsListed p xs → get_or new p 0 ≡ get_or old p 0) → free_among new xs ≡ free_among old xs
free_among-same old new [] same = refl
free_among-same old new (x ∷ xs) same =
    rw (same x (inl refl), free_among-same old new xs (λ p is. same p (inr is))) refl
