-- Words in a list, and in one with a word more.
use Rattle.std.proofs.Common.{◌≡◌, ℕ, zero, suc, ◌<◌, ◌⊎◌, List, [], ◌∷◌, length, get_or, set, insert, refl, ap, arith, inl, inr}
use Rattle.std.specs.List.{refill}
use Rattle.term_words.specs.Counted.{In}
use Rattle.term_maps.specs.Given.{keys_in}

pub key-in : (words : List (ℕ × ℕ)) (i : ℕ) (d : ℕ × ℕ) → i < length words → In (get_or words i d).0 (keys_in words)
key-in [] i d below = absurd (omega arith)
key-in (p ∷ words) zero d below = inl refl
key-in (p ∷ words) (suc i) d below = inr (key-in words i d (omega arith))

pub in-set : (ws : List ℕ) (i x w : ℕ) → In w (set ws i x) → (w ≡ x) ⊎ In w ws
in-set [] i x w h = absurd h
in-set (v ∷ ws) zero x w (inl is) = inl is
in-set (v ∷ ws) zero x w (inr h) = inr (inr h)
in-set (v ∷ ws) (suc i) x w (inl is) = inr (inl is)
in-set (v ∷ ws) (suc i) x w (inr h) = elim (in-set ws i x w h) [ inl is ↦ inl is | inr old ↦ inr (inr old) ]

pub in-insert : (ws : List ℕ) (i x w : ℕ) → In w (insert ws i x) → (w ≡ x) ⊎ In w ws
in-insert [] zero x w (inl is) = inl is
in-insert [] zero x w (inr h) = absurd h
in-insert [] (suc i) x w (inl is) = inl is
in-insert [] (suc i) x w (inr h) = absurd h
in-insert (v ∷ ws) zero x w (inl is) = inl is
in-insert (v ∷ ws) zero x w (inr h) = inr h
in-insert (v ∷ ws) (suc i) x w (inl is) = inr (inl is)
in-insert (v ∷ ws) (suc i) x w (inr h) = elim (in-insert ws i x w h) [ inl is ↦ inl is | inr old ↦ inr (inr old) ]

-- A row that is written as a whole.
pub refill-whole : (xs ws : List ℕ) → length ws ≡ length xs → refill (length xs) xs ws ≡ ws
refill-whole [] [] same = refl
refill-whole [] (w ∷ ws) same = absurd (omega arith)
refill-whole (x ∷ xs) [] same = absurd (omega arith)
refill-whole (x ∷ xs) (w ∷ ws) same = ap (λ rest. w ∷ rest) (refill-whole xs ws (omega arith))
