-- Keys and values in turn in a row, and the pairs that they are.
use Rattle.std.proofs.Common.{◌≡◌, ℕ, zero, suc, ◌+◌, ◌*◌, ◌/◌, ◌<◌, Bool, List, [], ◌∷◌, length, get_or, refl, subst, arith}
use Rattle.plain_term.specs.Tree.{Pairs}
use Rattle.term_words.specs.Counted.{In}
use Rattle.term_maps.specs.Given.{PairsStand, keys_in, word_pairs}
use Rattle.term_maps.proofs.Members.{key-in}
use Rattle.term_maps.proofs.Left.{Next, next-pair}

-- Half as many pairs as words.
pub pairs-many : (row : List ℕ) → length (word_pairs row) ≡ length row / 2
pairs-many [] = refl
pairs-many (k ∷ []) = refl
pairs-many (k ∷ v ∷ row) = let rest : length (word_pairs row) ≡ length row / 2 = pairs-many row in omega (arith, rest)

-- Pair i is that of two words side by side.
pair-at : (row : List ℕ) (i : ℕ) (d : ℕ × ℕ) → i < length (word_pairs row) → get_or (word_pairs row) i d ≡ (get_or row (i + i) 0, get_or row (suc (i + i)) 0)
pair-at [] i d below = absurd (omega (arith, below))
pair-at (k ∷ []) i d below = absurd (omega (arith, below))
pair-at (k ∷ v ∷ row) zero d below = refl
pair-at (k ∷ v ∷ row) (suc i) d below =
    let turned : suc (suc (i + i)) ≡ suc i + suc i = omega arith in
    let P : ℕ → Type 0 = λ x. get_or (word_pairs row) i d ≡ (get_or (k ∷ v ∷ row) x 0, get_or (k ∷ v ∷ row) (suc x) 0) in
    subst P turned (pair-at row i d (omega (arith, below)))

module _ (row : List ℕ) (i a b : ℕ) (below : i < length row / 2) (first : a ≡ 2 * i) (second : b ≡ 2 * i + 1) where
  -- Pair i of the row by the places of its two words.
  turn-at : get_or (word_pairs row) i (0, 0) ≡ (get_or row a 0, get_or row b 0)
  turn-at =
      let one : i + i ≡ a = omega (arith, first) in
      let two : suc (i + i) ≡ b = omega (arith, second) in
      let P : ℕ → Type 0 = λ x. get_or (word_pairs row) i (0, 0) ≡ (get_or row x 0, get_or row b 0) in
      let Q : ℕ → Type 0 = λ x. get_or (word_pairs row) i (0, 0) ≡ (get_or row (i + i) 0, get_or row x 0) in
      subst P one (subst Q two (pair-at row i (0, 0) (omega (arith, below, pairs-many row))))

  pub turn-key : In (get_or row a 0) (keys_in (word_pairs row))
  turn-key =
      let P : ℕ × ℕ → Type 0 = λ p. In p.0 (keys_in (word_pairs row)) in
      subst P turn-at (key-in (word_pairs row) i (0, 0) (omega (arith, below, pairs-many row)))

  pub next-in-turn : (c : ℕ → ℕ → Bool) (shared : List (List ℕ)) (mem : List ℕ) (given : Pairs) → PairsStand c shared mem (word_pairs row) given
      → Next c shared mem (get_or row a 0, get_or row b 0) i given
  next-in-turn c shared mem given stand =
      let P : ℕ × ℕ → Type 0 = λ p. Next c shared mem p i given in
      subst P turn-at (next-pair c shared mem (word_pairs row) given i (0, 0) stand (omega (arith, below, pairs-many row)))
