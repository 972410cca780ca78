-- Bytes that items are, one after the other.
use Rattle.std.proofs.Common.{◌≡◌, ℕ, zero, suc, ◌+◌, ◌<◌, ◌≤◌, Bool, List, [], ◌∷◌, ◌++◌, length, get_or, set, take, replicate, sym, ◌∙◌, ap, refl, arith, inl}
use Rattle.std.proofs.lemmas.List.{length-replicate}
use Rattle.plain_term.specs.declared.item.Item.{Item}
use Rattle.plain_term.specs.Measures.{bin_words}
use Rattle.term_words.specs.Object.{BytesLie, IsBinRecord}
use Rattle.shared_rec.specs.Record.{WritesRecord}
use Rattle.shared_rec.proofs.Rows.{bytes-written}
use Rattle.item_build.specs.Reading.{item_byte, bytes_in}

pub bytes-len : (n : ℕ) (xs : List Item) → n ≤ length xs → length (bytes_in n xs) ≡ n
bytes-len zero xs few = refl
bytes-len (suc n) [] few = absurd (omega (arith, few))
bytes-len (suc n) (x ∷ xs) few = ap suc (bytes-len n xs (omega (arith, few)))

-- One byte more.

pub take-step : (i : ℕ) (row : List ℕ) (b : ℕ) → i < length row → take (suc i) (set row i b) ≡ take i row ++ b ∷ []
take-step i [] b below = absurd (omega (arith, below))
take-step zero (x ∷ row) b below = refl
take-step (suc i) (x ∷ row) b below = ap (λ z. x ∷ z) (take-step i row b (omega (arith, below)))

pub bytes-step : (i : ℕ) (xs : List Item) (d : Item) → i < length xs → bytes_in (suc i) xs ≡ bytes_in i xs ++ item_byte (get_or xs i d) ∷ []
bytes-step i [] d below = absurd (omega (arith, below))
bytes-step zero (x ∷ xs) d below = refl
bytes-step (suc i) (x ∷ xs) d below = ap (λ z. item_byte x ∷ z) (bytes-step i xs d (omega (arith, below)))

-- A record whose zeros became these bytes.
pub record-made : (d : ℕ → ℕ → Bool) (m1 m2 : List ℕ) (rec serial n : ℕ) (xs : List Item) → n ≤ length xs → IsBinRecord d m1 rec serial (replicate n 0)
    → WritesRecord (rec + 4) (rec + 4 + bin_words n) m1 m2 → BytesLie m2 (rec + 4) (bytes_in n xs) → IsBinRecord d m2 rec serial (bytes_in n xs)
record-made d m1 m2 rec serial n xs few o w lie =
    bytes-written d m1 m2 rec serial (replicate n 0) (bytes_in n xs) o (bytes-len n xs few ∙ sym (length-replicate {A = ℕ} n 0)) w.same_len (λ q low. w.others q (inl low)) lie
