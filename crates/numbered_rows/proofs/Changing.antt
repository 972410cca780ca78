-- Numbers that rise, while rows are written, taken out and added.
use Rattle.std.proofs.Common.{◌≡◌, ℕ, zero, suc, ◌<◌, ◌≤◌, List, [], ◌∷◌, ◌++◌, length, set, ap, arith}
use Rattle.std.specs.List.{remove}
use Rattle.space_api.specs.Calls.{AreRising}
use Rattle.numbered_rows.specs.Numbers.{AreBelow, row_number, numbers}

module _ {R : Type 0} (f : R → ℕ) where
  pub numbers-set : (rows : List R) (i : ℕ) (r : R) → i < length rows → f r ≡ row_number f rows i → numbers f (set rows i r) ≡ numbers f rows
  numbers-set [] i r below e = absurd (omega arith)
  numbers-set (o ∷ rows) zero r below e = ap (λ x. x ∷ numbers f rows) e
  numbers-set (o ∷ rows) (suc i) r below e = ap (λ x. f o ∷ x) (numbers-set rows i r (omega arith) e)

  rising-lower : (rows : List R) (a b : ℕ) → a ≤ b → AreRising b (numbers f rows) → AreRising a (numbers f rows)
  rising-lower [] a b up r = tt
  rising-lower (o ∷ rows) a b up r = (omega (arith, r.0), r.1)

  pub rising-remove : (rows : List R) (i a : ℕ) → AreRising a (numbers f rows) → AreRising a (numbers f (remove rows i))
  rising-remove [] zero a r = tt
  rising-remove [] (suc i) a r = tt
  rising-remove (o ∷ rows) zero a r = rising-lower rows a (f o) (omega (arith, r.0)) r.1
  rising-remove (o ∷ rows) (suc i) a r = (r.0, rising-remove rows i (f o) r.1)

  pub below-remove : (rows : List R) (i limit : ℕ) → AreBelow limit (numbers f rows) → AreBelow limit (numbers f (remove rows i))
  below-remove [] zero limit b = tt
  below-remove [] (suc i) limit b = tt
  below-remove (o ∷ rows) zero limit b = b.1
  below-remove (o ∷ rows) (suc i) limit b = (b.0, below-remove rows i limit b.1)

  pub rising-push : (rows : List R) (r : R) (a : ℕ) → AreRising a (numbers f rows) → AreBelow (f r) (numbers f rows) → a < f r → AreRising a (numbers f (rows ++ r ∷ []))
  rising-push [] r a s b up = (up, tt)
  rising-push (o ∷ rows) r a s b up = (s.0, rising-push rows r (f o) s.1 b.1 b.0)

  pub below-push : (rows : List R) (r : R) (limit more : ℕ) → AreBelow limit (numbers f rows) → limit ≤ more → f r < more → AreBelow more (numbers f (rows ++ r ∷ []))
  below-push [] r limit more b up here = (here, tt)
  below-push (o ∷ rows) r limit more b up here = (omega (arith, b.0), below-push rows r limit more b.1 up here)
