-- The keys and the values of a map as rows of trees.
use Rattle.std.proofs.Common.{◌≡◌, ℕ, ◌+◌, Bool, List, refl, ap}
use Rattle.plain_term.specs.Tree.{Pairs, trees_len, pairs_len, keys_of, values_of}
use Rattle.plain_term.specs.Tree.Pairs.{stop, pair}
use Rattle.term_words.specs.Stands.{RowStands, KeysStand, ValuesStand}

pub keys-row : (c : ℕ → ℕ → Bool) (shared : List (List ℕ)) (mem : List ℕ) (p : ℕ) (ps : Pairs) → KeysStand c shared mem p ps → RowStands c shared mem p (keys_of ps)
unfolding RowStands KeysStand
keys-row c shared mem p stop row = tt
keys-row c shared mem p (pair x y ps) (first, rest) = (first, keys-row c shared mem (p + 1) ps rest)

pub values-row : (c : ℕ → ℕ → Bool) (shared : List (List ℕ)) (mem : List ℕ) (p : ℕ) (ps : Pairs) → ValuesStand c shared mem p ps → RowStands c shared mem p (values_of ps)
unfolding RowStands ValuesStand
values-row c shared mem p stop row = tt
values-row c shared mem p (pair x y ps) (first, rest) = (first, values-row c shared mem (p + 1) ps rest)

pub keys-len : (ps : Pairs) → trees_len (keys_of ps) ≡ pairs_len ps
keys-len stop = refl
keys-len (pair x y ps) = ap (λ n. n + 1) (keys-len ps)

pub values-len : (ps : Pairs) → trees_len (values_of ps) ≡ pairs_len ps
values-len stop = refl
values-len (pair x y ps) = ap (λ n. n + 1) (values-len ps)
