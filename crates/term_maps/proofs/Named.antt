-- Keys of pairs whose names are among the names can be compared, and pairs that are put in order bring no name.
use Rattle.std.proofs.Common.{◌≡◌, ℕ, ◌&&◌, true, List, [], ◌∷◌, length, refl, sym, subst, inl, inr}
use Rattle.std.proofs.lemmas.Bool.{and_parts, and_from}
use Rattle.plain_term.specs.Tree.{Tree, Pairs}
use Rattle.plain_term.specs.Tree.Pairs.{stop, pair}
use Rattle.plain_term.specs.InOrder.{in_order}
use Rattle.plain_term.proofs.Putting.{all-keep}
use Rattle.term_words.specs.Role.{always}
use Rattle.term_words.specs.Counted.{In}
use Rattle.term_words.specs.Stands.{Stands}
use Rattle.term_order.specs.Named.{is_named, pairs_named}
use Rattle.term_maps.specs.Given.{PairsStand, keys_in, KeysNamed}

-- A key's tree.
key-named : (mem : List ℕ) (names shared : List (List ℕ)) (words : List (ℕ × ℕ)) (given : Pairs) (a : ℕ) → PairsStand always shared mem words given → pairs_named (length names) given ≡ true
    → In a (keys_in words)
    → (t : Tree) × (Stands always shared mem a t × (is_named (length names) t ≡ true))
unfolding PairsStand
key-named mem names shared [] given a s n h = absurd h
key-named mem names shared (p ∷ words) stop a s n h = absurd s
key-named mem names shared (p ∷ words) (pair k v ps) a s n (inl is) =
    let P : ℕ → Type 0 = λ x. Stands always shared mem x k in
    let both : is_named (length names) k && is_named (length names) v ≡ true = (and_parts (is_named (length names) k && is_named (length names) v) (pairs_named (length names) ps) n).0 in
    (k, (subst P (sym is) s.0.0, (and_parts (is_named (length names) k) (is_named (length names) v) both).0))
key-named mem names shared (p ∷ words) (pair k v ps) a s n (inr h) =
    key-named mem names shared words ps a s.1 (and_parts (is_named (length names) k && is_named (length names) v) (pairs_named (length names) ps) n).1 h

pub keys-named : (mem : List ℕ) (names shared : List (List ℕ)) (words : List (ℕ × ℕ)) (given : Pairs) → PairsStand always shared mem words given → pairs_named (length names) given ≡ true
    → KeysNamed mem names (keys_in words)
keys-named mem names shared words given s n = record {
  each = λ a b ha hb.
      let x = key-named mem names shared words given a s n ha in
      let y = key-named mem names shared words given b s n hb in
      record { shared = shared; first = x.0; second = y.0; first_stands = x.1.0; second_stands = y.1.0; first_named = x.1.1; second_named = y.1.1 };
}

-- Pairs that are put in order bring no name.
module _ (names shared : List (List ℕ)) (n : ℕ) where
  abbrev AreNamedPairs : Pairs → Type 0
  AreNamedPairs ps = pairs_named n ps ≡ true

  abbrev IsNamedPair : Tree → Tree → Type 0
  IsNamedPair k v = (is_named n k && is_named n v) ≡ true

  pub in-order-named : (given : Pairs) → pairs_named n given ≡ true → pairs_named n (in_order names shared given) ≡ true
  in-order-named given = all-keep names shared AreNamedPairs IsNamedPair (λ k v ps. and_parts (is_named n k && is_named n v) (pairs_named n ps))
      (λ k v ps. and_from (is_named n k && is_named n v) (pairs_named n ps)) stop given refl
