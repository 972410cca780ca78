-- Pairs put into those of a map stay proper, and their keys within the walk limit.
use Rattle.std.proofs.Common.{◌≡◌, ℕ, true, false, List, [], refl}
use Rattle.std.proofs.lemmas.Bool.{not-true}
use Rattle.plain_term.specs.Tree.{Tree, Pairs}
use Rattle.plain_term.specs.Tree.Pairs.{stop, pair}
use Rattle.plain_term.specs.Beyond.{is_beyond}
use Rattle.plain_term.specs.InOrder.{put_pair, in_order}
use Rattle.plain_term.specs.Proper.{is_proper, are_proper_pairs}
use Rattle.plain_term.proofs.Putting.{put-keeps, all-keep}
use Rattle.plain_machine.proofs.Properly.Growing.{pairs-parts}

module _ (names shared : List (List ℕ)) where
  -- what is asked of a pair
  pub record IsProperPair (k v : Tree) : Type 0 where
    pub key : is_proper names shared k ≡ true
    pub within : is_beyond shared k ≡ false
    pub value : is_proper names shared v ≡ true

  abbrev AreProperPairs : Pairs → Type 0
  AreProperPairs ps = are_proper_pairs names shared ps ≡ true

  pub pairs-split : (k v : Tree) (ps : Pairs) → are_proper_pairs names shared (pair k v ps) ≡ true → IsProperPair k v × (are_proper_pairs names shared ps ≡ true)
  pairs-split k v ps h = let p = pairs-parts names [] shared [] k v ps h in (record { key = p.0; within = not-true (is_beyond shared k) p.1; value = p.2 }, p.3)

  pub pairs-join : (k v : Tree) (ps : Pairs) → IsProperPair k v → are_proper_pairs names shared ps ≡ true → are_proper_pairs names shared (pair k v ps) ≡ true
  pairs-join k v ps p h = rw (p.key, p.within, p.value, h) refl

  pub put-proper : (k v : Tree) (ps : Pairs) → IsProperPair k v → are_proper_pairs names shared ps ≡ true → are_proper_pairs names shared (put_pair names shared k v ps) ≡ true
  put-proper = put-keeps names shared AreProperPairs IsProperPair pairs-split pairs-join

  pub in-order-proper : (given : Pairs) → are_proper_pairs names shared given ≡ true → are_proper_pairs names shared (in_order names shared given) ≡ true
  in-order-proper given = all-keep names shared AreProperPairs IsProperPair pairs-split pairs-join stop given refl
