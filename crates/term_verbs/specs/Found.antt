-- What the search of a key asks for.
use Rattle.std.specs.Prelude.{◌≡◌, ℕ, ◌+◌, ◌≤◌, Bool, true, false, List, length}
use Rattle.plain_term.specs.Tree.{Tree, Pairs, pairs_len}
use Rattle.plain_term.specs.Proper.{keys_rise}
use Rattle.term_words.specs.Role.{always}
use Rattle.term_words.specs.Stands.{Stands, KeysStand}
use Rattle.term_read.specs.declared.looks.PairRows.{PairRows}
use Rattle.term_order.specs.Named.{is_named, pairs_named}
use Rattle.term_maps.specs.Stops.{has_beyond}

-- The words of the keys stand for those of the pairs, in order.
pub record AreKeys (c : ℕ → ℕ → Bool) (shared : List (List ℕ)) (mem : List ℕ) (rows : PairRows) (ps : Pairs) : Type 0 where
  pub count : rows.len ≡ pairs_len ps
  pub keys : KeysStand c shared mem rows.keys ps

-- The keys rise, and none is beyond the walk limit.
pub record AreSorted (names shared : List (List ℕ)) (ps : Pairs) : Type 0 where
  pub rise : keys_rise names shared ps ≡ true
  pub within : has_beyond shared ps ≡ false

-- The words stand for some pairs and a key whose names are among the names.
pub record CanFind (mem : List ℕ) (names : List (List ℕ)) (rows : PairRows) (key : ℕ) : Type 0 where
  pub shared : List (List ℕ)
  pub pairs : Pairs
  pub tree : Tree
  pub keys : AreKeys always shared mem rows pairs
  pub inside : rows.keys + rows.len ≤ length mem
  pub standing : Stands always shared mem key tree
  pub pairs_are_named : pairs_named (length names) pairs ≡ true
  pub key_is_named : is_named (length names) tree ≡ true
