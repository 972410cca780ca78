-- Where a key stands among keys that rise.
use Rattle.std.specs.Prelude.{◌≡◌, ℕ, ◌<◌, ◌≤◌, Bool, true, false, List}
use Rattle.std.specs.declared.cmp.Ordering.TheVariants.{Less, Equal, Greater}
use Rattle.plain_term.specs.Tree.{Tree, Trees, Pairs, trees_len, pairs_len, keys_of, values_of}
use Rattle.plain_term.specs.Order.{order}
use Rattle.plain_term.specs.InOrder.{put_pair}
use Rattle.term_tags.specs.declared.layouts.TheConstants.{MOST_KEYS}
use Rattle.term_words.specs.Stands.{AllStand, tree_at}
use Rattle.term_maps.specs.declared.sorted.Sorted.{Sorted}
use Rattle.term_maps.specs.declared.sorted.Spot.{Spot}
use Rattle.term_maps.specs.declared.sorted.Spot.TheVariants as spot

-- The spot is one among n, or behind the last.
abbrev pub IsWithin : ℕ → Spot → Type 0
IsWithin n (spot.Same i) = i < n
IsWithin n (spot.New i) = i ≤ n

-- The key is greater than the first i of the keys.
abbrev pub IsAbove : (names shared : List (List ℕ)) → Trees → Tree → ℕ → Type 0
IsAbove names shared ks k i = (j : ℕ) → j < i → order names shared k (tree_at ks j) ≡ Greater

-- The key is greater than those before the spot; it is the same as the one there, or less than it where there is one.
abbrev pub Finds : (names shared : List (List ℕ)) → Trees → Tree → Spot → Type 0
Finds names shared ks k (spot.Same i) = (i < trees_len ks) × (IsAbove names shared ks k i × (order names shared k (tree_at ks i) ≡ Equal))
Finds names shared ks k (spot.New i) = (i ≤ trees_len ks) × (IsAbove names shared ks k i × (i < trees_len ks → order names shared k (tree_at ks i) ≡ Less))

-- The words stand for these pairs.
pub record SortedStand (c : ℕ → ℕ → Bool) (shared : List (List ℕ)) (mem : List ℕ) (s : Sorted) (ps : Pairs) : Type 0 where
  pub keys : AllStand c shared mem s.keys.items (keys_of ps)
  pub values : AllStand c shared mem s.values.items (values_of ps)

-- The pair is put among the others, or false where there are too many.
abbrev pub PutsSpot : (ℕ → ℕ → Bool) → (names shared : List (List ℕ)) → List ℕ → Sorted → Pairs → Tree → Tree → Bool → Type 0
PutsSpot c names shared mem s ps k v true = SortedStand c shared mem s (put_pair names shared k v ps)
PutsSpot c names shared mem s ps k v false = MOST_KEYS < pairs_len (put_pair names shared k v ps)
