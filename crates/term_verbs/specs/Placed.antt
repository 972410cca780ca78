-- The pairs of a map with a pair more, or with another in the place of one.
use Rattle.std.specs.Prelude.{◌≡◌, ℕ, zero, suc, ◌+◌, ◌*◌, ◌<◌, ◌≤◌, true, false, List, slice_set, insert, Result, Ok, Err}
use Rattle.word_mem.specs.declared.ranges.Room.{Room}
use Rattle.plain_term.specs.Tree.{Tree, Pairs, pairs_len, keys_of}
use Rattle.plain_term.specs.Tree.Tree.{Map}
use Rattle.plain_term.specs.Tree.Pairs.{stop, pair}
use Rattle.plain_term.specs.Beyond.{is_beyond}
use Rattle.plain_term.specs.InOrder.{put_pair}
use Rattle.term_tags.specs.declared.layouts.TheConstants.{MOST_KEYS}
use Rattle.term_words.specs.Role.{always}
use Rattle.term_words.specs.Stands.{Stands}
use Rattle.term_maps.specs.Spots.{Finds, IsWithin}
use Rattle.term_maps.specs.declared.sorted.Spot.{Spot}
use Rattle.term_maps.specs.declared.sorted.Spot.TheVariants as spot
use Rattle.term_verbs.specs.declared.pairs.Place.{Place}
use Rattle.term_verbs.specs.declared.pairs.PutStop.{PutStop}
use Rattle.term_verbs.specs.declared.pairs.PutStop.TheVariants.{NoMap, Big, Full}
use Rattle.term_verbs.specs.Found.{AreSorted}

-- The pairs with this one in the place of pair i.
abbrev pub pair_set : ℕ → (key value : Tree) → Pairs → Pairs
pair_set i k v stop = stop
pair_set zero k v (pair j w ps) = pair k v ps
pair_set (suc i) k v (pair j w ps) = pair j w (pair_set i k v ps)

-- The pairs with this one before pair i.
abbrev pub pair_insert : ℕ → (key value : Tree) → Pairs → Pairs
pair_insert i k v stop = pair k v stop
pair_insert zero k v (pair j w ps) = pair k v (pair j w ps)
pair_insert (suc i) k v (pair j w ps) = pair j w (pair_insert i k v ps)

-- The pairs with this one at the spot.
abbrev pub put_at_spot : Spot → (key value : Tree) → Pairs → Pairs
put_at_spot (spot.Same i) k v ps = pair_set i k v ps
put_at_spot (spot.New i) k v ps = pair_insert i k v ps

-- The words with this one at the spot.
abbrev pub word_placed : Spot → ℕ → List ℕ → List ℕ
word_placed (spot.Same i) w ws = slice_set ws i w
word_placed (spot.New i) w ws = insert ws i w

-- How many there are then.
abbrev pub count_placed : Spot → ℕ → ℕ
count_placed (spot.Same i) n = n
count_placed (spot.New i) n = n + 1

-- The key is within the walk limit; the place is one of these pairs, or behind the last; there are few enough keys with it;
-- and where the keys rise, it is that of the key.
pub record PlaceFits (names shared : List (List ℕ)) (ps : Pairs) (k : Tree) (place : Place) : Type 0 where
  pub small : is_beyond shared k ≡ false
  pub count : place.keys ≡ pairs_len ps
  pub inside : IsWithin (pairs_len ps) place.spot
  pub few : count_placed place.spot (pairs_len ps) ≤ MOST_KEYS
  pub finds : AreSorted names shared ps → Finds names shared (keys_of ps) k place.spot

-- There are too many keys with this one, where those of the pairs rise.
pub record IsFull (names shared : List (List ℕ)) (ps : Pairs) (k : Tree) : Type 0 where
  pub small : is_beyond shared k ≡ false
  pub many : (v : Tree) → AreSorted names shared ps → MOST_KEYS < pairs_len (put_pair names shared k v ps)

-- The answer is the place for the key among these pairs, or why there is none.
abbrev pub IsPlaceAmong : (names shared : List (List ℕ)) → Pairs → Tree → Result Place PutStop → Type 0
IsPlaceAmong names shared ps k (Ok place) = PlaceFits names shared ps k place
IsPlaceAmong names shared ps k (Err NoMap) = ⊥
IsPlaceAmong names shared ps k (Err Big) = is_beyond shared k ≡ true
IsPlaceAmong names shared ps k (Err Full) = IsFull names shared ps k

-- The same of the pairs of a tree; one that is no map has none.
abbrev pub IsPlaceInMap : (names shared : List (List ℕ)) → Tree → Tree → Result Place PutStop → Type 0
IsPlaceInMap names shared (Map ps) k result = IsPlaceAmong names shared ps k result
IsPlaceInMap names shared _ k result = result ≡ Err NoMap

-- The word stands for a map, the spot is one of its pairs or behind the last, and the room has the words of the map with it.
pub record HasPlace (room : Room) (mem : List ℕ) (w : ℕ) (x : Spot) : Type 0 where
  pub shared : List (List ℕ)
  pub pairs : Pairs
  pub standing : Stands always shared mem w (Map pairs)
  pub inside : IsWithin (pairs_len pairs) x
  pub few : count_placed x (pairs_len pairs) ≤ MOST_KEYS
  pub fits : room.top + (4 + 2 * count_placed x (pairs_len pairs)) ≤ room.end
