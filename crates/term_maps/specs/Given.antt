-- Words of pairs, and the map that is made of them.
use Rattle.std.specs.Prelude.{◌≡◌, ℕ, ◌+◌, ◌*◌, ◌≤◌, Bool, true, false, List, [], ◌∷◌, length, None}
use Rattle.word_mem.specs.declared.ranges.Room.{Room}
use Rattle.plain_term.specs.Tree.{Pairs, pairs_len}
use Rattle.plain_term.specs.Tree.Tree.{Map}
use Rattle.plain_term.specs.Tree.Pairs.{stop, pair}
use Rattle.plain_term.specs.InOrder.{in_order}
use Rattle.term_tags.specs.Words.{boxed_word}
use Rattle.term_tags.specs.declared.layouts.TheConstants.{MOST_KEYS}
use Rattle.term_words.specs.Role.{always}
use Rattle.term_words.specs.Stands.{Stands, IsTerm}
use Rattle.term_words.specs.Counted.{In}
use Rattle.term_words.specs.Kept.{Keeps}
use Rattle.term_build.specs.Taken.{Taken, IsFree, of_map}
use Rattle.term_build.specs.Clear.{Uses}
use Rattle.term_build.specs.Grows.{Built}
use Rattle.term_order.specs.Named.{pairs_named}
use Rattle.term_order.specs.Compared.{AreNamed}
use Rattle.term_maps.specs.Stops.{has_beyond, why_not}
use Rattle.term_maps.specs.Spots.{SortedStand}
use Rattle.term_maps.specs.declared.sorted.Sorted.{Sorted}

-- The words of the pairs stand for the trees of these, in order.
unfoldable pub PairsStand : (ℕ → ℕ → Bool) → List (List ℕ) → List ℕ → List (ℕ × ℕ) → Pairs → Type 0
PairsStand c shared mem [] stop = Unit {0}
PairsStand c shared mem (p ∷ words) (pair k v ps) = (Stands c shared mem p.0 k × Stands c shared mem p.1 v) × PairsStand c shared mem words ps
PairsStand c shared mem [] (pair k v ps) = ⊥
PairsStand c shared mem (p ∷ words) stop = ⊥

-- The words of a row by twos: each key with the value behind it.
abbrev pub word_pairs : List ℕ → List (ℕ × ℕ)
word_pairs (k ∷ v ∷ row) = (k, v) ∷ word_pairs row
word_pairs _ = []

-- The words of the keys.
abbrev pub keys_in : List (ℕ × ℕ) → List ℕ
keys_in [] = []
keys_in (p ∷ words) = p.0 ∷ keys_in words

-- Each two of the keys can be compared.
pub record KeysNamed (mem : List ℕ) (names : List (List ℕ)) (keys : List ℕ) : Type 0 where
  pub each : (a b : ℕ) → In a keys → In b keys → AreNamed mem names a b

-- Each of the keys stands for a tree.
pub record KeysAreTerms (mem : List ℕ) (keys : List ℕ) : Type 0 where
  pub each : (w : ℕ) → In w keys → IsTerm mem w

-- No key of the pairs is beyond the walk limit.
pub record KeysWithin (mem : List ℕ) (words : List (ℕ × ℕ)) : Type 0 where
  pub each : (c : ℕ → ℕ → Bool) (shared : List (List ℕ)) (given : Pairs) → PairsStand c shared mem words given → has_beyond shared given ≡ false

-- The pairs stand for trees whose names are among the names, and the room has the words of their map where there is one.
pub record CanMap (names : List (List ℕ)) (room : Room) (mem : List ℕ) (words : List (ℕ × ℕ)) : Type 0 where
  pub shared : List (List ℕ)
  pub given : Pairs
  pub standing : PairsStand always shared mem words given
  pub named : pairs_named (length names) given ≡ true
  pub fits : pairs_len (in_order names shared given) ≤ MOST_KEYS → room.top + (4 + 2 * pairs_len (in_order names shared given)) ≤ room.end

-- The sorted words stand for the map's pairs, and nothing is in the way of the map.
pub record IsSorted (c : ℕ → ℕ → Bool) (names shared : List (List ℕ)) (mem : List ℕ) (given : Pairs) (s : Sorted) : Type 0 where
  pub pairs : SortedStand c shared mem s (in_order names shared given)
  pub none : why_not names shared given ≡ None

-- The map of the pairs is made: its word and its words, and that it stands where they are taken, and keeps what stood.
pub record MapIsMade (c : ℕ → ℕ → Bool) (names shared : List (List ℕ)) (given : Pairs) (old new : Room) (mem mem' : List ℕ) (w : ℕ) : Type 0 where
  pub none : why_not names shared given ≡ None
  pub uses : Uses (4 + 2 * pairs_len (in_order names shared given)) old new mem mem'
  pub place : w ≡ boxed_word (old.top + (1 + pairs_len (in_order names shared given)))
  pub made : (d : ℕ → ℕ → Bool) → Taken (of_map (pairs_len (in_order names shared given))) c d old.top (4 + 2 * pairs_len (in_order names shared given))
      → Stands d shared mem' w (Map (in_order names shared given))
  pub kept : (roles : ℕ → ℕ) (d : ℕ → ℕ → Bool) → Taken roles c d old.top (4 + 2 * pairs_len (in_order names shared given)) → Keeps c d mem mem'
  pub built : IsFree c old.top (old.top + (4 + 2 * pairs_len (in_order names shared given)))
      → Built c old.top (4 + 2 * pairs_len (in_order names shared given)) mem mem' shared w (Map (in_order names shared given))
