-- What the items of written terms are read as. Each item stands before what follows it and takes its parts from there.
use Rattle.std.specs.Prelude.{◌≡◌, ℕ, ◌+◌, ◌-◌, ◌*◌, ◌^◌, ◌<◌, ◌≤◌, ◌||◌, not, nat_lt, if◌then◌else◌, Bool, true, false, List, [], ◌∷◌, ◌++◌, length, map, drop, take, slice_index_or, Option, Some, None, Result, Ok, Err}
use Rattle.plain_term.specs.declared.item.Item.{Item}
use Rattle.plain_term.specs.declared.item.Item.TheVariants.{Int, Atom, Pid, Nil, Cons, Tuple, Map, Bin, Byte, Held}
use Rattle.plain_term.specs.Tree.{Tree, Trees, Pairs, pairs_len}
use Rattle.plain_term.specs.Tree.{Tree as tree}
use Rattle.plain_term.specs.Tree.Trees.{end, ◌▹◌}
use Rattle.plain_term.specs.Tree.Pairs.{stop, pair}
use Rattle.plain_term.specs.Measures.{bin_words, is_small, magnitude, int_flat}
use Rattle.plain_term.specs.Beyond.{is_beyond}
use Rattle.plain_term.specs.InOrder.{in_order}
use Rattle.term_tags.specs.declared.kinds.TheConstants.{ATOMS, PIDS}
use Rattle.term_tags.specs.declared.layouts.TheConstants.{MOST_HEAP_BYTES, MOST_KEYS}
use Rattle.item_build.specs.declared.building.BuildStop.{BuildStop}
use Rattle.item_build.specs.declared.building.BuildStop.TheVariants.{Big, Size}

-- A binary that has a record of its own, for it is too long for the heap.
abbrev pub is_long : Item → Bool
is_long (Bin n) = nat_lt MOST_HEAP_BYTES n
is_long _ = false

-- The words of a binary on the heap; a long one has none there but its holder.
abbrev pub near_words : ℕ → ℕ
near_words n = if nat_lt MOST_HEAP_BYTES n then 0 else 2 + bin_words n

-- The words that an item's own object takes, holders and records aside; a map may take fewer.
abbrev pub own_words : Item → ℕ
own_words (Int i) = int_flat i
own_words Cons = 2
own_words (Tuple n) = n + 1
own_words (Map n) = 4 + 2 * n
own_words (Bin n) = near_words n
own_words _ = 0

-- The words of the record of a long binary.
abbrev pub long_record_words : ℕ → ℕ
long_record_words n = if nat_lt MOST_HEAP_BYTES n then 4 + bin_words n else 0

-- The words of an item's holder, and of its record.

abbrev pub holder_words : Item → ℕ
holder_words x = if is_long x then 6 else 0

abbrev pub far_words : Item → ℕ
far_words (Bin n) = long_record_words n
far_words _ = 0

-- The words that an item asks for.
abbrev pub item_words : Item → ℕ
item_words x = own_words x + (holder_words x + far_words x)

-- The words that all items ask for, and those of their own objects alone.

abbrev pub item_words_of : List Item → ℕ
item_words_of [] = 0
item_words_of (x ∷ xs) = item_words x + item_words_of xs

abbrev pub own_words_of : List Item → ℕ
own_words_of [] = 0
own_words_of (x ∷ xs) = own_words x + own_words_of xs

-- The words of all records.
abbrev pub far_words_of : List Item → ℕ
far_words_of [] = 0
far_words_of (x ∷ xs) = far_words x + far_words_of xs

-- How many long binaries there are.
abbrev pub long_bins : List Item → ℕ
long_bins [] = 0
long_bins (x ∷ xs) = (if is_long x then 1 else 0) + long_bins xs

-- The words of all objects, holders among them.
abbrev pub heap_words_of : List Item → ℕ
heap_words_of xs = own_words_of xs + 6 * long_bins xs

-- The byte that an item is.
abbrev pub item_byte : Item → ℕ
item_byte (Byte b) = b
item_byte _ = 0

-- The bytes that the first n items are.
abbrev pub bytes_in : ℕ → List Item → List ℕ
bytes_in n xs = map item_byte (take n xs)

-- The bytes of an item that is a long binary, where these are the items behind it.
abbrev pub long_bytes : Item → List Item → List (List ℕ)
long_bytes (Bin n) xs = if nat_lt MOST_HEAP_BYTES n then bytes_in n xs ∷ [] else []
long_bytes _ xs = []

-- The bytes of all long binaries, from left to right.
abbrev pub bins_of : List Item → List (List ℕ)
bins_of [] = []
bins_of (x ∷ xs) = long_bytes x xs ++ bins_of xs

-- How many of the terms that follow are the parts of an item.
abbrev pub parts_after : Item → ℕ
parts_after Cons = 2
parts_after (Tuple n) = n
parts_after (Map n) = 2 * n
parts_after _ = 0

-- How many of the items that follow are the bytes of an item.
abbrev pub bytes_after : Item → ℕ
bytes_after (Bin n) = n
bytes_after _ = 0

-- The item is a byte of a binary before it, and no term of its own.
abbrev pub is_byte : Item → Bool
is_byte (Byte b) = true
is_byte _ = false

-- The item is a term of one word, without an object of its own.
abbrev pub is_word : Item → Bool
is_word (Int i) = is_small i
is_word (Atom k) = true
is_word (Pid n) = true
is_word Nil = true
is_word (Held r) = true
is_word _ = false

-- The item is neither a byte nor a term of one word.
abbrev pub is_object : Item → Bool
is_object x = not (is_byte x || is_word x)

-- How many bytes the items begin with.
abbrev pub bytes_led : List Item → ℕ
bytes_led [] = 0
bytes_led (x ∷ xs) = if is_byte x then 1 + bytes_led xs else 0

-- How many terms items are.
abbrev pub terms_in : List Item → ℕ
terms_in [] = 0
terms_in (x ∷ xs) = if is_byte x then terms_in xs else terms_in xs - parts_after x + 1

-- An item that can be built, with so many names and so many held terms.
abbrev pub IsItem : (names held : ℕ) → Item → Type 0
IsItem names held (Int i) = magnitude i < 2 ^ 127
IsItem names held (Atom k) = (k < names) × (k < ATOMS)
IsItem names held (Pid n) = n < PIDS
IsItem names held (Held r) = r < held
IsItem names held _ = Unit {0}

-- The parts of an item, or its bytes, stand behind it.
abbrev pub HasParts : Item → List Item → Type 0
HasParts x xs = (parts_after x ≤ terms_in xs) × (bytes_after x ≤ bytes_led xs)

-- Each item can be built, and has its parts behind it.
abbrev pub AreWhole : (names held : ℕ) → List Item → Type 0
AreWhole names held [] = Unit {0}
AreWhole names held (x ∷ xs) = IsItem names held x × HasParts x xs × AreWhole names held xs

-- The bytes of each long binary stand behind it.
abbrev pub AreLed : List Item → Type 0
AreLed [] = Unit {0}
AreLed (x ∷ xs) = (bytes_after x ≤ length xs) × AreLed xs

-- The items are those of one term.
pub record IsWritten (names held : ℕ) (code : List Item) : Type 0 where
  pub whole : AreWhole names held code
  pub one : terms_in code ≡ 1

-- A tree before others, where all are there.
abbrev pub put_first : Option Tree → Option Trees → Option Trees
put_first (Some t) (Some ts) = Some (t ▹ ts)
put_first (Some t) None = None
put_first None ts = None

-- The trees, where all are there.
abbrev pub all_of : List (Option Tree) → Option Trees
all_of [] = Some end
all_of (m ∷ ms) = put_first m (all_of ms)

-- Trees by twos, as keys with their values.
abbrev pub paired : Trees → Pairs
paired (k ▹ v ▹ ts) = pair k v (paired ts)
paired _ = stop

-- The map of these pairs, where it has no more keys than a map may have.
abbrev pub map_of : (names shared : List (List ℕ)) → Pairs → Option Tree
map_of names shared given = if nat_lt MOST_KEYS (pairs_len (in_order names shared given)) then None else Some (tree.Map (in_order names shared given))

-- The list place of the first two trees.
abbrev pub cons_of : Trees → Option Tree
cons_of (h ▹ t ▹ ts) = Some (tree.Cons h t)
cons_of _ = None

-- The binary of the first n items; of a long one the id: so many later ones have the last ids.
abbrev pub bin_of_items : (shared : List (List ℕ)) → ℕ → List Item → Tree
bin_of_items shared n xs = if nat_lt MOST_HEAP_BYTES n then tree.Shared (length shared - long_bins xs) else tree.Bin (bytes_in n xs)

-- The tree of an item with these parts, behind which these items stand. `held` has the trees of the registers.
abbrev pub tree_with : (names shared : List (List ℕ)) (held : List Tree) → Item → List Item → Trees → Option Tree
tree_with names shared held (Int i) xs ts = Some (tree.Int i)
tree_with names shared held (Atom k) xs ts = Some (tree.Atom k)
tree_with names shared held (Pid n) xs ts = Some (tree.Pid n)
tree_with names shared held Nil xs ts = Some tree.Nil
tree_with names shared held Cons xs ts = cons_of ts
tree_with names shared held (Tuple n) xs ts = Some (tree.Tuple ts)
tree_with names shared held (Map n) xs ts = map_of names shared (paired ts)
tree_with names shared held (Bin n) xs ts = Some (bin_of_items shared n xs)
tree_with names shared held (Byte b) xs ts = None
tree_with names shared held (Held r) xs ts = Some (slice_index_or held r tree.Nil)

-- The same, where all parts are there.
abbrev pub tree_where : (names shared : List (List ℕ)) (held : List Tree) → Item → List Item → Option Trees → Option Tree
tree_where names shared held x xs None = None
tree_where names shared held x xs (Some ts) = tree_with names shared held x xs ts

-- An item before terms: it takes its parts from their front. A byte is no term.
abbrev pub read_item : (names shared : List (List ℕ)) (held : List Tree) → Item → List Item → List (Option Tree) → List (Option Tree)
read_item names shared held x xs ms = if is_byte x then ms else tree_where names shared held x xs (all_of (take (parts_after x) ms)) ∷ drop (parts_after x) ms

-- The trees of the terms that items are, in order; none for a term that is wide: a map in it, as it is written, has too
-- many different keys.
abbrev pub read : (names shared : List (List ℕ)) (held : List Tree) → List Item → List (Option Tree)
read names shared held [] = []
read names shared held (x ∷ xs) = read_item names shared held x xs (read names shared held xs)

-- A key that is not wide is beyond the walk limit.
abbrev pub is_big_key : (shared : List (List ℕ)) → Option Tree → Bool
is_big_key shared None = false
is_big_key shared (Some t) = is_beyond shared t

-- Of keys and values in turn some key is.
abbrev pub has_big_key : (shared : List (List ℕ)) → List (Option Tree) → Bool
has_big_key shared (k ∷ v ∷ ms) = is_big_key shared k || has_big_key shared ms
has_big_key shared _ = false

-- An item is a map, and of its parts some key is.
abbrev pub is_big_item : (shared : List (List ℕ)) → Item → (parts : List (Option Tree)) → Bool
is_big_item shared (Map n) ms = has_big_key shared ms
is_big_item shared _ ms = false

-- Some item is such a map.
abbrev pub has_big_item : (names shared : List (List ℕ)) (held : List Tree) → List Item → Bool
has_big_item names shared held [] = false
has_big_item names shared held (x ∷ xs) = is_big_item shared x (take (parts_after x) (read names shared held xs)) || has_big_item names shared held xs

-- The one term is there, or it is wide.
abbrev pub unless_wide : List (Option Tree) → Result Tree BuildStop
unless_wide (Some t ∷ ms) = Ok t
unless_wide _ = Err Size

-- What the items come to, over all shared binaries, their own among them: the tree of their term, or why there is none.
-- A big key comes before too many keys.
abbrev pub outcome_over : (names shared : List (List ℕ)) (held : List Tree) → List Item → Result Tree BuildStop
outcome_over names shared held code = if has_big_item names shared held code then Err Big else unless_wide (read names shared held code)

-- What building the items comes to, where these shared binaries were there before.
abbrev pub outcome : (names shared : List (List ℕ)) (held : List Tree) → List Item → Result Tree BuildStop
outcome names shared held code = outcome_over names (shared ++ bins_of code) held code
