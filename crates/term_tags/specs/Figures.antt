-- The tables of words and objects in figures: a constant that is cited by its name is pinned here.
use Rattle.std.specs.Prelude.{◌≡◌, ◌^◌, [], ◌∷◌, refl}
use Rattle.term_tags.specs.declared.kinds.TheConstants.{PLACES, ARITIES, SUBTAGS, PIDS, ATOMS, NIL}
use Rattle.term_tags.specs.declared.layouts.TheConstants.{TUPLE, POS_BIG, NEG_BIG, REF, FUN, HOLDER, HEAP_BIN, SUB_BIN, MAP, MOST_PARTS, MOST_ENV, MOST_HEAP_BYTES, MOST_KEYS}
use Rattle.term_tags.specs.declared.records.TheConstants.{BIN_RECORD, FUN_RECORD}

-- The subtags: tuple, positive and negative big, reference, fun, holder, heap binary, sub binary, map.
pub subtags-in-figures : (TUPLE ∷ POS_BIG ∷ NEG_BIG ∷ REF ∷ FUN ∷ HOLDER ∷ HEAP_BIN ∷ SUB_BIN ∷ MAP ∷ []) ≡ (0 ∷ 2 ∷ 3 ∷ 4 ∷ 5 ∷ 8 ∷ 9 ∷ 10 ∷ 15 ∷ [])
subtags-in-figures = refl

-- The kinds of records: of a binary, of a fun.
pub records-in-figures : (BIN_RECORD ∷ FUN_RECORD ∷ []) ≡ (6 ∷ 7 ∷ [])
records-in-figures = refl

-- The most parts of a tuple, environment words, bytes on the heap, and keys.
pub sizes-in-figures : (MOST_PARTS ∷ MOST_ENV ∷ MOST_HEAP_BYTES ∷ MOST_KEYS ∷ []) ≡ (65536 ∷ 64 ∷ 64 ∷ 32 ∷ [])
sizes-in-figures = refl

-- The word of the empty list, and how many places, arities, subtags, processes and names words can tell.
pub ranges-in-figures : (NIL ∷ PLACES ∷ ARITIES ∷ SUBTAGS ∷ PIDS ∷ ATOMS ∷ []) ≡ (59 ∷ 2 ^ 24 ∷ 2 ^ 24 ∷ 16 ∷ 2 ^ 41 ∷ 16384 ∷ [])
ranges-in-figures = refl
