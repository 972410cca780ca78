-- The table of layouts: every object is its header and as many words as its arity says.
use Rattle.std.specs.Prelude.{◌≡◌, ℕ, ◌+◌, ◌-◌, ◌/◌, ◌%◌, ◌≤◌, ◌⊎◌, ◌==◌, ◌&&◌, nat_le, if◌then◌else◌, Option, Some, None}
use Rattle.term_tags.specs.declared.layouts.Layout.{Layout}
use Rattle.term_tags.specs.declared.layouts.Object.{Object}
use Rattle.term_tags.specs.declared.layouts.Object.TheVariants as object
use Rattle.term_tags.specs.declared.layouts.TheConstants.{TUPLE, POS_BIG, NEG_BIG, REF, FUN, HOLDER, HEAP_BIN, SUB_BIN, MAP, MOST_PARTS, MOST_ENV, MOST_HEAP_BYTES, MOST_KEYS}

-- the subtag of each kind of object
abbrev pub subtag_of : Object → ℕ
subtag_of object.Tuple = TUPLE
subtag_of object.PosBig = POS_BIG
subtag_of object.NegBig = NEG_BIG
subtag_of object.Ref = REF
subtag_of object.Fun = FUN
subtag_of object.Holder = HOLDER
subtag_of object.HeapBin = HEAP_BIN
subtag_of object.SubBin = SUB_BIN
subtag_of object.Map = MAP

-- the kind of object of a subtag
abbrev pub object_for : ℕ → Option Object
object_for subtag =
    if subtag == TUPLE then Some object.Tuple
    else if subtag == POS_BIG then Some object.PosBig
    else if subtag == NEG_BIG then Some object.NegBig
    else if subtag == REF then Some object.Ref
    else if subtag == FUN then Some object.Fun
    else if subtag == HOLDER then Some object.Holder
    else if subtag == HEAP_BIN then Some object.HeapBin
    else if subtag == SUB_BIN then Some object.SubBin
    else if subtag == MAP then Some object.Map
    else None

-- an object of this arity, which lies between two bounds, with its words traced from one on to its end
abbrev pub row_layout : (arity least most first : ℕ) → Option Layout
row_layout arity least most first =
    if nat_le least arity && nat_le arity most then Some (record { words = 1 + arity; first = first; count = 1 + arity - first }) else None

-- the layout by subtag and arity: each row has the least and the greatest arity, and the first traced word, which is the
-- object's end where none is traced
abbrev pub layout_at : (subtag arity : ℕ) → Option Layout
layout_at subtag arity =
    if subtag == TUPLE then row_layout arity 0 MOST_PARTS 1
    else if subtag == POS_BIG then row_layout arity 1 2 (1 + arity)
    else if subtag == NEG_BIG then row_layout arity 1 2 (1 + arity)
    else if subtag == REF then row_layout arity 2 2 3
    else if subtag == FUN then row_layout arity 5 (5 + MOST_ENV) 6
    else if subtag == HOLDER then row_layout arity 5 5 6
    else if subtag == HEAP_BIN then row_layout arity 1 (1 + MOST_HEAP_BYTES / 8) (1 + arity)
    else if subtag == SUB_BIN then row_layout arity 4 4 4
    else if subtag == MAP then row_layout arity 2 (2 + MOST_KEYS) 2
    else None

-- the layout of a header; a word that does not end in 00 is none
abbrev pub layout_for : ℕ → Option Layout
layout_for header = if header % 4 == 0 then layout_at (header / 4 % 16) (header / 64) else None

-- a layout by its three numbers
abbrev pub shape : (words first count : ℕ) → Option Layout
shape words first count = Some (record { words = words; first = first; count = count })

-- the subtag is this one, and the arity lies between these bounds
abbrev pub IsInRow : (row least most : ℕ) → (subtag arity : ℕ) → Type 0
IsInRow row least most subtag arity = (subtag ≡ row) × (least ≤ arity) × (arity ≤ most)

-- the subtag and the arity are those of an object
abbrev pub IsOfObject : (subtag arity : ℕ) → Type 0
IsOfObject s n = IsInRow TUPLE 0 MOST_PARTS s n ⊎ (IsInRow POS_BIG 1 2 s n ⊎ (IsInRow NEG_BIG 1 2 s n ⊎ (IsInRow REF 2 2 s n
    ⊎ (IsInRow FUN 5 (5 + MOST_ENV) s n ⊎ (IsInRow HOLDER 5 5 s n ⊎ (IsInRow HEAP_BIN 1 (1 + MOST_HEAP_BYTES / 8) s n
    ⊎ (IsInRow SUB_BIN 4 4 s n ⊎ IsInRow MAP 2 (2 + MOST_KEYS) s n)))))))
