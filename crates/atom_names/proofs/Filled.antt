-- Laws of the rows that hold names.
use Rattle.std.proofs.Common.{◌≡◌, ◌≢◌, ℕ, ◌+◌, ◌<◌, ◌≤◌, List, [], ◌∷◌, ◌++◌, length, get_or, set, take, map, Some, None, sym, ap, ◌∙◌, subst, ⊎_elim, arith}
use Rattle.std.proofs.lemmas.List.{length-map, length-take-le, take_more_set, map_push, take-map, take-take, get_or-map, get_or-take, length-set, get_or-set_same, get_or-set_other}
use Rattle.std.proofs.lemmas.Bool.{cases_eq}
use Rattle.atom_names.specs.declared.row.Row.{Row}
use Rattle.atom_names.specs.declared.table.Table.{Table}
use Rattle.atom_names.specs.Slots.{FindsSlot, IsFreeSlot}
use Rattle.atom_names.specs.Rows.{row_name, names_of, AreShort, NamesHold}
use Rattle.atom_names.specs.Names.{index_of, with_name}
use Rattle.atom_names.proofs.Probing.{Finds_push, Finds_same}
use Rattle.atom_names.proofs.Places.{once-at, index_of-none, with_name-new, index_of-push, AreNames_push, AreNames_take}
use Rattle.atom_names.specs.declared.names.TheConstants.{MOST_NAMES}
use Rattle.atom_names.specs.declared.row.TheConstants.{LONGEST_NAME}

pub names_of-len : (rows : List Row) (n : ℕ) → n ≤ length rows → length (names_of rows n) ≡ n
names_of-len rows n h = length-map (take n rows) row_name ∙ length-take-le n rows h

pub names_of-at : (rows : List Row) (n k : ℕ) (d : Row) → k < n → n ≤ length rows → get_or (names_of rows n) k [] ≡ row_name (get_or rows k d)
names_of-at rows n k d less h =
    get_or-map row_name (take n rows) k d [] (omega (arith, length-take-le n rows h)) ∙ ap row_name (get_or-take n rows k d less)

pub names_of-push : (rows : List Row) (n : ℕ) (row : Row) → n < length rows → names_of (set rows n row) (n + 1) ≡ names_of rows n ++ row_name row ∷ []
names_of-push rows n row h = ap (map row_name) (take_more_set rows n row h) ∙ map_push row_name (take n rows) row

pub names_of-forget : (rows : List Row) (n count : ℕ) → n ≤ count → names_of rows n ≡ take n (names_of rows count)
names_of-forget rows n count h = ap (map row_name) (sym (take-take n count rows h)) ∙ sym (take-map row_name n (take count rows))

pub short-set : (rows : List Row) (i : ℕ) (row : Row) → row.len ≤ LONGEST_NAME → AreShort rows → AreShort (set rows i row)
short-set rows i row low all k d h = ⊎_elim
    (λ same. let e : get_or (set rows i row) k d ≡ row = rw same (get_or-set_same rows i row d (omega (arith, length-set rows i row))) in rw e low)
    (λ apart. rw (get_or-set_other rows i k row d apart) (all k d (omega (arith, length-set rows i row))))
    (cases_eq k i)

pub short-take : (rows : List Row) (n : ℕ) → n ≤ length rows → AreShort rows → AreShort (take n rows)
short-take rows n fits all k d h =
    let less : k < n = omega (arith, length-take-le n rows fits) in rw (get_or-take n rows k d less) (all k d (omega arith))

-- A row is added at the end.
pub Holds_push : (rows : List Row) (table grown : Table) (count slot : ℕ) (row : Row) (name : List ℕ) → NamesHold rows table count →
    count < MOST_NAMES → row.len ≤ LONGEST_NAME → row_name row ≡ name → 1 ≤ length name → length name ≤ LONGEST_NAME →
    index_of (names_of rows count) name ≡ None → IsFreeSlot name table.slots.items slot →
    grown.slots.items ≡ set table.slots.items slot (count + 1) → grown.places.items ≡ set table.places.items count slot →
    NamesHold (set rows count row) grown (count + 1)
Holds_push rows table grown count slot row name all room short e low high none free slots places =
    let inside : count < length rows = omega (arith, all.room) in
    let len : length (names_of rows count) ≡ count = names_of-len rows count (omega arith) in
    let more = names_of-push rows count row inside in
    record {
      room = length-set rows count row ∙ all.room;
      within = omega arith;
      short = short-set rows count row short all.short;
      names = rw (more, e) (AreNames_push (names_of rows count) name all.names (omega arith) low high none);
      finds = rw (more, e, slots, places)
          (Finds_push (names_of rows count) name count table.slots.items table.places.items slot all.finds len room free);
    }

-- The last rows are let go.
pub Holds_forget : (rows : List Row) (table less : Table) (count n : ℕ) → NamesHold rows table count → n ≤ count →
    FindsSlot (names_of rows count) n less.slots.items less.places.items → NamesHold rows less n
Holds_forget rows table less count n all h finds =
    let len : length (names_of rows count) ≡ count = names_of-len rows count (omega (arith, all.room, all.within)) in
    record {
      room = all.room;
      within = omega (arith, all.within);
      short = all.short;
      names = rw (names_of-forget rows n count h) (AreNames_take (names_of rows count) n all.names (omega arith));
      finds = Finds_same (names_of rows count) (names_of rows n) n less.slots.items less.places.items
          (λ k low. rw (names_of-forget rows n count h) (sym (get_or-take n (names_of rows count) k [] low))) finds;
    }

-- The view has as many names as rows are in use.
pub view-len : (rows : List Row) (table : Table) (count : ℕ) (seen : List (List ℕ)) → NamesHold rows table count →
    names_of rows count ≡ seen → length seen ≡ count
view-len rows table count seen all e = ap length (sym e) ∙ names_of-len rows count (omega (arith, all.room, all.within))

-- The number of the name that is added.
pub number-of-push : (rows : List Row) (table : Table) (count : ℕ) (row : Row) (name : List ℕ) → NamesHold rows table count →
    count < MOST_NAMES → row_name row ≡ name → index_of (names_of rows count) name ≡ None →
    index_of (names_of (set rows count row) (count + 1)) name ≡ Some count
number-of-push rows table count row name all room e none =
    rw (names_of-push rows count row (omega (arith, all.room)), e)
    (index_of-push (names_of rows count) name count (names_of-len rows count (omega (arith, all.room))) none)

-- How many names there are when a row is added.
pub room-of-push : (rows : List Row) (table : Table) (count : ℕ) (row : Row) → NamesHold rows table count → count < MOST_NAMES →
    length (names_of (set rows count row) (count + 1)) ≤ MOST_NAMES
room-of-push rows table count row all room =
    omega (arith, names_of-len (set rows count row) (count + 1) (omega (arith, length-set rows count row, all.room)))

-- Where a row in use holds the name, its place is the name's number.
pub number-found : (rows read : List Row) (table : Table) (count k : ℕ) (name : List ℕ) (seen : List (List ℕ)) → NamesHold rows table count →
    read ≡ rows → names_of rows count ≡ seen → k < length (take count read) → get_or (names_of read count) k [] ≡ name →
    index_of seen name ≡ Some k
number-found rows read table count k name seen all same view low there =
    let P : List Row → Type 0 = λ r. k < length (take count r) in
    let Q : List Row → Type 0 = λ r. get_or (names_of r count) k [] ≡ name in
    let inside : k < length (names_of rows count) = omega (arith, subst P same low, length-map (take count rows) row_name) in
    rw (← view) (once-at (names_of rows count) name k all.names inside (subst Q same there))

-- Where no row in use holds the name, it is new.
pub number-new : (rows read : List Row) (count : ℕ) (name : List ℕ) (seen : List (List ℕ)) → read ≡ rows → names_of rows count ≡ seen →
    ((k : ℕ) → k < length (take count read) → get_or (names_of read count) k [] ≢ name) → index_of seen name ≡ None
number-new rows read count name seen same view others =
    let P : List Row → Type 0 = λ r. (k : ℕ) → k < length (take count r) → get_or (names_of r count) k [] ≢ name in
    rw (← view) (index_of-none (names_of rows count) name
    (λ k h. subst P same others k (omega (arith, length-map (take count rows) row_name))))

-- The names after a row is added.
pub list-of-push : (rows : List Row) (table : Table) (count : ℕ) (row : Row) (name : List ℕ) (seen : List (List ℕ)) → NamesHold rows table count →
    count < MOST_NAMES → row_name row ≡ name → names_of rows count ≡ seen → index_of seen name ≡ None →
    names_of (set rows count row) (count + 1) ≡ with_name seen name
list-of-push rows table count row name seen all room e view none =
    rw (with_name-new seen name none, ← view, ← e) (names_of-push rows count row (omega (arith, all.room)))

-- A row in use holds a name of 1 to 63 bytes.
pub named-size : (rows : List Row) (table : Table) (count k : ℕ) (seen : List (List ℕ)) (row : Row) (name : List ℕ) → NamesHold rows table count →
    names_of rows count ≡ seen → k < length seen → row ≡ get_or rows k row → name ≡ row_name row → (1 ≤ length name) × (length name ≤ LONGEST_NAME)
named-size rows table count k seen row name all view low at is =
    let inside : k < count = omega (arith, view-len rows table count seen all view) in
    let len : length (names_of rows count) ≡ count = names_of-len rows count (omega (arith, all.room, all.within)) in
    let same : get_or (names_of rows count) k [] ≡ name =
    names_of-at rows count k row inside (omega (arith, all.room, all.within)) ∙ (ap row_name (sym at) ∙ sym is) in
    let P : List ℕ → Type 0 = λ x. (1 ≤ length x) × (length x ≤ LONGEST_NAME) in
    subst P same (all.names.sized k (omega arith))
