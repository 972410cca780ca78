-- The texts of maps of the store, part by part.
use Rattle.std.specs.Prelude.{ℕ, if◌then◌else◌, Bool, List, [], ◌++◌, codes, decimal, flat_map}

-- A number after a blank.
abbrev pub field_text : ℕ → List ℕ
field_text n = codes " " ++ decimal n

-- A text, and then each number after a blank.
abbrev pub fields_text : (text numbers : List ℕ) → List ℕ
fields_text text numbers = text ++ flat_map field_text numbers

-- What stands before an entry of a list: a comma, but for the first.
abbrev pub divider : (first : Bool) → List ℕ
divider first = if first then [] else codes ","

-- The entry of a shared binary: its id and its count.
abbrev pub bin_entry : (id count : ℕ) → List ℕ
bin_entry id count = decimal id ++ (codes ":" ++ decimal count)

-- The entry of a fun: its name, its arity and its count.
abbrev pub fun_entry : (name : List ℕ) → (arity count : ℕ) → List ℕ
fun_entry name arity count = name ++ (codes "/" ++ (decimal arity ++ (codes ":" ++ decimal count)))

-- The entry of an object: its place, its kind and its size.
abbrev pub object_entry : (place : ℕ) → (kind : List ℕ) → (size : ℕ) → List ℕ
object_entry place kind size = decimal place ++ (codes ":" ++ (kind ++ (codes ":" ++ decimal size)))
