-- What a line gives while it is read: names, items, and whether a name found no place.
use Rattle.std.specs.Prelude.{ℕ, ◌+◌, ◌<◌, ◌≤◌, nat_le, Bool, true, List, [], ◌∷◌, ◌++◌, length, take, slice_set, if◌then◌else◌, ◌≡◌}
use Rattle.atom_names.specs.Names.{most_names, with_name}
use Rattle.plain_term.specs.declared.item.Item.{Item}
use Rattle.plain_term.specs.declared.item.Item.TheVariants as item
use Rattle.script_grammar.specs.Written.{Term, Terms, TermPairs, terms_len, term_pairs_len}
use Rattle.script_grammar.specs.Written.Term.{Int, Atom, Pid, Held, Listed, Barred, Tuple, Map, Bin}
use Rattle.script_grammar.specs.Written.Terms.{end, ◌▹◌}
use Rattle.script_grammar.specs.Written.TermPairs.{stop, pair}
use Rattle.script_grammar.specs.Names.{number_of}
use Rattle.script_parse.specs.declared.forms.Form.{Form}
use Rattle.script_parse.specs.declared.forms.Form.TheVariants as form
use Rattle.script_parse.specs.declared.output.Output.{Output}

-- The names so far, whether one of them found no place, and the items so far.
pub record Out : Type 0 where
  pub names : List (List ℕ)
  pub full : Bool
  pub items : List Item

-- The three as one.
abbrev pub out : List (List ℕ) → Bool → List Item → Out
out names full items = record { names = names; full = full; items = items }

-- All names stay in their places.
pub record NamesStay (old new : List (List ℕ)) : Type 0 where
  pub longer : length old ≤ length new
  pub same : (n : ℕ) → n ≤ length old → take n new ≡ take n old

-- What an output of the code has so far.
abbrev pub given : Output → Out
given o = out o.names.now o.full o.code.now

-- Both lend the same names and the same buffer of items.
abbrev pub IsSame : (old new : Output) → Type 0
IsSame old new = (new.names.ghost_name ≡ old.names.ghost_name) × (new.code.ghost_name ≡ old.code.ghost_name)

-- All names stay in their places, and items only come.
abbrev pub OutputGrows : (old new : Output) → Type 0
OutputGrows old new = IsSame old new × NamesStay old.names.now new.names.now × (length old.code.now ≤ length new.code.now)

-- Something of the line was read, and its bytes make up for the items that came, but for so many.
abbrev pub Spends : (spare : ℕ) (line rest : List ℕ) (old new : Output) → Type 0
Spends spare line rest old new = (length new.code.now + length rest ≤ length old.code.now + length line + spare) × (length rest < length line)

-- An item goes last.
abbrev pub push : Out → Item → Out
push o i = record { names = o.names; full = o.full; items = o.items ++ i ∷ [] }

-- The item of a place becomes another.
abbrev pub put_at : ℕ → Item → Out → Out
put_at at i o = record { names = o.names; full = o.full; items = slice_set o.items at i }

-- The items with what a form puts before its parts: the count of a tuple, a map or a binary comes later.
abbrev pub begun_items : Form → List Item → List Item
begun_items form.List items = items
begun_items form.Tuple items = items ++ item.Tuple 0 ∷ []
begun_items form.Map items = items ++ item.Map 0 ∷ []
begun_items form.Binary items = items ++ item.Bin 0 ∷ []

-- What a form puts before its parts goes last.
abbrev pub begun : Form → Out → Out
begun f o = record { names = o.names; full = o.full; items = begun_items f o.items }

-- The items with what a form puts before each part.
abbrev pub led_items : Form → List Item → List Item
led_items form.List items = items ++ item.Cons ∷ []
led_items form.Tuple items = items
led_items form.Map items = items
led_items form.Binary items = items

-- What a form puts before each part goes last.
abbrev pub led : Form → Out → Out
led f o = record { names = o.names; full = o.full; items = led_items f o.items }

-- A form that began at this place and has so many parts is complete.
abbrev pub ended : Form → (at n : ℕ) → Out → Out
ended form.List at n o = push o item.Nil
ended form.Tuple at n o = put_at at (item.Tuple n) o
ended form.Map at n o = put_at at (item.Map n) o
ended form.Binary at n o = put_at at (item.Bin n) o

-- An atom goes last by its number. Where it is new and finds no place, that is kept in mind.
abbrev pub put_atom : Out → List ℕ → Out
put_atom o a = if nat_le (length (with_name o.names a)) most_names
    then record { names = with_name o.names a; full = o.full; items = o.items ++ item.Atom (number_of (with_name o.names a) a) ∷ [] }
    else record { names = o.names; full = true; items = o.items ++ item.Atom 0 ∷ [] }

-- The number of a name that is put in: none but 0 where it is new and finds no place.
abbrev pub entered_number : Out → List ℕ → ℕ
entered_number o a = if nat_le (length (with_name o.names a)) most_names then number_of (with_name o.names a) a else 0

-- Bytes go last one by one.
abbrev pub put_bytes : List ℕ → Out → Out
put_bytes [] o = o
put_bytes (b ∷ bytes) o = put_bytes bytes (push o (item.Byte b))

-- An atom that is no term has a number alone.
abbrev pub put_name : Out → List ℕ → Out
put_name o a = if nat_le (length (with_name o.names a)) most_names
    then record { names = with_name o.names a; full = o.full; items = o.items }
    else record { names = o.names; full = true; items = o.items }

abbrev mutual
  -- A term goes last in prefix form.
  pub put : Term → Out → Out
  put (Int i) o = push o (item.Int i)
  put (Atom a) o = put_atom o a
  put (Pid n) o = push o (item.Pid n)
  put (Held r) o = push o (item.Held r)
  put (Listed ts) o = ended form.List (length o.items) (terms_len ts) (put_terms form.List ts (begun form.List o))
  put (Barred ts t) o = put t (put_terms form.List ts (begun form.List o))
  put (Tuple ts) o = ended form.Tuple (length o.items) (terms_len ts) (put_terms form.Tuple ts (begun form.Tuple o))
  put (Map qs) o = ended form.Map (length o.items) (term_pairs_len qs) (put_pairs qs (begun form.Map o))
  put (Bin bytes) o = ended form.Binary (length o.items) (length bytes) (put_bytes bytes (begun form.Binary o))

  -- The terms of a form go last.
  pub put_terms : Form → Terms → Out → Out
  put_terms f end o = o
  put_terms f (t ▹ ts) o = put_terms f ts (put t (led f o))

  -- The pairs of a map go last, each key before its value.
  pub put_pairs : TermPairs → Out → Out
  put_pairs stop o = o
  put_pairs (pair k v qs) o = put_pairs qs (put v (put k o))
