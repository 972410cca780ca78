-- What is built of the terms of a process's registers.
use Rattle.std.specs.Prelude.{◌≡◌, ℕ, ◌+◌, ◌*◌, ◌^◌, ◌<◌, ◌≤◌, Bool, true, List, length, replicate, set, Option, Some}
use Rattle.plain_term.specs.Tree.{Tree, Pairs, pairs_len}
use Rattle.plain_term.specs.Tree.Tree.{Bin, Map, Ref}
use Rattle.plain_term.specs.Measures.{bin_words}
use Rattle.plain_machine.specs.declared.limits.TheConstants.{MOST_PLACES}
use Rattle.plain_machine.specs.State.{Process, register, with_register}
use Rattle.plain_machine.specs.Parts.{part_in, repeated}
use Rattle.plain_machine.specs.Tightness.{repeat_words}
use Rattle.script_grammar.specs.declared.command.Reg.{Reg}
use Rattle.script_grammar.specs.Names.{IsRegister}
use Rattle.term_tags.specs.declared.layouts.TheConstants.{MOST_HEAP_BYTES, MOST_KEYS}
use Rattle.term_maps.specs.Spots.{IsWithin}
use Rattle.term_verbs.specs.Placed.{count_placed, put_at_spot}
use Rattle.term_verbs.specs.declared.pairs.Place.{Place}
use Rattle.heaps_api.specs.declared.making.Make.{Make}
use Rattle.heaps_api.specs.declared.making.Make.TheVariants as make

-- The words that it may take: a map is reckoned with a key more.
abbrev pub words_of_make : Make → ℕ
words_of_make (make.Same shape n s) = repeat_words shape n
words_of_make (make.Pair s place k v) = 6 + 2 * place.keys
words_of_make (make.Part s offset len) = 5
words_of_make make.Ref = 3
words_of_make (make.Bytes n byte) = 2 + bin_words n

-- Its words can be counted.
abbrev pub CanReckon : Make → Type 0
CanReckon (make.Same shape n s) = n ≤ MOST_PLACES
CanReckon (make.Pair s place k v) = place.keys ≤ MOST_KEYS
CanReckon (make.Part s offset len) = Unit {0}
CanReckon make.Ref = Unit {0}
CanReckon (make.Bytes n byte) = n ≤ MOST_HEAP_BYTES

-- A map with a pair at a place that it has.
pub record MakesPair (q : Process) (s : Reg) (place : Place) (k v : Reg) (t : Tree) : Type 0 where
  pub registers : IsRegister s × (IsRegister k × IsRegister v)
  pub pairs : Pairs
  pub map : register s.0 q ≡ Map pairs
  pub count : place.keys ≡ pairs_len pairs
  pub inside : IsWithin (pairs_len pairs) place.spot
  pub few : count_placed place.spot (pairs_len pairs) ≤ MOST_KEYS
  pub tree : t ≡ Map (put_at_spot place.spot (register k.0 q) (register v.0 q) pairs)

-- What is built for the process is this tree.
abbrev pub IsMadeOf : (shared : List (List ℕ)) → Process → Make → Tree → Type 0
IsMadeOf shared q (make.Same shape n s) t = IsRegister s × ((n ≤ MOST_PLACES) × (t ≡ repeated shape n (register s.0 q)))
IsMadeOf shared q (make.Pair s place k v) t = MakesPair q s place k v t
IsMadeOf shared q (make.Part s offset len) t = IsRegister s × (part_in shared offset len (register s.0 q) ≡ Some t)
IsMadeOf shared q make.Ref t = t ≡ Ref q.number (q.refs + 1)
IsMadeOf shared q (make.Bytes n byte) t = (n ≤ MOST_HEAP_BYTES) × ((byte < 256) × (t ≡ Bin (replicate n byte)))

-- The process after it: the register holds the tree, and a reference is one more that it has made.
abbrev pub with_made_in : (r : ℕ) → Make → Tree → Process → Process
with_made_in r make.Ref t q = record (with_register r t q) { refs = q.refs + 1 }
with_made_in r _ t q = with_register r t q
