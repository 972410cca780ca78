-- Chains of holders and funs, and the counts of the records that they name. An object is given by its place.
use Rattle.std.specs.Prelude.{◌≡◌, ℕ, ◌+◌, ◌<◌, ◌≤◌, ◌⊎◌, ◌==◌, if◌then◌else◌, Bool, true, List, [], ◌∷◌, length, slice_index}
use Rattle.term_tags.specs.Words.{head_word}
use Rattle.term_tags.specs.declared.layouts.TheConstants.{FUN, HOLDER, MOST_ENV}
use Rattle.term_words.specs.Role.{NEXT, FIRST, FURTHER, NAMES}
use Rattle.term_words.specs.Object.{IsBinRecord, IsFunRecord, IsRecord}
use Rattle.term_words.specs.Counted.{In, Distinct}
use Rattle.shared_rec.specs.Record.{count_in, length_in}

-- The place of the word that names an object's record: word 3 of a holder, word 1 of a fun.
abbrev pub name_place : List ℕ → ℕ → ℕ
name_place mem p = if slice_index mem p == head_word HOLDER 5 then p + 3 else p + 1

-- The place of the record that an object names.
abbrev pub named : List ℕ → ℕ → ℕ
named mem p = slice_index mem (name_place mem p)

-- The object after this one: its word `next`, word 2 of a holder and of a fun, 0 at the end of a chain.
abbrev pub next_in : List ℕ → ℕ → ℕ
next_in mem p = slice_index mem (p + 2)

-- From this object on the words `next` lead over these objects, in order, to the last place.
abbrev pub Leads : List ℕ → (from : ℕ) → List ℕ → (to : ℕ) → Type 0
Leads mem from [] to = from ≡ to
Leads mem from (p ∷ os) to = (from ≡ p) × Leads mem (next_in mem p) os to

-- These are the objects of the chain, in order.
abbrev pub Chain : List ℕ → (head : ℕ) → List ℕ → Type 0
Chain mem head os = Leads mem head os 0

-- 1 where the record that is named is this one, else 0.
abbrev pub names_it : (r v : ℕ) → ℕ
names_it r v = if r == v then 1 else 0

-- How many of the objects name the record.
abbrev pub naming : List ℕ → (v : ℕ) → List ℕ → ℕ
naming mem v [] = 0
naming mem v (p ∷ os) = names_it (named mem p) v + naming mem v os

-- The first word of a holder, or that of a fun.
abbrev pub IsLinkHeader : ℕ → Type 0
IsLinkHeader word = (word ≡ head_word HOLDER 5) ⊎ ((k : ℕ) × ((k ≤ MOST_ENV) × (word ≡ head_word FUN (k + 5))))

-- A holder or fun lies at place p, not at place 0, and the record that it names stands; a holder has its record's length.
pub record IsLink (c : ℕ → ℕ → Bool) (mem : List ℕ) (p : ℕ) : Type 0 where
  pub somewhere : 0 < p
  pub within : p + 6 ≤ length mem
  pub first : c p FIRST ≡ true
  pub next : c (p + 2) NEXT ≡ true
  pub names : c (name_place mem p) NAMES ≡ true
  pub kind : IsLinkHeader (slice_index mem p)
  pub size : slice_index mem p ≡ head_word HOLDER 5 → (c (p + 1) FURTHER ≡ true) × (slice_index mem (p + 1) ≡ length_in mem (named mem p))
  pub words : ℕ
  pub record_is : IsRecord c mem (named mem p) words

-- The chain's objects are these, each once, and each record's count is the number of them, and of further objects, that name it.
-- A further object counts as often as it is listed; `Chained` asks that it is listed once, and in no chain.
pub record Links (c : ℕ → ℕ → Bool) (mem : List ℕ) (head : ℕ) (os further : List ℕ) : Type 0 where
  pub chain : Chain mem head os
  pub once : Distinct os
  pub each : (p : ℕ) → In p os → IsLink c mem p
  pub beside : (p : ℕ) → In p further → IsLink c mem p
  pub counts : (v n : ℕ) → IsRecord c mem v n → count_in mem v ≡ naming mem v os + naming mem v further

-- The record at place u has the content of that at place v.
pub record SameContent (c : ℕ → ℕ → Bool) (mem : List ℕ) (v u : ℕ) : Type 0 where
  pub bins : (serial : ℕ) (bytes : List ℕ) → IsBinRecord c mem v serial bytes → IsBinRecord c mem u serial bytes
  pub funs : (name arity : ℕ) → IsFunRecord c mem v name arity → IsFunRecord c mem u name arity
