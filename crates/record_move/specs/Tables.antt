-- Tables of the places of records, which follow the records that moved.
use Rattle.std.specs.Prelude.{◌≡◌, ℕ, ◌+◌, ◌-◌, ◌<◌, ◌≤◌, Bool, nat_le, if◌then◌else◌, List, [], ◌∷◌, length}
use Rattle.term_words.specs.Object.{IsRecord}
use Rattle.term_words.specs.Counted.{In}
use Rattle.shared_rec.specs.Record.{owner_in, count_in}
use Rattle.off_heap_list.specs.Links.{named}
use Rattle.record_move.specs.declared.moves.TheConstants.{MOVED}

-- The new places of a table's records, in order: each is shown by the old record's count word, and a record without one leaves.
abbrev pub renewed : List ℕ → List ℕ → List ℕ
renewed mem [] = []
renewed mem (v ∷ vs) = if nat_le MOVED (count_in mem v) then (count_in mem v - MOVED) ∷ renewed mem vs else renewed mem vs

-- The first four words of each record of the table lie in the memory.
abbrev pub AllLieWithin : List ℕ → List ℕ → Type 0
AllLieWithin mem vs = (v : ℕ) → In v vs → v + 4 ≤ length mem

-- A record stands at each place of the table.
abbrev pub AreRecords : (ℕ → ℕ → Bool) → List ℕ → List ℕ → Type 0
AreRecords c mem vs = (v : ℕ) → In v vs → (n : ℕ) × IsRecord c mem v n

-- The records' owner words rise: the serials of binaries, or the names and arities of funs.
abbrev pub OwnersRise : List ℕ → List ℕ → Type 0
OwnersRise mem [] = Unit {0}
OwnersRise mem (v ∷ vs) = ((w : ℕ) → In w vs → owner_in mem v < owner_in mem w) × OwnersRise mem vs

-- The place is that of a copy: an object names it that named a record of the table before.
pub record IsRenewed (start mem os vs : List ℕ) (u : ℕ) : Type 0 where
  pub o : ℕ
  pub inside : In o os
  pub was : In (named start o) vs
  pub is : named mem o ≡ u
