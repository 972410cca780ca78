-- The text of `counts`, from the tables of records. A record is given by its place.
use Rattle.std.specs.Prelude.{◌≡◌, ℕ, ◌+◌, ◌/◌, ◌%◌, ◌<◌, ◌≤◌, if◌then◌else◌, Bool, true, false, List, [], ◌∷◌, length, map, Option, Some, None}
use Rattle.std.specs.Ordering.{is_lt}
use Rattle.std.specs.declared.cmp.Ordering.{Ordering}
use Rattle.plain_machine.specs.Maps.{CountedBin, CountedFun, fun_order, counts_text}
use Rattle.term_words.specs.Counted.{In, Distinct}
use Rattle.shared_rec.specs.Record.{owner_in, count_in}
use Rattle.record_move.specs.Tables.{AllLieWithin}

-- The entry of a shared binary's record.
abbrev pub bin_of : List ℕ → ℕ → CountedBin
bin_of mem v = record { id = owner_in mem v; count = count_in mem v }

-- The entry of a fun's record.
abbrev pub fun_of : List ℕ → ℕ → CountedFun
fun_of mem v = record { name = owner_in mem v / 256; arity = owner_in mem v % 256; count = count_in mem v }

-- Records of funs by the bytes of their names, and then by arity.
abbrev pub record_order : (mem : List ℕ) → (names : List (List ℕ)) → ℕ → ℕ → Ordering
record_order mem names v w = fun_order names (fun_of mem v) (fun_of mem w)

-- The first record is less than the second.
abbrev pub is_before : (mem : List ℕ) → (names : List (List ℕ)) → ℕ → ℕ → Bool
is_before mem names v w = is_lt (record_order mem names v w)

-- The record before the first that is not less.
abbrev pub inserted : (mem : List ℕ) → (names : List (List ℕ)) → ℕ → List ℕ → List ℕ
inserted mem names v [] = v ∷ []
inserted mem names v (w ∷ ws) = if is_before mem names w v then w ∷ inserted mem names v ws else (v ∷ w ∷ ws)

-- The records in order.
abbrev pub by_name : (mem : List ℕ) → (names : List (List ℕ)) → List ℕ → List ℕ
by_name mem names [] = []
by_name mem names (v ∷ vs) = inserted mem names v (by_name mem names vs)

-- The text of the tables: binaries in the order of their table, funs by their names.
abbrev pub counts_told : (mem : List ℕ) → (names : List (List ℕ)) → (bins funs : List ℕ) → List ℕ
counts_told mem names bins funs = counts_text names (map (bin_of mem) bins) (map (fun_of mem) (by_name mem names funs))

-- The record's first words lie in the memory, and the name is known of the fun that it is of.
pub record CanReadTables (mem : List ℕ) (names : List (List ℕ)) (v : ℕ) : Type 0 where
  pub within : v + 4 ≤ length mem
  pub known : owner_in mem v / 256 < length names

-- Each record of a fun is listed once, and no two are of one name and arity.
pub record FunsDiffer (mem : List ℕ) (funs : List ℕ) : Type 0 where
  pub once : Distinct funs
  pub differ : (v w : ℕ) → In v funs → In w funs → owner_in mem v ≡ owner_in mem w → v ≡ w

-- The records of the tables can be read, and those of funs are apart.
pub record CanTellCounts (mem : List ℕ) (names : List (List ℕ)) (bins funs : List ℕ) : Type 0 where
  pub each_bin : AllLieWithin mem bins
  pub each_fun : (v : ℕ) → In v funs → CanReadTables mem names v
  pub apart : FunsDiffer mem funs

-- So is it of a record, if there is one.
abbrev pub CanReadSome : List ℕ → List (List ℕ) → Option ℕ → Type 0
CanReadSome mem names None = Unit {0}
CanReadSome mem names (Some v) = CanReadTables mem names v

-- The record comes after the last one, if there is one.
abbrev pub is_after : (mem : List ℕ) → (names : List (List ℕ)) → (last : Option ℕ) → ℕ → Bool
is_after mem names None w = true
is_after mem names (Some v) w = is_before mem names v w

-- The record is less than the best so far, if there is one.
abbrev pub is_better : (mem : List ℕ) → (names : List (List ℕ)) → ℕ → (best : Option ℕ) → Bool
is_better mem names v None = true
is_better mem names v (Some w) = is_before mem names v w

-- Of the records that come after the last one, this is the least.
pub record IsLeast (mem : List ℕ) (names : List (List ℕ)) (last : Option ℕ) (funs : List ℕ) (v : ℕ) : Type 0 where
  pub inside : In v funs
  pub after : is_after mem names last v ≡ true
  pub least : (w : ℕ) → In w funs → is_after mem names last w ≡ true → is_before mem names w v ≡ false

-- It is the next one; where there is none, none comes after the last one.
abbrev pub IsBest : (mem : List ℕ) → (names : List (List ℕ)) → (last : Option ℕ) → List ℕ → Option ℕ → Type 0
IsBest mem names last funs None = (w : ℕ) → In w funs → is_after mem names last w ≡ false
IsBest mem names last funs (Some v) = IsLeast mem names last funs v
