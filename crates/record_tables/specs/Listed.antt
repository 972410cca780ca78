-- Records that stand, and the tables that list them.
use Rattle.std.specs.Prelude.{◌≡◌, ℕ, ◌≤◌, Bool, List, ◌++◌, length}
use Rattle.plain_term.specs.Bytes.{shared_bytes}
use Rattle.term_words.specs.Object.{IsBinRecord, IsFunRecord, IsRecord}
use Rattle.term_words.specs.Counted.{In, Distinct}
use Rattle.shared_rec.specs.Record.{count_in, owner_in}
use Rattle.off_heap_list.specs.Exact.{AllCounted}
use Rattle.record_move.specs.Tables.{OwnersRise}

-- A record of the binary with the serial that it says, and of its bytes.
pub record IsBinOf (c : ℕ → ℕ → Bool) (mem : List ℕ) (shared : List (List ℕ)) (v : ℕ) : Type 0 where
  pub from_one : 1 ≤ owner_in mem v
  pub known : owner_in mem v ≤ length shared
  pub is : IsBinRecord c mem v (owner_in mem v) (shared_bytes shared (owner_in mem v))

-- A fun's record.
pub record IsFunOf (c : ℕ → ℕ → Bool) (mem : List ℕ) (v : ℕ) : Type 0 where
  pub name : ℕ
  pub arity : ℕ
  pub is : IsFunRecord c mem v name arity

-- The tables list all records that stand, each once, the serials of binaries rising, and the names and arities of funs; and
-- each record is named.
pub record RecordsStand (c : ℕ → ℕ → Bool) (mem : List ℕ) (shared : List (List ℕ)) (bins funs : List ℕ) : Type 0 where
  pub all : (v n : ℕ) → IsRecord c mem v n → In v (bins ++ funs)
  pub once : Distinct (bins ++ funs)
  pub each_bin : (v : ℕ) → In v bins → IsBinOf c mem shared v
  pub each_fun : (v : ℕ) → In v funs → IsFunOf c mem v
  pub serials : OwnersRise mem bins
  pub codes : OwnersRise mem funs
  pub counted : AllCounted c mem

-- So they do, but that none may name the record at one place yet.
pub record NearlyStand (c : ℕ → ℕ → Bool) (mem : List ℕ) (shared : List (List ℕ)) (bins funs : List ℕ) (v : ℕ) : Type 0 where
  pub all : (u n : ℕ) → IsRecord c mem u n → In u (bins ++ funs)
  pub once : Distinct (bins ++ funs)
  pub each_bin : (u : ℕ) → In u bins → IsBinOf c mem shared u
  pub each_fun : (u : ℕ) → In u funs → IsFunOf c mem u
  pub serials : OwnersRise mem bins
  pub codes : OwnersRise mem funs
  pub counted : (u n : ℕ) → IsRecord c mem u n → (u ≡ v → ⊥) → 1 ≤ count_in mem u
