-- The records that reached objects name, and what occurs in the roots' trees.
use Rattle.std.specs.Prelude.{◌≡◌, ℕ, ◌+◌, ◌*◌, Bool, List, length, sum_by}
use Rattle.plain_term.specs.Bytes.{shared_bytes}
use Rattle.plain_term.specs.Measures.{bin_words}
use Rattle.plain_machine.specs.Tightness.{each_once}
use Rattle.plain_machine.specs.declared.costs.TheConstants.{RECORD_COST}
use Rattle.term_words.specs.Object.{IsBinRecord, IsFunRecord}
use Rattle.term_words.specs.Reach.{Reach}
use Rattle.term_words.specs.Counted.{In, Distinct}
use Rattle.off_heap_list.specs.Links.{named, IsLink}

-- The roots reach each of the objects, and each can be chained.
pub record AreHeld (c : ℕ → ℕ → Bool) (mem roots os : List ℕ) : Type 0 where
  pub reached : (p : ℕ) → In p os → Reach mem roots (p * 4 + 2)
  pub links : (p : ℕ) → In p os → IsLink c mem p

-- The list has the records that the objects name, each once.
pub record NamedOnce (mem os each : List ℕ) : Type 0 where
  pub once : Distinct each
  pub all : (o : ℕ) → In o os → In (named mem o) each
  pub only : (v : ℕ) → In v each → (o : ℕ) × (In o os × (named mem o ≡ v))

-- No two records are of one serial, and no two of one name and arity.
pub record OwnersDiffer (c : ℕ → ℕ → Bool) (mem : List ℕ) : Type 0 where
  pub bins : (v w serial : ℕ) (bytes more : List ℕ) → IsBinRecord c mem v serial bytes → IsBinRecord c mem w serial more → v ≡ w
  pub funs : (v w name arity : ℕ) → IsFunRecord c mem v name arity → IsFunRecord c mem w name arity → v ≡ w

-- The words of a record for each of these ids and for each of these funs, of which some may come more than once.
abbrev pub records_for : List (List ℕ) → (ids funs : List ℕ) → ℕ
records_for shared ids funs = sum_by (λ id. RECORD_COST + bin_words (length (shared_bytes shared id))) (each_once ids)
    + RECORD_COST * length (each_once funs)

-- The record of a shared binary stands, with its bytes.
pub record BinOccurs (c : ℕ → ℕ → Bool) (shared : List (List ℕ)) (mem : List ℕ) (id : ℕ) : Type 0 where
  pub v : ℕ
  pub is : IsBinRecord c mem v id (shared_bytes shared id)

-- The record of a fun stands.
pub record FunOccurs (c : ℕ → ℕ → Bool) (mem : List ℕ) (code : ℕ) : Type 0 where
  pub v : ℕ
  pub name : ℕ
  pub arity : ℕ
  pub is : IsFunRecord c mem v name arity
  pub code_is : code ≡ 256 * name + arity
