-- Items that stand alone, and the states that registers of them stand for.
use Rattle.std.specs.Prelude.{ℕ, ◌≡◌, ◌+◌, ◌<◌, nat_le, if◌then◌else◌, Bool, true, false, ℤ, pos, List, [], ◌∷◌, map, get_or}
use Rattle.line_io.specs.declared.reader.TheConstants.{LONGEST_LINE}
use Rattle.plain_term.specs.declared.item.Item.{Item}
use Rattle.plain_term.specs.declared.item.Item.TheVariants as item
use Rattle.plain_term.specs.Tree.{Tree}
use Rattle.plain_term.specs.Tree.Tree.{Int, Atom, Pid, Nil}
use Rattle.plain_term.specs.Measures.{int_flat}
use Rattle.plain_term.specs.Order.{name_of}
use Rattle.script_grammar.specs.declared.limits.TheConstants.{REGISTERS}
use Rattle.plain_machine.specs.State.{Process, State}
use Rattle.plain_machine.specs.Tightness.{fill_words}
use Rattle.space_api.specs.declared.space.Seat.{Seat}

-- The tree of an item that stands alone; an item that needs parts has none and is taken for nil.
abbrev pub alone : Item → Tree
alone (item.Int i) = Int i
alone (item.Atom k) = Atom k
alone (item.Pid n) = Pid n
alone _ = Nil

-- A number of bytes, no more than a line has.
abbrev pub written_bytes : ℕ → ℕ
written_bytes n = if nat_le n LONGEST_LINE then n else LONGEST_LINE

-- One for an item that is no byte, and the words that it asks for beside its parts: two are counted for each part of a map.
abbrev pub item_weight : Item → ℕ
item_weight (item.Int i) = 1 + int_flat i
item_weight (item.Tuple n) = 2
item_weight (item.Map n) = 5
item_weight (item.Bin n) = 1 + fill_words (written_bytes n)
item_weight (item.Byte b) = 0
item_weight _ = 1

-- The weight of all items: for a written term one more than the words that it asks for.
abbrev pub weight : List Item → ℕ
weight [] = 0
weight (x ∷ xs) = item_weight x + weight xs

-- The place of an item's kind among the kinds.
abbrev pub item_rank : Item → ℕ
item_rank (item.Int i) = 0
item_rank (item.Atom k) = 1
item_rank (item.Pid n) = 4
item_rank _ = 7

-- The value of an integer.
abbrev pub item_value : Item → ℤ
item_value (item.Int i) = i
item_value _ = pos 0

-- The number of a pid.
abbrev pub item_number : Item → ℕ
item_number (item.Pid n) = n
item_number _ = 0

-- The name of an atom.
abbrev pub item_name : (names : List (List ℕ)) → Item → List ℕ
item_name names (item.Atom k) = name_of names k
item_name names _ = []

-- The item that a register holds where this one is written, which may name another register.
abbrev pub put_item : List Item → Item → Item
put_item items (item.Held r) = get_or items r item.Nil
put_item items x = x

-- A register that the item names is one that a process has.
abbrev pub NamesRegister : Item → Type 0
NamesRegister (item.Held r) = r < REGISTERS
NamesRegister _ = Unit {0}

-- Process 1 with these items in its registers.
abbrev pub one_process : List Item → Process
one_process items = record { number = 1; registers = map alone items; stack = []; queue = []; refs = 0 }

-- Process 1, where it is alive.
abbrev pub processes_of : Bool → List Item → List Process
processes_of false items = []
processes_of true items = one_process items ∷ []

-- The seat is that of process 1, which is alive.
pub record TrialSits (alive : Bool) (seat : Seat) : Type 0 where
  pub lives : alive ≡ true
  pub first : seat.pid ≡ 1
  pub row : seat.row ≡ 0

-- The state has process 1 alone, where it is alive, and none was made beside it.
pub record TrialStands (alive : Bool) (items : List Item) (s : State) : Type 0 where
  pub processes : s.processes ≡ processes_of alive items
  pub next : s.next ≡ 2
  pub shared : s.shared ≡ []
  pub areas : s.areas ≡ []
