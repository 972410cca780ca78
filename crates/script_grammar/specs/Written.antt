-- What a line of a script says, before the names of its atoms have numbers.
use Rattle.std.specs.Prelude.{ℕ, ◌+◌, ℤ, List, [], ◌∷◌, codes}
use Rattle.script_grammar.specs.declared.command.To.{To}
use Rattle.script_grammar.specs.declared.command.Depth.{Depth}
use Rattle.script_grammar.specs.declared.word.Word.{Word}
use Rattle.script_grammar.specs.declared.word.Word.TheVariants.{Set, Hd, Tl, Elem, MapGet, MapPut, Part, Fill, Fun, Env, Ref, Own, MkTuple, MkList, Push, Pop, Send, Recv, Queue, Print, Eq, Cmp, Flat, Lit, Gc, Hibernate, Info, Heap, Exit}
use Rattle.script_grammar.specs.declared.word.SysWord.{SysWord}
use Rattle.script_grammar.specs.declared.word.SysWord.TheVariants.{Spawn, Load, Purge, Sweep, Counts, Dump, Procs, Quit}

infixr 60 ◌▹◌
mutual
  -- A term as it is written: an atom by its bytes, a register by its number.
  pub data Term : Type 0 where
    Int : ℤ → Term
    Atom : List ℕ → Term
    Pid : ℕ → Term
    Held : ℕ → Term
    Listed : Terms → Term
    Barred : (parts : Terms) (tail : Term) → Term
    Tuple : Terms → Term
    Map : TermPairs → Term
    Bin : List ℕ → Term

  -- A list of written terms.
  pub data Terms : Type 0 where
    end : Terms
    ◌▹◌ : Term → Terms → Terms

  -- A list of written pairs of key and value.
  pub data TermPairs : Type 0 where
    stop : TermPairs
    pair : (key value : Term) → TermPairs → TermPairs

-- How many terms a list has.
abbrev pub terms_len : Terms → ℕ
terms_len end = 0
terms_len (t ▹ ts) = terms_len ts + 1

-- How many pairs a list has.
abbrev pub term_pairs_len : TermPairs → ℕ
term_pairs_len stop = 0
term_pairs_len (pair k v ps) = term_pairs_len ps + 1

-- One list of terms after the other.
abbrev pub joined : Terms → Terms → Terms
joined end us = us
joined (t ▹ ts) us = t ▹ joined ts us

-- The kinds of operands: a register, a number, a process by number or by register, an atom, any
-- number of held registers, a depth of collection, a term, terms divided by semicolons.
pub data Kind : Type 0 where
  Slot : Kind
  Count : Kind
  Receiver : Kind
  Title : Kind
  Environment : Kind
  Extent : Kind
  Body : Kind
  Bodies : Kind

-- What stands for an operand of a kind.
abbrev pub OperandOf : Kind → Type 0
OperandOf Slot = ℕ
OperandOf Count = ℕ
OperandOf Receiver = To
OperandOf Title = List ℕ
OperandOf Environment = List ℕ
OperandOf Extent = Depth
OperandOf Body = Term
OperandOf Bodies = Terms

-- Operands of the kinds of a row, in order.
abbrev pub Operands : List Kind → Type 0
Operands [] = Unit {0}
Operands (k ∷ ks) = OperandOf k × Operands ks

-- The verbs of a process.
abbrev pub all_words : List Word
all_words = Set ∷ Hd ∷ Tl ∷ Elem ∷ MapGet ∷ MapPut ∷ Part ∷ Fill ∷ Fun ∷ Env ∷ Ref ∷ Own ∷ MkTuple ∷ MkList ∷ Push ∷ Pop ∷ Send ∷ Recv ∷ Queue
    ∷ Print ∷ Eq ∷ Cmp ∷ Flat ∷ Lit ∷ Gc ∷ Hibernate ∷ Info ∷ Heap ∷ Exit ∷ []

-- The verbs of the system.
abbrev pub all_sys_words : List SysWord
all_sys_words = Spawn ∷ Load ∷ Purge ∷ Sweep ∷ Counts ∷ Dump ∷ Procs ∷ Quit ∷ []

-- The table of the verbs of a process: how each is written.
abbrev pub text_of : Word → List ℕ
text_of Set = codes "set"
text_of Hd = codes "hd"
text_of Tl = codes "tl"
text_of Elem = codes "elem"
text_of MapGet = codes "mapget"
text_of MapPut = codes "mapput"
text_of Part = codes "part"
text_of Fill = codes "fill"
text_of Fun = codes "fun"
text_of Env = codes "env"
text_of Ref = codes "ref"
text_of Own = codes "self"
text_of MkTuple = codes "mktuple"
text_of MkList = codes "mklist"
text_of Push = codes "push"
text_of Pop = codes "pop"
text_of Send = codes "send"
text_of Recv = codes "recv"
text_of Queue = codes "queue"
text_of Print = codes "print"
text_of Eq = codes "eq"
text_of Cmp = codes "cmp"
text_of Flat = codes "flat"
text_of Lit = codes "lit"
text_of Gc = codes "gc"
text_of Hibernate = codes "hibernate"
text_of Info = codes "info"
text_of Heap = codes "heap"
text_of Exit = codes "exit"

-- The same table: which operands each has.
abbrev pub kinds_of : Word → List Kind
kinds_of Set = Slot ∷ Body ∷ []
kinds_of Hd = Slot ∷ Slot ∷ []
kinds_of Tl = Slot ∷ Slot ∷ []
kinds_of Elem = Slot ∷ Count ∷ Slot ∷ []
kinds_of MapGet = Slot ∷ Slot ∷ Slot ∷ []
kinds_of MapPut = Slot ∷ Slot ∷ Slot ∷ Slot ∷ []
kinds_of Part = Slot ∷ Slot ∷ Count ∷ Count ∷ []
kinds_of Fill = Slot ∷ Count ∷ Count ∷ []
kinds_of Fun = Slot ∷ Title ∷ Count ∷ Environment ∷ []
kinds_of Env = Slot ∷ Count ∷ Slot ∷ []
kinds_of Ref = Slot ∷ []
kinds_of Own = Slot ∷ []
kinds_of MkTuple = Slot ∷ Count ∷ Slot ∷ []
kinds_of MkList = Slot ∷ Count ∷ Slot ∷ []
kinds_of Push = Slot ∷ []
kinds_of Pop = Slot ∷ []
kinds_of Send = Slot ∷ Receiver ∷ []
kinds_of Recv = Slot ∷ []
kinds_of Queue = []
kinds_of Print = Slot ∷ []
kinds_of Eq = Slot ∷ Slot ∷ []
kinds_of Cmp = Slot ∷ Slot ∷ []
kinds_of Flat = Slot ∷ []
kinds_of Lit = Slot ∷ Title ∷ Count ∷ []
kinds_of Gc = Extent ∷ []
kinds_of Hibernate = []
kinds_of Info = []
kinds_of Heap = []
kinds_of Exit = []

-- The table of the verbs of the system: how each is written.
abbrev pub sys_text_of : SysWord → List ℕ
sys_text_of Spawn = codes "spawn"
sys_text_of Load = codes "load"
sys_text_of Purge = codes "purge"
sys_text_of Sweep = codes "sweep"
sys_text_of Counts = codes "counts"
sys_text_of Dump = codes "dump"
sys_text_of Procs = codes "procs"
sys_text_of Quit = codes "quit"

-- The same table: which operands each has.
abbrev pub sys_kinds_of : SysWord → List Kind
sys_kinds_of Spawn = []
sys_kinds_of Load = Title ∷ Bodies ∷ []
sys_kinds_of Purge = Title ∷ []
sys_kinds_of Sweep = []
sys_kinds_of Counts = []
sys_kinds_of Dump = []
sys_kinds_of Procs = []
sys_kinds_of Quit = []

-- What a line says: nothing, a verb of a process with its operands, or a verb of the system with its
-- operands.
pub data Written : Type 0 where
  Nothing : Written
  OfProcess : (number : ℕ) (word : Word) → Operands (kinds_of word) → Written
  OfSystem : (word : SysWord) → Operands (sys_kinds_of word) → Written
