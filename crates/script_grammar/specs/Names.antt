-- A written command with the names of its atoms in numbers: its items, the command.
use Rattle.std.specs.Prelude.{ℕ, ◌<◌, List, [], ◌∷◌, ◌++◌, length, map, unwrap_or}
use Rattle.atom_names.specs.Names.{most_names, index_of, with_name}
use Rattle.plain_term.specs.declared.item.Item.{Item}
use Rattle.plain_term.specs.declared.item.Item.TheVariants as item
use Rattle.script_grammar.specs.Written.{Term, Terms, TermPairs, terms_len, term_pairs_len, joined, Kind, OperandOf, Operands, kinds_of, sys_kinds_of, Written}
use Rattle.script_grammar.specs.declared.limits.TheConstants.{REGISTERS, NUMBERS}
use Rattle.script_grammar.specs.declared.word.Word.{Word}
use Rattle.script_grammar.specs.declared.word.SysWord.{SysWord}
use Rattle.script_grammar.specs.Written.Term.{Int, Atom, Pid, Held, Listed, Barred, Tuple, Map, Bin}
use Rattle.script_grammar.specs.Written.Terms.{end, ◌▹◌}
use Rattle.script_grammar.specs.Written.TermPairs.{stop, pair}
use Rattle.script_grammar.specs.Written.Kind.{Slot, Count, Receiver, Title, Environment, Extent, Body, Bodies}
use Rattle.script_grammar.specs.Written.Written.{Nothing, OfProcess, OfSystem}
use Rattle.script_grammar.specs.Grammar.{MayReceive}
use Rattle.script_grammar.specs.declared.word.Word.TheVariants as word
use Rattle.script_grammar.specs.declared.word.SysWord.TheVariants as sys
use Rattle.script_grammar.specs.declared.command.Reg.{Reg}
use Rattle.script_grammar.specs.declared.command.Pick.{Pick}
use Rattle.script_grammar.specs.declared.command.Pick.TheVariants as pick
use Rattle.script_grammar.specs.declared.command.To.{To}
use Rattle.script_grammar.specs.declared.command.Depth.{Depth}
use Rattle.script_grammar.specs.declared.command.Shape.TheVariants as shape
use Rattle.script_grammar.specs.declared.command.Command.{Command}
use Rattle.script_grammar.specs.declared.command.Command.TheVariants as command
use Rattle.script_grammar.specs.declared.command.Verb.{Verb}
use Rattle.script_grammar.specs.declared.command.Verb.TheVariants as verb
use Rattle.script_grammar.specs.declared.command.SysVerb.{SysVerb}
use Rattle.script_grammar.specs.declared.command.SysVerb.TheVariants as sysverb

-- The number of a name is its first place.
abbrev pub number_of : List (List ℕ) → List ℕ → ℕ
number_of names name = unwrap_or (index_of names name) 0

-- The names with each of these that is new at their end, in order of first place.
abbrev pub with_names : List (List ℕ) → List (List ℕ) → List (List ℕ)
with_names names [] = names
with_names names (a ∷ atoms) = with_names (with_name names a) atoms

abbrev mutual
  -- The atoms of a term, from left to right.
  pub atoms_of : Term → List (List ℕ)
  atoms_of (Int i) = []
  atoms_of (Atom a) = a ∷ []
  atoms_of (Pid n) = []
  atoms_of (Held r) = []
  atoms_of (Listed ts) = atoms_of_all ts
  atoms_of (Barred ts t) = atoms_of_all ts ++ atoms_of t
  atoms_of (Tuple ts) = atoms_of_all ts
  atoms_of (Map ps) = atoms_of_pairs ps
  atoms_of (Bin bytes) = []

  -- The atoms of terms.
  pub atoms_of_all : Terms → List (List ℕ)
  atoms_of_all end = []
  atoms_of_all (t ▹ ts) = atoms_of t ++ atoms_of_all ts

  -- The atoms of pairs.
  pub atoms_of_pairs : TermPairs → List (List ℕ)
  atoms_of_pairs stop = []
  atoms_of_pairs (pair k v ps) = atoms_of k ++ (atoms_of v ++ atoms_of_pairs ps)

-- The atoms of an operand: those of its terms, and an area's or a fun's name.
abbrev pub operand_atoms : (k : Kind) → OperandOf k → List (List ℕ)
operand_atoms Title a = a ∷ []
operand_atoms Body t = atoms_of t
operand_atoms Bodies ts = atoms_of_all ts
operand_atoms _ _ = []

-- The atoms of the operands of a row.
abbrev pub operands_atoms : (ks : List Kind) → Operands ks → List (List ℕ)
operands_atoms [] ops = []
operands_atoms (k ∷ ks) ops = operand_atoms k (ops.0) ++ operands_atoms ks (ops.1)

-- All atoms of a command.
abbrev pub all_atoms : Written → List (List ℕ)
all_atoms Nothing = []
all_atoms (OfProcess n w ops) = operands_atoms (kinds_of w) ops
all_atoms (OfSystem w ops) = operands_atoms (sys_kinds_of w) ops

-- The names with the new ones of a command at their end, in order of first place.
abbrev pub names_after : List (List ℕ) → Written → List (List ℕ)
names_after names w = with_names names (all_atoms w)

abbrev mutual
  -- The prefix form of a term: a list is Cons, head, tail, and so on to Nil or the last tail.
  pub items_of : (names : List (List ℕ)) → Term → List Item
  items_of names (Int i) = item.Int i ∷ []
  items_of names (Atom a) = item.Atom (number_of names a) ∷ []
  items_of names (Pid n) = item.Pid n ∷ []
  items_of names (Held r) = item.Held r ∷ []
  items_of names (Listed ts) = listed_items names ts (item.Nil ∷ [])
  items_of names (Barred ts t) = listed_items names ts (items_of names t)
  items_of names (Tuple ts) = item.Tuple (terms_len ts) ∷ all_items names ts
  items_of names (Map ps) = item.Map (term_pairs_len ps) ∷ pairs_items names ps
  items_of names (Bin bytes) = item.Bin (length bytes) ∷ map item.Byte bytes

  -- The prefix form of a list with these heads, before that of its tail.
  pub listed_items : (names : List (List ℕ)) → Terms → List Item → List Item
  listed_items names end tail = tail
  listed_items names (t ▹ ts) tail = item.Cons ∷ (items_of names t ++ listed_items names ts tail)

  -- The prefix forms of terms, one after the other.
  pub all_items : (names : List (List ℕ)) → Terms → List Item
  all_items names end = []
  all_items names (t ▹ ts) = items_of names t ++ all_items names ts

  -- The prefix forms of pairs, each key before its value.
  pub pairs_items : (names : List (List ℕ)) → TermPairs → List Item
  pairs_items names stop = []
  pairs_items names (pair k v ps) = items_of names k ++ (items_of names v ++ pairs_items names ps)

-- A register by its number.
abbrev pub reg : ℕ → Reg
reg r = record { 0 = r }

-- What an operand of a kind is in a command: a name by its number, terms that are divided by their
-- count; a term and an environment stand among the written terms alone.
abbrev pub ArgumentOf : Kind → Type 0
ArgumentOf Slot = ℕ
ArgumentOf Count = ℕ
ArgumentOf Receiver = To
ArgumentOf Title = ℕ
ArgumentOf Environment = Unit {0}
ArgumentOf Extent = Depth
ArgumentOf Body = Unit {0}
ArgumentOf Bodies = ℕ

-- Arguments of the kinds of a row, in order.
abbrev pub Arguments : List Kind → Type 0
Arguments [] = Unit {0}
Arguments (k ∷ ks) = ArgumentOf k × Arguments ks

-- The argument of an operand.
abbrev pub argument : (names : List (List ℕ)) (k : Kind) → OperandOf k → ArgumentOf k
argument names Slot r = r
argument names Count n = n
argument names Receiver to = to
argument names Title a = number_of names a
argument names Environment rs = tt
argument names Extent d = d
argument names Body t = tt
argument names Bodies ts = terms_len ts

-- The arguments of the operands of a row.
abbrev pub arguments : (names : List (List ℕ)) (ks : List Kind) → Operands ks → Arguments ks
arguments names [] ops = tt
arguments names (k ∷ ks) ops = (argument names k (ops.0), arguments names ks (ops.1))

-- The table of the verbs of a process: the command of each.
abbrev pub verb_with : (w : Word) → Arguments (kinds_of w) → Verb
verb_with word.Set args = verb.Set (reg (args.0))
verb_with word.Hd args = verb.Choose (reg (args.0)) (reg (args.1.0)) pick.Hd
verb_with word.Tl args = verb.Choose (reg (args.0)) (reg (args.1.0)) pick.Tl
verb_with word.Elem args = verb.Choose (reg (args.0)) (reg (args.1.1.0)) (pick.Elem (args.1.0))
verb_with word.MapGet args = verb.Choose (reg (args.0)) (reg (args.1.0)) (pick.MapGet (reg (args.1.1.0)))
verb_with word.MapPut args = verb.MapPut (reg (args.0)) (reg (args.1.0)) (reg (args.1.1.0)) (reg (args.1.1.1.0))
verb_with word.Part args = verb.Choose (reg (args.0)) (reg (args.1.0)) (pick.Part (args.1.1.0) (args.1.1.1.0))
verb_with word.Fill args = verb.Fill (reg (args.0)) (args.1.0) (args.1.1.0)
verb_with word.Fun args = verb.Fun (reg (args.0)) (args.1.0) (args.1.1.0)
verb_with word.Env args = verb.Choose (reg (args.0)) (reg (args.1.1.0)) (pick.Env (args.1.0))
verb_with word.Ref args = verb.Ref (reg (args.0))
verb_with word.Own args = verb.Own (reg (args.0))
verb_with word.MkTuple args = verb.Repeat (reg (args.0)) shape.Tuple (args.1.0) (reg (args.1.1.0))
verb_with word.MkList args = verb.Repeat (reg (args.0)) shape.List (args.1.0) (reg (args.1.1.0))
verb_with word.Push args = verb.Push (reg (args.0))
verb_with word.Pop args = verb.Pop (reg (args.0))
verb_with word.Send args = verb.Send (reg (args.0)) (args.1.0)
verb_with word.Recv args = verb.Recv (reg (args.0))
verb_with word.Queue args = verb.Queue
verb_with word.Print args = verb.Print (reg (args.0))
verb_with word.Eq args = verb.Eq (reg (args.0)) (reg (args.1.0))
verb_with word.Cmp args = verb.Cmp (reg (args.0)) (reg (args.1.0))
verb_with word.Flat args = verb.Flat (reg (args.0))
verb_with word.Lit args = verb.Lit (reg (args.0)) (args.1.0) (args.1.1.0)
verb_with word.Gc args = verb.Gc (args.0)
verb_with word.Hibernate args = verb.Hibernate
verb_with word.Info args = verb.Info
verb_with word.Heap args = verb.Heap
verb_with word.Exit args = verb.Exit

-- The table of the verbs of the system: the command of each.
abbrev pub sys_verb_with : (w : SysWord) → Arguments (sys_kinds_of w) → SysVerb
sys_verb_with sys.Spawn args = sysverb.Spawn
sys_verb_with sys.Load args = sysverb.Load (args.0) (args.1.0)
sys_verb_with sys.Purge args = sysverb.Purge (args.0)
sys_verb_with sys.Sweep args = sysverb.Sweep
sys_verb_with sys.Counts args = sysverb.Counts
sys_verb_with sys.Dump args = sysverb.Dump
sys_verb_with sys.Procs args = sysverb.Procs
sys_verb_with sys.Quit args = sysverb.Quit

-- The verb of a process line, with names by number.
abbrev pub verb_of : (names : List (List ℕ)) (w : Word) → Operands (kinds_of w) → Verb
verb_of names w ops = verb_with w (arguments names (kinds_of w) ops)

-- The verb of a system line, with names by number.
abbrev pub sys_verb_of : (names : List (List ℕ)) (w : SysWord) → Operands (sys_kinds_of w) → SysVerb
sys_verb_of names w ops = sys_verb_with w (arguments names (sys_kinds_of w) ops)

-- The command with names by number.
abbrev pub command_of : (names : List (List ℕ)) → Written → Command
command_of names Nothing = command.Nothing
command_of names (OfProcess n w ops) = command.Process n (verb_of names w ops)
command_of names (OfSystem w ops) = command.System (sys_verb_of names w ops)

-- A process has the register.
abbrev pub IsRegister : Reg → Type 0
IsRegister r = (r.0) < REGISTERS

-- A process has the register that the pick names.
abbrev pub PicksRegister : Pick → Type 0
PicksRegister (pick.MapGet r) = IsRegister r
PicksRegister _ = Unit {0}

-- A process has each register that the verb names, and a receiver is in its bounds.
abbrev pub HasRegisters : Verb → Type 0
HasRegisters (verb.Set r) = IsRegister r
HasRegisters (verb.Choose r s p) = IsRegister r × IsRegister s × PicksRegister p
HasRegisters (verb.MapPut r s k v) = IsRegister r × IsRegister s × IsRegister k × IsRegister v
HasRegisters (verb.Fill r len byte) = IsRegister r
HasRegisters (verb.Fun r name arity) = IsRegister r
HasRegisters (verb.Ref r) = IsRegister r
HasRegisters (verb.Own r) = IsRegister r
HasRegisters (verb.Repeat r s n t) = IsRegister r × IsRegister t
HasRegisters (verb.Push r) = IsRegister r
HasRegisters (verb.Pop r) = IsRegister r
HasRegisters (verb.Send r t) = IsRegister r × MayReceive t
HasRegisters (verb.Recv r) = IsRegister r
HasRegisters (verb.Print r) = IsRegister r
HasRegisters (verb.Eq r s) = IsRegister r × IsRegister s
HasRegisters (verb.Cmp r s) = IsRegister r × IsRegister s
HasRegisters (verb.Flat r) = IsRegister r
HasRegisters (verb.Lit r name i) = IsRegister r
HasRegisters _ = Unit {0}

-- The number of a name that the verb gives is one that a name can have.
abbrev pub HasName : Verb → Type 0
HasName (verb.Fun r name arity) = name < most_names
HasName (verb.Lit r name i) = name < most_names
HasName _ = Unit {0}

-- The same for an area's name.
abbrev pub HasArea : SysVerb → Type 0
HasArea (sysverb.Load name count) = name < most_names
HasArea (sysverb.Purge name) = name < most_names
HasArea _ = Unit {0}

-- The number of a process is one of a line, a process has each register, and each number of a name or an area is below
-- the bound of names.
abbrev pub IsInBounds : Command → Type 0
IsInBounds command.Nothing = Unit {0}
IsInBounds (command.Process n v) = (n < NUMBERS) × HasRegisters v × HasName v
IsInBounds (command.System v) = HasArea v

-- Registers as terms.
abbrev pub held_terms : List ℕ → Terms
held_terms [] = end
held_terms (r ∷ rs) = Held r ▹ held_terms rs

-- The terms of an operand: an environment has one for each register.
abbrev pub operand_terms : (k : Kind) → OperandOf k → Terms
operand_terms Environment rs = held_terms rs
operand_terms Body t = t ▹ end
operand_terms Bodies ts = ts
operand_terms _ _ = end

-- The terms of the operands of a row.
abbrev pub operands_terms : (ks : List Kind) → Operands ks → Terms
operands_terms [] ops = end
operands_terms (k ∷ ks) ops = joined (operand_terms k (ops.0)) (operands_terms ks (ops.1))

-- The written terms of a command, from left to right.
abbrev pub terms_of : Written → Terms
terms_of Nothing = end
terms_of (OfProcess n w ops) = operands_terms (kinds_of w) ops
terms_of (OfSystem w ops) = operands_terms (sys_kinds_of w) ops

-- A command with its written terms and all names that there are after it.
pub record Parsed : Type 0 where
  pub command : Command
  pub terms : Terms
  pub names : List (List ℕ)

-- What a written command comes to where these names are known before it.
abbrev pub parsed_of : List (List ℕ) → Written → Parsed
parsed_of names w = record { command = command_of (names_after names w) w; terms = terms_of w; names = names_after names w }
