-- The grammar of lines, as a relation between a whole line and what it says.
use Rattle.std.specs.Prelude.{ℕ, ◌≡◌, ◌+◌, ◌-◌, ◌*◌, ◌^◌, ◌<◌, ◌≤◌, ◌⊎◌, ◌≢◌, ◌||◌, ◌&&◌, Bool, true, false, nat_eq, nat_le, ℤ, pos, negsuc, List, [], ◌∷◌, ◌++◌, length, All, codes}
use Rattle.plain_term.specs.Measures.{magnitude}
use Rattle.script_grammar.specs.Written.{Term, Terms, TermPairs, terms_len, Kind, OperandOf, Operands, text_of, kinds_of, sys_text_of, sys_kinds_of, Written}
use Rattle.atom_names.specs.declared.row.TheConstants.{LONGEST_NAME}
use Rattle.script_grammar.specs.declared.limits.TheConstants.{REGISTERS, NUMBERS, LEVELS, MOST_HELD}
use Rattle.script_grammar.specs.declared.word.Word.{Word}
use Rattle.script_grammar.specs.declared.word.SysWord.{SysWord}
use Rattle.script_grammar.specs.Written.Term.{Int, Atom, Pid, Held, Listed, Barred, Tuple, Map, Bin}
use Rattle.script_grammar.specs.Written.Terms.{end, ◌▹◌}
use Rattle.script_grammar.specs.Written.TermPairs.{stop, pair}
use Rattle.script_grammar.specs.Written.Kind.{Slot, Count, Receiver, Title, Environment, Extent, Body, Bodies}
use Rattle.script_grammar.specs.Written.Written.{Nothing, OfProcess, OfSystem}
use Rattle.script_grammar.specs.declared.word.Word.TheVariants as word
use Rattle.script_grammar.specs.declared.word.SysWord.TheVariants as sys
use Rattle.script_grammar.specs.declared.command.To.{To}
use Rattle.script_grammar.specs.declared.command.To.TheVariants as to
use Rattle.script_grammar.specs.declared.command.Depth.{Depth}
use Rattle.script_grammar.specs.declared.command.Depth.TheVariants.{Minor, Major}
use Rattle.script_grammar.specs.declared.command.Pick.{Pick}
use Rattle.script_grammar.specs.declared.command.Pick.TheVariants as pick
use Rattle.script_grammar.specs.declared.command.Shape.{Shape}
use Rattle.script_grammar.specs.declared.command.Shape.TheVariants as shape
use Rattle.script_grammar.specs.declared.command.Command.{Command}
use Rattle.script_grammar.specs.declared.command.Command.TheVariants as command
use Rattle.script_grammar.specs.declared.command.Verb.{Verb}
use Rattle.script_grammar.specs.declared.command.Verb.TheVariants as verb
use Rattle.script_grammar.specs.declared.command.SysVerb.{SysVerb}
use Rattle.script_grammar.specs.declared.command.SysVerb.TheVariants as sysverb

-- A space or a tab.
abbrev pub is_blank : ℕ → Bool
is_blank b = nat_eq b 32 || nat_eq b 9

-- A digit.
abbrev pub is_digit : ℕ → Bool
is_digit b = nat_le 48 b && nat_le b 57

-- A letter from a to z.
abbrev pub is_small_letter : ℕ → Bool
is_small_letter b = nat_le 97 b && nat_le b 122

-- A byte of an atom after its first: a letter, a digit, `_` or `@`.
abbrev pub is_name_byte : ℕ → Bool
is_name_byte b = is_small_letter b || ((nat_le 65 b && nat_le b 90) || (is_digit b || (nat_eq b 95 || nat_eq b 64)))

-- Bytes that are all of a kind.
abbrev pub AreAll : (ℕ → Bool) → List ℕ → Type 0
AreAll p [] = Unit {0}
AreAll p (b ∷ bytes) = (p b ≡ true) × AreAll p bytes

-- Digits as a number, after a number that was read before them.
abbrev pub value_after : ℕ → List ℕ → ℕ
value_after n [] = n
value_after n (b ∷ bytes) = value_after (n * 10 + (b - 48)) bytes

-- No zero stands before other digits, and there is a digit.
abbrev pub HasNoLeadingZero : List ℕ → Type 0
HasNoLeadingZero [] = ⊥
HasNoLeadingZero (b ∷ []) = Unit {0}
HasNoLeadingZero (b ∷ c ∷ bytes) = b ≢ 48

-- The text is the number in decimal digits.
pub record IsNumber (n : ℕ) (text : List ℕ) : Type 0 where
  pub digits : AreAll is_digit text
  pub first : HasNoLeadingZero text
  pub value : value_after 0 text ≡ n

-- The text is the integer: a number, or `-` and a number that is not 0.
abbrev pub IsInteger : ℤ → List ℕ → Type 0
IsInteger (pos n) text = IsNumber n text
IsInteger (negsuc n) text = (digits : List ℕ) × IsNumber (n + 1) digits × (text ≡ 45 ∷ digits)

-- The bytes are an atom.
abbrev pub IsName : List ℕ → Type 0
IsName [] = ⊥
IsName (b ∷ bytes) = (is_small_letter b ≡ true) × AreAll is_name_byte bytes × (length bytes < LONGEST_NAME)

-- A piece of a line: at least one blank, or a token, before which blanks may stand.
pub data Piece : Type 0 where
  Space : Piece
  Text : List ℕ → Piece
  Number : ℕ → Piece
  Whole : ℤ → Piece
  Process : ℕ → Piece
  Register : ℕ → Piece

-- The text is the token.
abbrev pub Spells : Piece → List ℕ → Type 0
Spells Space text = (b : ℕ) × (is_blank b ≡ true) × (text ≡ b ∷ [])
Spells (Text t) text = text ≡ t
Spells (Number n) text = IsNumber n text
Spells (Whole i) text = IsInteger i text
Spells (Process n) text = (digits : List ℕ) × IsNumber n digits × (text ≡ codes "<0." ++ (digits ++ codes ".0>"))
Spells (Register r) text = (digits : List ℕ) × IsNumber r digits × (text ≡ 36 ∷ digits)

-- The pieces in order, with blanks before each and at the end.
abbrev pub Lies : List Piece → List ℕ → Type 0
Lies [] bytes = AreAll is_blank bytes
Lies (p ∷ ps) bytes = (gap text rest : List ℕ) × AreAll is_blank gap × Spells p text × (bytes ≡ gap ++ (text ++ rest)) × Lies ps rest

-- The bytes of a binary, divided by commas, each but the first after a comma.
abbrev pub more_byte_pieces : List ℕ → List Piece → List Piece
more_byte_pieces [] ps = ps
more_byte_pieces (b ∷ bytes) ps = Text (codes ",") ∷ Number b ∷ more_byte_pieces bytes ps

-- The bytes of a binary, divided by commas.
abbrev pub byte_pieces : List ℕ → List Piece → List Piece
byte_pieces [] ps = ps
byte_pieces (b ∷ bytes) ps = Number b ∷ more_byte_pieces bytes ps

abbrev mutual
  -- The pieces of a term, before those that follow it.
  pub term_pieces : Term → List Piece → List Piece
  term_pieces (Int i) ps = Whole i ∷ ps
  term_pieces (Atom a) ps = Text a ∷ ps
  term_pieces (Pid n) ps = Process n ∷ ps
  term_pieces (Held r) ps = Register r ∷ ps
  term_pieces (Listed ts) ps = Text (codes "[") ∷ parts_pieces ts (Text (codes "]") ∷ ps)
  term_pieces (Barred ts t) ps = Text (codes "[") ∷ parts_pieces ts (Text (codes "|") ∷ term_pieces t (Text (codes "]") ∷ ps))
  term_pieces (Tuple ts) ps = Text (codes "{") ∷ parts_pieces ts (Text (codes "}") ∷ ps)
  term_pieces (Map qs) ps = Text (codes "#{") ∷ pairs_pieces qs (Text (codes "}") ∷ ps)
  term_pieces (Bin bytes) ps = Text (codes "<<") ∷ byte_pieces bytes (Text (codes ">>") ∷ ps)

  -- Terms divided by commas.
  pub parts_pieces : Terms → List Piece → List Piece
  parts_pieces end ps = ps
  parts_pieces (t ▹ ts) ps = term_pieces t (more_pieces ts ps)

  -- Terms, each after a comma.
  pub more_pieces : Terms → List Piece → List Piece
  more_pieces end ps = ps
  more_pieces (t ▹ ts) ps = Text (codes ",") ∷ term_pieces t (more_pieces ts ps)

  -- Pairs divided by commas.
  pub pairs_pieces : TermPairs → List Piece → List Piece
  pairs_pieces stop ps = ps
  pairs_pieces (pair k v qs) ps = term_pieces k (Text (codes "=>") ∷ term_pieces v (more_pairs_pieces qs ps))

  -- Pairs, each after a comma.
  pub more_pairs_pieces : TermPairs → List Piece → List Piece
  more_pairs_pieces stop ps = ps
  more_pairs_pieces (pair k v qs) ps = Text (codes ",") ∷ term_pieces k (Text (codes "=>") ∷ term_pieces v (more_pairs_pieces qs ps))

-- Terms, each after a semicolon.
abbrev pub more_bodies_pieces : Terms → List Piece → List Piece
more_bodies_pieces end ps = ps
more_bodies_pieces (t ▹ ts) ps = Text (codes ";") ∷ term_pieces t (more_bodies_pieces ts ps)

-- Terms divided by semicolons.
abbrev pub bodies_pieces : Terms → List Piece → List Piece
bodies_pieces end ps = ps
bodies_pieces (t ▹ ts) ps = term_pieces t (more_bodies_pieces ts ps)

-- Registers, each after a blank.
abbrev pub held_pieces : List ℕ → List Piece → List Piece
held_pieces [] ps = ps
held_pieces (r ∷ rs) ps = Space ∷ Register r ∷ held_pieces rs ps

-- A process by its number or by a register.
abbrev pub receiver_pieces : To → List Piece → List Piece
receiver_pieces (to.Number n) ps = Number n ∷ ps
receiver_pieces (to.Held r) ps = Register (r.0) ∷ ps

-- A depth of collection.
abbrev pub extent_pieces : Depth → List Piece → List Piece
extent_pieces Minor ps = Text (codes "minor") ∷ ps
extent_pieces Major ps = Text (codes "major") ∷ ps

-- An operand with the blank before it.
abbrev pub operand_pieces : (k : Kind) → OperandOf k → List Piece → List Piece
operand_pieces Slot r ps = Space ∷ Number r ∷ ps
operand_pieces Count n ps = Space ∷ Number n ∷ ps
operand_pieces Receiver to ps = Space ∷ receiver_pieces to ps
operand_pieces Title a ps = Space ∷ Text a ∷ ps
operand_pieces Environment rs ps = held_pieces rs ps
operand_pieces Extent d ps = Space ∷ extent_pieces d ps
operand_pieces Body t ps = Space ∷ term_pieces t ps
operand_pieces Bodies ts ps = Space ∷ bodies_pieces ts ps

-- The operands of a row.
abbrev pub operands_pieces : (ks : List Kind) → Operands ks → List Piece
operands_pieces [] ops = []
operands_pieces (k ∷ ks) ops = operand_pieces k (ops.0) (operands_pieces ks (ops.1))

-- A line without a command: blanks, and then nothing, or `%` and any bytes.
abbrev pub IsSilent : List ℕ → Type 0
IsSilent [] = Unit {0}
IsSilent (b ∷ bytes) = (b ≡ 37) ⊎ ((is_blank b ≡ true) × IsSilent bytes)

-- How a command is spelled: a process line is a number, a verb and its operands, a system line is
-- `sys`, a verb and its operands.
abbrev pub Spelled : Written → List ℕ → Type 0
Spelled Nothing line = IsSilent line
Spelled (OfProcess n w ops) line = Lies (Number n ∷ Space ∷ Text (text_of w) ∷ operands_pieces (kinds_of w) ops) line
Spelled (OfSystem w ops) line = Lies (Text (codes "sys") ∷ Space ∷ Text (sys_text_of w) ∷ operands_pieces (sys_kinds_of w) ops) line

abbrev mutual
  -- A term may be written where so many levels of brackets are left.
  pub MayStand : (levels : ℕ) → Term → Type 0
  MayStand levels (Int i) = magnitude i < 2 ^ 127
  MayStand levels (Atom a) = IsName a
  MayStand levels (Pid n) = (1 ≤ n) × (n < NUMBERS)
  MayStand levels (Held r) = r < REGISTERS
  MayStand levels (Listed ts) = (0 < levels) × AllMayStand (levels - 1) ts
  MayStand levels (Barred ts t) = (0 < levels) × (0 < terms_len ts) × AllMayStand (levels - 1) ts × MayStand (levels - 1) t
  MayStand levels (Tuple ts) = (0 < levels) × AllMayStand (levels - 1) ts
  MayStand levels (Map qs) = (0 < levels) × PairsMayStand (levels - 1) qs
  MayStand levels (Bin bytes) = (0 < levels) × All (λ b. b < 256) bytes

  -- Each of the terms may.
  pub AllMayStand : (levels : ℕ) → Terms → Type 0
  AllMayStand levels end = Unit {0}
  AllMayStand levels (t ▹ ts) = MayStand levels t × AllMayStand levels ts

  -- Each key and value may.
  pub PairsMayStand : (levels : ℕ) → TermPairs → Type 0
  PairsMayStand levels stop = Unit {0}
  PairsMayStand levels (pair k v qs) = MayStand levels k × MayStand levels v × PairsMayStand levels qs

abbrev mutual
  -- No register stands in a term.
  pub HoldsNone : Term → Type 0
  HoldsNone (Int i) = Unit {0}
  HoldsNone (Atom a) = Unit {0}
  HoldsNone (Pid n) = Unit {0}
  HoldsNone (Held r) = ⊥
  HoldsNone (Listed ts) = AllHoldNone ts
  HoldsNone (Barred ts t) = AllHoldNone ts × HoldsNone t
  HoldsNone (Tuple ts) = AllHoldNone ts
  HoldsNone (Map qs) = PairsHoldNone qs
  HoldsNone (Bin bytes) = Unit {0}

  -- None stands in any of the terms.
  pub AllHoldNone : Terms → Type 0
  AllHoldNone end = Unit {0}
  AllHoldNone (t ▹ ts) = HoldsNone t × AllHoldNone ts

  -- None stands in any key or value.
  pub PairsHoldNone : TermPairs → Type 0
  PairsHoldNone stop = Unit {0}
  PairsHoldNone (pair k v qs) = HoldsNone k × HoldsNone v × PairsHoldNone qs

-- A receiver is in its bounds: a process by a number of a line, a register by one that a process has.
abbrev pub MayReceive : To → Type 0
MayReceive (to.Number n) = n < NUMBERS
MayReceive (to.Held r) = (r.0) < REGISTERS

-- The ranges of an operand: registers that a process has, numbers of a line, brackets in so many levels at most, so many
-- registers at most in an environment, and at least one term where they are divided by semicolons, with no register in it.
abbrev pub IsOperand : (k : Kind) → OperandOf k → Type 0
IsOperand Slot r = r < REGISTERS
IsOperand Count n = n < NUMBERS
IsOperand Receiver to = MayReceive to
IsOperand Title a = IsName a
IsOperand Environment rs = All (λ r. r < REGISTERS) rs × (length rs ≤ MOST_HELD)
IsOperand Extent d = Unit {0}
IsOperand Body t = MayStand LEVELS t
IsOperand Bodies ts = (0 < terms_len ts) × AllMayStand LEVELS ts × AllHoldNone ts

-- The ranges of the operands of a row.
abbrev pub AreOperands : (ks : List Kind) → Operands ks → Type 0
AreOperands [] ops = Unit {0}
AreOperands (k ∷ ks) ops = IsOperand k (ops.0) × AreOperands ks (ops.1)

-- The ranges of a command.
abbrev pub IsAllowed : Written → Type 0
IsAllowed Nothing = Unit {0}
IsAllowed (OfProcess n w ops) = (n < NUMBERS) × AreOperands (kinds_of w) ops
IsAllowed (OfSystem w ops) = AreOperands (sys_kinds_of w) ops

-- The line says the command.
pub record Says (line : List ℕ) (w : Written) : Type 0 where
  pub allowed : IsAllowed w
  pub spelled : Spelled w line

-- The table of the verbs of a process that are built.
abbrev pub is_built : Word → Bool
is_built word.Set = true
is_built word.Hd = true
is_built word.Tl = true
is_built word.Elem = true
is_built word.MapGet = true
is_built word.MapPut = true
is_built word.Part = true
is_built word.Fill = true
is_built word.Fun = true
is_built word.Env = true
is_built word.Ref = true
is_built word.Own = true
is_built word.MkTuple = true
is_built word.MkList = true
is_built word.Push = true
is_built word.Pop = true
is_built word.Send = true
is_built word.Recv = true
is_built word.Queue = true
is_built word.Print = true
is_built word.Eq = true
is_built word.Cmp = true
is_built word.Flat = true
is_built word.Gc = true
is_built word.Exit = true
is_built _ = false

-- The table of the verbs of the system that are built.
abbrev pub is_sys_built : SysWord → Bool
is_sys_built sys.Spawn = true
is_sys_built sys.Sweep = true
is_sys_built sys.Counts = true
is_sys_built sys.Procs = true
is_sys_built sys.Quit = true
is_sys_built _ = false

-- The word that takes such a part.
abbrev pub pick_word : Pick → Word
pick_word pick.Hd = word.Hd
pick_word pick.Tl = word.Tl
pick_word (pick.Elem i) = word.Elem
pick_word (pick.MapGet k) = word.MapGet
pick_word (pick.Env i) = word.Env
pick_word (pick.Part offset len) = word.Part

-- The word that repeats a term in this.
abbrev pub shape_word : Shape → Word
shape_word shape.Tuple = word.MkTuple
shape_word shape.List = word.MkList

-- The word that a verb of a process is written with.
abbrev pub word_of : Verb → Word
word_of (verb.Set r) = word.Set
word_of (verb.Choose r s p) = pick_word p
word_of (verb.MapPut r s k v) = word.MapPut
word_of (verb.Fill r len byte) = word.Fill
word_of (verb.Fun r name arity) = word.Fun
word_of (verb.Ref r) = word.Ref
word_of (verb.Own r) = word.Own
word_of (verb.Repeat r s n t) = shape_word s
word_of (verb.Push r) = word.Push
word_of (verb.Pop r) = word.Pop
word_of (verb.Send r t) = word.Send
word_of (verb.Recv r) = word.Recv
word_of verb.Queue = word.Queue
word_of (verb.Print r) = word.Print
word_of (verb.Eq r s) = word.Eq
word_of (verb.Cmp r s) = word.Cmp
word_of (verb.Flat r) = word.Flat
word_of (verb.Lit r name i) = word.Lit
word_of (verb.Gc d) = word.Gc
word_of verb.Hibernate = word.Hibernate
word_of verb.Info = word.Info
word_of verb.Heap = word.Heap
word_of verb.Exit = word.Exit

-- The word that a verb of the system is written with.
abbrev pub sys_word_of : SysVerb → SysWord
sys_word_of sysverb.Spawn = sys.Spawn
sys_word_of (sysverb.Load name count) = sys.Load
sys_word_of (sysverb.Purge name) = sys.Purge
sys_word_of sysverb.Sweep = sys.Sweep
sys_word_of sysverb.Counts = sys.Counts
sys_word_of sysverb.Dump = sys.Dump
sys_word_of sysverb.Procs = sys.Procs
sys_word_of sysverb.Quit = sys.Quit

-- The verb of the command is built: the table has its word.
abbrev pub IsBuiltCommand : Command → Type 0
IsBuiltCommand command.Nothing = Unit {0}
IsBuiltCommand (command.Process n v) = is_built (word_of v) ≡ true
IsBuiltCommand (command.System v) = is_sys_built (sys_word_of v) ≡ true

abbrev mutual
  -- The table of the forms of terms that are built: all of them.
  pub IsBuiltTerm : Term → Type 0
  IsBuiltTerm (Int i) = Unit {0}
  IsBuiltTerm (Atom a) = Unit {0}
  IsBuiltTerm (Pid n) = Unit {0}
  IsBuiltTerm (Held r) = Unit {0}
  IsBuiltTerm (Listed ts) = AreBuiltTerms ts
  IsBuiltTerm (Barred ts t) = AreBuiltTerms ts × IsBuiltTerm t
  IsBuiltTerm (Tuple ts) = AreBuiltTerms ts
  IsBuiltTerm (Map qs) = AreBuiltPairs qs
  IsBuiltTerm (Bin bytes) = Unit {0}

  -- Each of the terms is of a built form.
  pub AreBuiltTerms : Terms → Type 0
  AreBuiltTerms end = Unit {0}
  AreBuiltTerms (t ▹ ts) = IsBuiltTerm t × AreBuiltTerms ts

  -- Each key and value is of a built form.
  pub AreBuiltPairs : TermPairs → Type 0
  AreBuiltPairs stop = Unit {0}
  AreBuiltPairs (pair k v qs) = IsBuiltTerm k × IsBuiltTerm v × AreBuiltPairs qs

-- The table of the kinds of operands that are built. A term is of a built form.
abbrev pub IsBuiltOperand : (k : Kind) → OperandOf k → Type 0
IsBuiltOperand Slot r = Unit {0}
IsBuiltOperand Count n = Unit {0}
IsBuiltOperand Receiver to = Unit {0}
IsBuiltOperand Title a = Unit {0}
IsBuiltOperand Environment rs = Unit {0}
IsBuiltOperand Extent d = Unit {0}
IsBuiltOperand Body t = IsBuiltTerm t
IsBuiltOperand _ _ = ⊥

-- Each operand of a row is.
abbrev pub AreBuiltOperands : (ks : List Kind) → Operands ks → Type 0
AreBuiltOperands [] ops = Unit {0}
AreBuiltOperands (k ∷ ks) ops = IsBuiltOperand k (ops.0) × AreBuiltOperands ks (ops.1)

-- The command has a built verb and is of built forms.
abbrev pub IsBuilt : Written → Type 0
IsBuilt Nothing = Unit {0}
IsBuilt (OfProcess n w ops) = (is_built w ≡ true) × AreBuiltOperands (kinds_of w) ops
IsBuilt (OfSystem w ops) = (is_sys_built w ≡ true) × AreBuiltOperands (sys_kinds_of w) ops

-- A line says one built command at most.
abbrev pub SaysOne : Type 0
SaysOne = (line : List ℕ) (w x : Written) → Says line w → Says line x → IsBuilt w → IsBuilt x → w ≡ x
