-- What holds of the command of what a line says: its verb is built, and its numbers are in their bounds.
use Rattle.std.proofs.Common.{◌≡◌, ℕ, ◌<◌, ◌≤◌, List, [], ◌∷◌, length, refl, arith}
use Rattle.atom_names.specs.Names.{most_names}
use Rattle.script_grammar.specs.declared.limits.TheConstants.{REGISTERS}
use Rattle.script_grammar.specs.declared.word.Word.{Word}
use Rattle.script_grammar.specs.declared.word.Word.TheVariants as word
use Rattle.script_grammar.specs.declared.word.SysWord.{SysWord}
use Rattle.script_grammar.specs.declared.word.SysWord.TheVariants as sys
use Rattle.script_grammar.specs.Written.{Kind, OperandOf, Operands, kinds_of, sys_kinds_of, Written}
use Rattle.script_grammar.specs.Written.Kind.{Slot, Receiver, Title}
use Rattle.script_grammar.specs.Written.Written.{Nothing, OfProcess, OfSystem}
use Rattle.script_grammar.specs.Grammar.{word_of, sys_word_of, IsBuilt, IsBuiltCommand, MayReceive, IsOperand, AreOperands, IsAllowed}
use Rattle.script_grammar.specs.Names.{ArgumentOf, Arguments, argument, arguments, operand_atoms, operands_atoms, all_atoms, names_after, verb_with, sys_verb_with, command_of, HasRegisters, HasName, HasArea, IsInBounds}
use Rattle.script_grammar.proofs.Naming.{ArePlaced, placed-front, placed-back, with-names-placed, number-below}

-- a verb is written with the word that it was made of
pub word-of-with : (w : Word) (args : Arguments (kinds_of w)) → word_of (verb_with w args) ≡ w
word-of-with word.Set args = refl
word-of-with _ args = refl

pub sys-word-of-with : (w : SysWord) (args : Arguments (sys_kinds_of w)) → sys_word_of (sys_verb_with w args) ≡ w
sys-word-of-with sys.Spawn args = refl
sys-word-of-with _ args = refl

-- what says a built command comes to one
pub command-built : (names : List (List ℕ)) (w : Written) → IsBuilt w → IsBuiltCommand (command_of names w)
command-built names Nothing b = tt
command-built names (OfProcess n w ops) b = rw (word-of-with w (arguments names (kinds_of w) ops)) b.0
command-built names (OfSystem w ops) b = rw (sys-word-of-with w (arguments names (sys_kinds_of w) ops)) b.0

-- the bounds of an argument, and of those of a row
abbrev pub IsBounded : (k : Kind) → ArgumentOf k → Type 0
IsBounded Slot r = r < REGISTERS
IsBounded Receiver to = MayReceive to
IsBounded Title n = n < most_names
IsBounded _ _ = Unit {0}

abbrev pub AreBounded : (ks : List Kind) → Arguments ks → Type 0
AreBounded [] args = Unit {0}
AreBounded (k ∷ ks) args = IsBounded k (args.0) × AreBounded ks (args.1)

-- a number of a name among at most so many
argument-bounded : (names : List (List ℕ)) (k : Kind) (x : OperandOf k) → length names ≤ most_names → ArePlaced names (operand_atoms k x) → IsOperand k x → IsBounded k (argument names k x)
argument-bounded names Slot x f p h = h
argument-bounded names Receiver x f p h = h
argument-bounded names Title x f p h = omega (arith, number-below names x p.0)
argument-bounded names _ x f p h = tt

arguments-bounded : (names : List (List ℕ)) (ks : List Kind) (ops : Operands ks) → length names ≤ most_names → ArePlaced names (operands_atoms ks ops) → AreOperands ks ops
    → AreBounded ks (arguments names ks ops)
arguments-bounded names [] ops f p h = tt
arguments-bounded names (k ∷ ks) ops f p h = (
  argument-bounded names k (ops.0) f (placed-front names (operand_atoms k (ops.0)) (operands_atoms ks (ops.1)) p) (h.0),
  arguments-bounded names ks (ops.1) f (placed-back names (operand_atoms k (ops.0)) (operands_atoms ks (ops.1)) p) (h.1),
)

-- a verb of bounded arguments
registers-bounded : (w : Word) (args : Arguments (kinds_of w)) → AreBounded (kinds_of w) args → HasRegisters (verb_with w args)
registers-bounded word.Set args b = b.0
registers-bounded word.Hd args b = (b.0, b.1.0, tt)
registers-bounded word.Tl args b = (b.0, b.1.0, tt)
registers-bounded word.Elem args b = (b.0, b.1.1.0, tt)
registers-bounded word.MapGet args b = (b.0, b.1.0, b.1.1.0)
registers-bounded word.MapPut args b = (b.0, b.1.0, b.1.1.0, b.1.1.1.0)
registers-bounded word.Part args b = (b.0, b.1.0, tt)
registers-bounded word.Env args b = (b.0, b.1.1.0, tt)
registers-bounded word.MkTuple args b = (b.0, b.1.1.0)
registers-bounded word.MkList args b = (b.0, b.1.1.0)
registers-bounded word.Send args b = (b.0, b.1.0)
registers-bounded word.Eq args b = (b.0, b.1.0)
registers-bounded word.Cmp args b = (b.0, b.1.0)
registers-bounded word.Queue args b = tt
registers-bounded word.Gc args b = tt
registers-bounded word.Hibernate args b = tt
registers-bounded word.Info args b = tt
registers-bounded word.Heap args b = tt
registers-bounded word.Exit args b = tt
registers-bounded _ args b = b.0

name-bounded : (w : Word) (args : Arguments (kinds_of w)) → AreBounded (kinds_of w) args → HasName (verb_with w args)
name-bounded word.Fun args b = b.1.0
name-bounded word.Lit args b = b.1.0
name-bounded _ args b = tt

area-bounded : (w : SysWord) (args : Arguments (sys_kinds_of w)) → AreBounded (sys_kinds_of w) args → HasArea (sys_verb_with w args)
area-bounded sys.Load args b = b.0
area-bounded sys.Purge args b = b.0
area-bounded _ args b = tt

-- the command of what a line may say, where the names after it are not too many
pub command-bounded : (names : List (List ℕ)) (w : Written) → IsAllowed w → length (names_after names w) ≤ most_names → IsInBounds (command_of (names_after names w) w)
command-bounded names Nothing a f = tt
command-bounded names (OfProcess n w ops) a f =
    let b : AreBounded (kinds_of w) (arguments (names_after names (OfProcess n w ops)) (kinds_of w) ops)
    = arguments-bounded (names_after names (OfProcess n w ops)) (kinds_of w) ops f (with-names-placed names (all_atoms (OfProcess n w ops))) (a.1) in
    (a.0, registers-bounded w (arguments (names_after names (OfProcess n w ops)) (kinds_of w) ops) b, name-bounded w (arguments (names_after names (OfProcess n w ops)) (kinds_of w) ops) b)
command-bounded names (OfSystem w ops) a f =
    area-bounded w (arguments (names_after names (OfSystem w ops)) (sys_kinds_of w) ops)
    (arguments-bounded (names_after names (OfSystem w ops)) (sys_kinds_of w) ops f (with-names-placed names (all_atoms (OfSystem w ops))) a)
