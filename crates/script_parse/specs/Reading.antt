-- Reading from left to right: each function takes the rest of a line, and gives what it read with
-- the rest after it, or nothing.
use Rattle.std.specs.Prelude.{ℕ, zero, suc, ◌+◌, ◌-◌, ◌*◌, ◌%◌, nat_eq, nat_le, Bool, true, false, not, ◌&&◌, ℤ, pos, negsuc, List, [], ◌∷◌, length, take, drop, Option, Some, None, cond, codes, if◌then◌else◌}
use Rattle.script_parse.specs.declared.numbers.TheConstants.{GREATEST, WIDEST, LAST_REGISTER, GREATEST_BYTE}
use Rattle.script_grammar.specs.declared.limits.TheConstants.{LEVELS, MOST_HELD}
use Rattle.atom_names.specs.declared.row.TheConstants.{LONGEST_NAME}
use Rattle.std.specs.Borrow.{Bor}
use Rattle.std.specs.List.{prefix_len, find}
use Rattle.std.specs.Str.{bytes_eq}
use Rattle.script_grammar.specs.Grammar.{is_blank, is_digit, is_small_letter, is_name_byte, is_built, is_sys_built}
use Rattle.script_grammar.specs.Names.{reg, ArgumentOf, Arguments, verb_with, sys_verb_with}
use Rattle.script_grammar.specs.Written.{Kind, all_words, text_of, kinds_of, all_sys_words, sys_text_of, sys_kinds_of}
use Rattle.script_grammar.specs.declared.word.Word.{Word}
use Rattle.script_grammar.specs.declared.word.Word.TheVariants as word
use Rattle.script_grammar.specs.declared.word.SysWord.TheVariants as sys
use Rattle.script_grammar.specs.declared.word.SysWord.{SysWord}
use Rattle.script_grammar.specs.Written.Kind.{Slot, Count, Receiver, Title, Environment, Extent, Body, Bodies}
use Rattle.script_grammar.specs.declared.command.To.{To}
use Rattle.script_grammar.specs.declared.command.To.TheVariants as to
use Rattle.script_grammar.specs.declared.command.Depth.{Depth}
use Rattle.script_grammar.specs.declared.command.Depth.TheVariants.{Minor, Major}
use Rattle.script_grammar.specs.declared.command.Command.{Command}
use Rattle.script_grammar.specs.declared.command.Command.TheVariants as command
use Rattle.script_grammar.specs.declared.command.Verb.{Verb}
use Rattle.script_grammar.specs.declared.command.SysVerb.{SysVerb}
use Rattle.plain_term.specs.declared.item.Item.{Item}
use Rattle.plain_term.specs.declared.item.Item.TheVariants as item
use Rattle.script_grammar.specs.Written.{Term}
use Rattle.script_grammar.specs.Written.Term.{Int, Atom, Pid, Held}
use Rattle.script_parse.specs.declared.forms.Form.{Form}
use Rattle.script_parse.specs.declared.forms.Form.TheVariants as form
use Rattle.script_parse.specs.declared.verbs.Numeric.{Numeric}
use Rattle.script_parse.specs.declared.verbs.Numeric.TheVariants as numeric
use Rattle.script_parse.specs.Forms.{all_forms, opening, closing, has_tail}
use Rattle.script_parse.specs.Output.{Out, push, begun, led, ended, put, put_name, entered_number}

-- What was found, and the rest after it, go on.
abbrev pub then_read : {A B : Type 0} → Option A → (A → Option B) → Option B
then_read None f = None
then_read (Some x) f = f x

-- What was found goes on one way, nothing found another.
abbrev pub found_or : {A B : Type 0} → Option A → (A → B) → B → B
found_or None f d = d
found_or (Some x) f d = f x

-- The line without the blanks at its front.
abbrev pub after_blanks : List ℕ → List ℕ
after_blanks [] = []
after_blanks (b ∷ bytes) = if is_blank b then after_blanks bytes else (b ∷ bytes)

-- The line after one blank at its front.
abbrev pub gap_at : List ℕ → Option (List ℕ)
gap_at [] = None
gap_at (b ∷ bytes) = if is_blank b then Some bytes else None

-- The line after this byte at its front.
abbrev pub byte_at : ℕ → List ℕ → Option (List ℕ)
byte_at c [] = None
byte_at c (b ∷ bytes) = if nat_eq b c then Some bytes else None

-- The line after this text at its front.
abbrev pub text_at : (text line : List ℕ) → Option (List ℕ)
text_at [] line = Some line
text_at (c ∷ text) line = then_read (byte_at c line) (text_at text)

-- A number goes on by the digits at the front, up to a limit.
abbrev pub digits_at : (limit n : ℕ) → List ℕ → Option (ℕ × List ℕ)
digits_at limit n [] = Some (n, [])
digits_at limit n (b ∷ bytes) = if is_digit b
    then (if nat_le (n * 10 + (b - 48)) limit then digits_at limit (n * 10 + (b - 48)) bytes else None)
    else Some (n, b ∷ bytes)

-- A number at the front: 0 alone, or digits of which the first is not 0.
abbrev pub number_at : (limit : ℕ) → List ℕ → Option (ℕ × List ℕ)
number_at limit [] = None
number_at limit (b ∷ bytes) = if nat_eq b 48 then Some (0, bytes) else
    (if is_digit b then digits_at limit (b - 48) bytes else None)

-- A number taken with its sign.
abbrev pub with_sign : Bool → ℕ × List ℕ → Option (ℤ × List ℕ)
with_sign false r = Some (pos (r.0), r.1)
with_sign true r = cond (nat_eq (r.0) 0) None (Some (negsuc (r.0 - 1), r.1))

-- An integer at the front.
abbrev pub integer_at : List ℕ → Option (ℤ × List ℕ)
integer_at [] = None
integer_at (b ∷ bytes) = if nat_eq b 45
    then then_read (number_at WIDEST bytes) (with_sign true)
    else then_read (number_at WIDEST (b ∷ bytes)) (with_sign false)

-- The end of a pid, whose number is not 0.
abbrev pub pid_end : ℕ × List ℕ → Option (ℕ × List ℕ)
pid_end r = cond (nat_eq (r.0) 0) None (then_read (text_at (codes ".0>") (r.1)) (λ rest. Some (r.0, rest)))

-- A pid after its first byte.
abbrev pub pid_at : List ℕ → Option (ℕ × List ℕ)
pid_at line = then_read (text_at (codes "0.") line) (λ rest. then_read (number_at GREATEST rest) pid_end)

-- An atom at the front, whose first byte is known to be a small letter: all bytes of names.
abbrev pub atom_at : List ℕ → Option (List ℕ × List ℕ)
atom_at line = cond (nat_eq (prefix_len is_name_byte line) 0) None (cond (nat_le (prefix_len is_name_byte line) LONGEST_NAME)
    (Some (take (prefix_len is_name_byte line) line, drop (prefix_len is_name_byte line) line)) None)

-- A term without parts at the front.
abbrev pub leaf_at : List ℕ → Option (Term × List ℕ)
leaf_at [] = None
leaf_at (b ∷ bytes) = if nat_eq b 60 then then_read (pid_at bytes) (λ r. Some (Pid (r.0), r.1)) else
    (if nat_eq b 36 then then_read (number_at LAST_REGISTER bytes) (λ r. Some (Held (r.0), r.1)) else
    (if is_small_letter b then then_read (atom_at (b ∷ bytes)) (λ r. Some (Atom (r.0), r.1)) else
    then_read (integer_at (b ∷ bytes)) (λ r. Some (Int (r.0), r.1))))

-- One that is no atom, as its item.
abbrev pub item_at : List ℕ → Option (Item × List ℕ)
item_at [] = None
item_at (b ∷ bytes) = if nat_eq b 60 then then_read (pid_at bytes) (λ r. Some (item.Pid (r.0), r.1)) else
    (if nat_eq b 36 then then_read (number_at LAST_REGISTER bytes) (λ r. Some (item.Held (r.0), r.1)) else
    then_read (integer_at (b ∷ bytes)) (λ r. Some (item.Int (r.0), r.1)))

-- It goes last.
abbrev pub leaf_run : List ℕ → Out → Option (List ℕ × Out)
leaf_run line o = then_read (leaf_at line) (λ r. Some (r.1, put (r.0) o))

-- Parts divided by commas, at most `left` of them, `n` having been read.
abbrev pub parts_run : (part : List ℕ → Out → Option (List ℕ × Out)) (left : ℕ) → List ℕ → ℕ → Out → Option (List ℕ × (ℕ × Out))
parts_run part zero line n o = None
parts_run part (suc left) line n o = then_read (part line o)
    (λ r. found_or (byte_at 44 (after_blanks (r.0))) (λ bytes. parts_run part left bytes (n + 1) (r.1)) (Some (r.0, (n + 1, r.1))))

-- A key, `=>` and its value.
abbrev pub pair_run : (inner : List ℕ → Out → Option (List ℕ × Out)) → List ℕ → Out → Option (List ℕ × Out)
pair_run inner line o = then_read (inner line o) (λ r. then_read (text_at (codes "=>") (after_blanks (r.0))) (λ rest. inner rest (r.1)))

-- A byte of a binary.
abbrev pub byte_run : List ℕ → Out → Option (List ℕ × Out)
byte_run line o = then_read (number_at GREATEST_BYTE (after_blanks line)) (λ r. Some (r.1, push o (item.Byte (r.0))))

-- A part of a form: a term, but in a map a pair and in a binary a byte.
abbrev pub part_run : (inner : List ℕ → Out → Option (List ℕ × Out)) → Form → List ℕ → Out → Option (List ℕ × Out)
part_run inner form.List line o = inner line (led form.List o)
part_run inner form.Tuple line o = inner line (led form.Tuple o)
part_run inner form.Map line o = pair_run inner line o
part_run inner form.Binary line o = byte_run line o

-- A bar, a last tail and what closes the form, where it may have a last tail.
abbrev pub tail_run : (inner : List ℕ → Out → Option (List ℕ × Out)) → Form → List ℕ → Out → Option (List ℕ × Out)
tail_run inner f line o = cond (has_tail f) (then_read (byte_at 124 line) (λ bytes. then_read (inner bytes o)
    (λ r. then_read (text_at (closing f) (after_blanks (r.0))) (λ rest. Some (rest, r.1))))) None

-- The end of a form that began at this place, after so many parts.
abbrev pub end_run : (inner : List ℕ → Out → Option (List ℕ × Out)) → Form → (at n : ℕ) → List ℕ → Out → Option (List ℕ × Out)
end_run inner f at n line o = found_or (text_at (closing f) (after_blanks line)) (λ rest. Some (rest, ended f at n o)) (tail_run inner f (after_blanks line) o)

-- A form after its opening: no parts, or parts divided by commas.
abbrev pub form_run : (inner : List ℕ → Out → Option (List ℕ × Out)) → Form → List ℕ → Out → Option (List ℕ × Out)
form_run inner f line o = found_or (text_at (closing f) (after_blanks line)) (λ rest. Some (rest, ended f (length o.items) 0 (begun f o)))
    (then_read (parts_run (part_run inner f) (length line + 1) line 0 (begun f o)) (λ r. end_run inner f (length o.items) (r.1.0) (r.0) (r.1.1)))

-- The first of these forms that is opened at the front, and the line after its opening.
abbrev pub form_in : List Form → List ℕ → Option (Form × List ℕ)
form_in [] line = None
form_in (f ∷ forms) line = found_or (text_at (opening f) line) (λ rest. Some (f, rest)) (form_in forms line)

-- A term that may have parts.
abbrev pub any_run : (inner : List ℕ → Out → Option (List ℕ × Out)) → List ℕ → Out → Option (List ℕ × Out)
any_run inner line o = found_or (form_in all_forms line) (λ r. form_run inner (r.0) (r.1) o) (leaf_run line o)

-- A term with at most so many levels of brackets.
abbrev pub term_run : (levels : ℕ) → List ℕ → Out → Option (List ℕ × Out)
term_run zero line o = leaf_run (after_blanks line) o
term_run (suc levels) line o = any_run (term_run levels) (after_blanks line) o

-- A byte that is no blank.
abbrev pub is_solid : ℕ → Bool
is_solid b = not (is_blank b)

-- The word at the front, up to a blank or the end.
abbrev pub word_at : List ℕ → List ℕ
word_at line = take (prefix_len is_solid line) line

-- The line after the word at its front.
abbrev pub after_word : List ℕ → List ℕ
after_word line = drop (prefix_len is_solid line) line

-- Nothing but blanks is left.
abbrev pub are_blanks : List ℕ → Bool
are_blanks [] = true
are_blanks (b ∷ bytes) = is_blank b && are_blanks bytes

-- A blank, and then this.
abbrev pub spaced_at : {A : Type 0} → (List ℕ → Option (A × List ℕ)) → List ℕ → Option (A × List ℕ)
spaced_at front line = then_read (gap_at line) (λ rest. front (after_blanks rest))

-- A process by its number, or by `$` and a register.
abbrev pub receiver_at : List ℕ → Option (To × List ℕ)
receiver_at [] = None
receiver_at (b ∷ bytes) = if nat_eq b 36 then then_read (number_at LAST_REGISTER bytes) (λ r. Some (to.Held (reg (r.0)), r.1)) else
    then_read (number_at GREATEST (b ∷ bytes)) (λ r. Some (to.Number (r.0), r.1))

-- An atom, which begins with a small letter.
abbrev pub title_at : List ℕ → Option (List ℕ × List ℕ)
title_at [] = None
title_at (b ∷ bytes) = if is_small_letter b then atom_at (b ∷ bytes) else None

-- A depth of collection.
abbrev pub extent_at : List ℕ → Option (Depth × List ℕ)
extent_at line = found_or (text_at (codes "minor") line) (λ rest. Some (Minor, rest))
    (then_read (text_at (codes "major") line) (λ rest. Some (Major, rest)))

-- An operand that leaves the output.
abbrev pub plain_run : {A : Type 0} → (List ℕ → Option (A × List ℕ)) → List ℕ → Out → Option (A × (List ℕ × Out))
plain_run front line o = then_read (spaced_at front line) (λ r. Some (r.0, (r.1, o)))

-- A name, by its number.
abbrev pub title_run : List ℕ → Out → Option (ℕ × (List ℕ × Out))
title_run line o = then_read (spaced_at title_at line) (λ r. Some (entered_number o (r.0), (r.1, put_name o (r.0))))

-- A register after `$`.
abbrev pub held_at : List ℕ → Option (ℕ × List ℕ)
held_at line = then_read (byte_at 36 line) (number_at LAST_REGISTER)

-- Registers, each after a blank, as long as one comes, but at most so many. They go last.
abbrev pub held_run : (left : ℕ) → List ℕ → Out → List ℕ × Out
held_run zero line o = (line, o)
held_run (suc left) line o = found_or (spaced_at held_at line) (λ r. held_run left (r.1) (push o (item.Held (r.0)))) (line, o)

-- A blank and a term.
abbrev pub body_run : List ℕ → Out → Option (List ℕ × Out)
body_run line o = then_read (gap_at line) (λ rest. term_run LEVELS rest o)

-- An operand of a kind: its argument, and the rest after it. Kinds that are not built have no reader.
abbrev pub operand_at : (k : Kind) → List ℕ → Out → Option (ArgumentOf k × (List ℕ × Out))
operand_at Slot line o = plain_run (number_at LAST_REGISTER) line o
operand_at Count line o = plain_run (number_at GREATEST) line o
operand_at Receiver line o = plain_run receiver_at line o
operand_at Title line o = title_run line o
operand_at Environment line o = Some (tt, held_run MOST_HELD line o)
operand_at Extent line o = plain_run extent_at line o
operand_at Body line o = then_read (body_run line o) (λ r. Some (tt, r))
operand_at _ line o = None

-- The operands of a row, and nothing after them.
abbrev pub operands_at : (ks : List Kind) → List ℕ → Out → Option (Arguments ks × Out)
operands_at [] line o = cond (are_blanks line) (Some (tt, o)) None
operands_at (k ∷ ks) line o = then_read (operand_at k line o)
    (λ r. then_read (operands_at ks (r.1.0) (r.1.1)) (λ s. Some ((r.0, s.0), s.1)))

-- A row of a table of verbs: the kinds of its operands, and what comes of their arguments.
pub record VerbRow (V : Type 0) : Type 0 where
  pub kinds : List Kind
  pub made : Arguments kinds → V

-- The two as one.
abbrev pub row : {V : Type 0} (kinds : List Kind) → (Arguments kinds → V) → VerbRow V
row kinds made = record { kinds = kinds; made = made }

-- What comes of the operands of a row, with nothing after them.
unfoldable pub row_run : {V : Type 0} → VerbRow V → List ℕ → Out → Option (V × Out)
row_run r line o = then_read (operands_at (r.kinds) line o) (λ x. Some (r.made (x.0), x.1))

-- The row of a verb of a process. All clauses say the same; the first keeps a row folded while its verb is not known.
abbrev pub row_of : Word → VerbRow Verb
row_of word.Set = row (kinds_of word.Set) (verb_with word.Set)
row_of w = row (kinds_of w) (verb_with w)

-- The row of a verb of the system, in the same way.
abbrev pub sys_row_of : SysWord → VerbRow SysVerb
sys_row_of sys.Spawn = row (sys_kinds_of sys.Spawn) (sys_verb_with sys.Spawn)
sys_row_of w = row (sys_kinds_of w) (sys_verb_with w)

-- A verb of a process with the operands after it, where it is built.
abbrev pub verb_run : Word → List ℕ → Out → Option (Verb × Out)
verb_run w line o = cond (is_built w) (row_run (row_of w) line o) None

-- The greatest number of an operand that is one.
abbrev pub most_of : Numeric → ℕ
most_of numeric.Slot = LAST_REGISTER
most_of numeric.Count = GREATEST

-- Its kind.
abbrev pub kind_of : Numeric → Kind
kind_of numeric.Slot = Slot
kind_of numeric.Count = Count

-- The numbers of a row of up to four of these, and nothing after them. Those past its end are 0.
abbrev pub numbers_at : List Numeric → List ℕ → Option (ℕ × (ℕ × (ℕ × ℕ)))
numbers_at [] line = cond (are_blanks line) (Some (0, (0, (0, 0)))) None
numbers_at (k ∷ ks) line = then_read (spaced_at (number_at (most_of k)) line)
    (λ r. then_read (numbers_at ks (r.1)) (λ n. Some (r.0, (n.0, (n.1.0, n.1.1.0)))))

-- What such a number is in a command. Registers are below 256.
abbrev pub argument_from : (k : Kind) → ℕ → ArgumentOf k
argument_from Slot n = n % 256
argument_from Count n = n
argument_from Receiver n = to.Number n
argument_from Title n = n
argument_from Environment n = tt
argument_from Extent n = Minor
argument_from Body n = tt
argument_from Bodies n = n

-- The arguments of a row of up to four.
abbrev pub arguments_from : (ks : List Kind) → ℕ × (ℕ × (ℕ × ℕ)) → Arguments ks
arguments_from [] n = tt
arguments_from (k ∷ ks) n = (argument_from k (n.0), arguments_from ks (n.1.0, (n.1.1.0, (n.1.1.1, 0))))

-- The verb of a process that they make. The first clause stands for itself, as at `row_of`.
abbrev pub verb_from : Word → ℕ × (ℕ × (ℕ × ℕ)) → Verb
verb_from word.Set n = verb_with word.Set (arguments_from (kinds_of word.Set) n)
verb_from w n = verb_with w (arguments_from (kinds_of w) n)

-- The built verbs of a process whose operands, if any, are registers and numbers alone.
abbrev pub takes_numbers : Word → Bool
takes_numbers word.Hd = true
takes_numbers word.Tl = true
takes_numbers word.Elem = true
takes_numbers word.MapGet = true
takes_numbers word.MapPut = true
takes_numbers word.Part = true
takes_numbers word.Fill = true
takes_numbers word.Env = true
takes_numbers word.Ref = true
takes_numbers word.Own = true
takes_numbers word.MkTuple = true
takes_numbers word.MkList = true
takes_numbers word.Push = true
takes_numbers word.Pop = true
takes_numbers word.Recv = true
takes_numbers word.Print = true
takes_numbers word.Eq = true
takes_numbers word.Cmp = true
takes_numbers word.Flat = true
takes_numbers word.Queue = true
takes_numbers word.Exit = true
takes_numbers _ = false

-- One of these with the operands after it.
abbrev pub numbers_run : Word → List ℕ → Out → Option (Verb × Out)
numbers_run w line o = cond (takes_numbers w) (row_run (row_of w) line o) None

-- A verb of the system with the operands after it, where it is built.
abbrev pub sys_verb_run : SysWord → List ℕ → Out → Option (SysVerb × Out)
sys_verb_run w line o = cond (is_sys_built w) (row_run (sys_row_of w) line o) None

-- The word of a table of words and texts that is written so.
abbrev pub named_in : {W : Type 0} → List (W × Bor (List ℕ)) → List ℕ → Option W
named_in [] bytes = None
named_in (row ∷ table) bytes = if bytes_eq bytes (row.1.now) then Some (row.0) else named_in table bytes

-- The verb of a process that is written so.
abbrev pub word_named : List ℕ → Option Word
word_named bytes = find (λ w. bytes_eq bytes (text_of w)) all_words

-- The verb of the system that is written so.
abbrev pub sys_word_named : List ℕ → Option SysWord
sys_word_named bytes = find (λ w. bytes_eq bytes (sys_text_of w)) all_sys_words

-- A verb of a process, which begins with its word.
abbrev pub named_run : List ℕ → Out → Option (Verb × Out)
named_run line o = then_read (word_named (word_at line)) (λ w. verb_run w (after_word line) o)

-- A verb of the system, which begins with its word.
abbrev pub sys_named_run : List ℕ → Out → Option (SysVerb × Out)
sys_named_run line o = then_read (sys_word_named (word_at line)) (λ w. sys_verb_run w (after_word line) o)

-- A process line after its number.
abbrev pub process_run : List ℕ → Out → Option (Verb × Out)
process_run line o = then_read (gap_at line) (λ rest. named_run (after_blanks rest) o)

-- A system line after its first word.
abbrev pub system_run : List ℕ → Out → Option (SysVerb × Out)
system_run line o = then_read (gap_at line) (λ rest. sys_named_run (after_blanks rest) o)

-- A line that has a command, from its first byte that is no blank.
abbrev pub command_run : List ℕ → Out → Option (Command × Out)
command_run line o = found_or (number_at GREATEST line)
    (λ r. then_read (process_run (r.1) o) (λ v. Some (command.Process (r.0) (v.0), v.1)))
    (then_read (text_at (codes "sys") line) (λ rest. then_read (system_run rest o) (λ v. Some (command.System (v.0), v.1))))

-- A line is silent where it has no byte but blanks, or `%` is the first.
abbrev pub is_silent : List ℕ → Bool
is_silent [] = true
is_silent (b ∷ bytes) = nat_eq b 37

-- A whole line.
abbrev pub line_run : List ℕ → Out → Option (Command × Out)
line_run line o = cond (is_silent (after_blanks line)) (Some (command.Nothing, o)) (command_run (after_blanks line) o)
