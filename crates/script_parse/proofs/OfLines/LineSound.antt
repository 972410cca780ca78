-- A line that is read says what was read.
use Rattle.std.proofs.Common.{◌≡◌, ℕ, zero, suc, ◌<◌, ◌≤◌, Bool, true, false, nat_eq, nat_le, cond, List, [], ◌∷◌, ◌++◌, length, Option, Some, None, codes, refl, sym, ◌∙◌, ap, subst, inl, inr, arith, eqb-true, append_assoc}
use Rattle.script_parse.specs.declared.numbers.TheConstants.{GREATEST, LAST_REGISTER}
use Rattle.script_grammar.specs.declared.limits.TheConstants.{LEVELS, REGISTERS, MOST_HELD}
use Rattle.std.specs.List.{prefix_len, find}
use Rattle.std.specs.Str.{bytes_eq}
use Rattle.std.proofs.lemmas.List.{take-append-drop, append-nil}
use Rattle.atom_names.specs.Names.{most_names, with_name}
use Rattle.plain_term.specs.declared.item.Item.{Item}
use Rattle.plain_term.specs.declared.item.Item.TheVariants as item
use Rattle.script_grammar.specs.Written.{Terms, joined, Kind, OperandOf, Operands, text_of, kinds_of, all_words, sys_text_of, sys_kinds_of, all_sys_words, Written}
use Rattle.script_grammar.specs.Written.Terms.{end, ◌▹◌}
use Rattle.script_grammar.specs.Written.Kind.{Slot, Count, Receiver, Title, Environment, Extent, Body}
use Rattle.script_grammar.specs.Written.Written.{Nothing, OfProcess, OfSystem}
use Rattle.script_grammar.specs.Grammar.{is_blank, is_small_letter, IsSilent, Says, IsBuilt, is_built, is_sys_built, Piece, Spells, Lies, term_pieces, held_pieces, operand_pieces, operands_pieces, IsOperand, IsBuiltOperand, AreOperands, AreBuiltOperands}
use Rattle.script_grammar.specs.Grammar.Piece.{Space, Text, Number, Register}
use Rattle.script_grammar.specs.Names.{number_of, reg, ArgumentOf, Arguments, argument, arguments, with_names, atoms_of, items_of, all_items, operand_atoms, operands_atoms, held_terms, operand_terms, operands_terms, all_atoms, terms_of, verb_with, sys_verb_with, command_of}
use Rattle.script_grammar.specs.declared.command.To.{To}
use Rattle.script_grammar.specs.declared.command.To.TheVariants as to
use Rattle.script_grammar.specs.declared.command.Depth.{Depth}
use Rattle.script_grammar.specs.declared.command.Depth.TheVariants.{Minor, Major}
use Rattle.script_grammar.specs.declared.command.Command.{Command}
use Rattle.script_grammar.specs.declared.command.Command.TheVariants as command
use Rattle.script_grammar.specs.declared.command.Verb.{Verb}
use Rattle.script_grammar.specs.declared.command.SysVerb.{SysVerb}
use Rattle.script_parse.specs.Output.{Out, push, put, put_name, entered_number}
use Rattle.script_parse.specs.Reading.{then_read, after_blanks, gap_at, byte_at, text_at, number_at, is_solid, word_at, after_word, are_blanks, is_silent, spaced_at, receiver_at, title_at, extent_at, plain_run, title_run, held_at, held_run, body_run, term_run, operand_at, operands_at, VerbRow, row, row_run, row_of, sys_row_of, process_run, system_run, command_run, line_run}
use Rattle.script_parse.proofs.Stepwise.Tools.{chosen, read-some, found-cases, inside, both}
use Rattle.script_parse.proofs.Stepwise.GapSteps.{lies, gap-lies, end-blank}
use Rattle.script_parse.proofs.Stepwise.NumberSteps.{Counted, number-read, byte-read, text-read}
use Rattle.script_parse.proofs.Stepwise.AtomSteps.{Named, atom-read}
use Rattle.script_parse.proofs.OfTerms.Divided.{Each, all-of-each}
use Rattle.script_parse.proofs.OfTerms.Sound.{Found, term-read}
use Rattle.script_parse.proofs.OfTerms.Meaning.{Put, put-item, put-none, put-then, term-put, number-stays, name-put, names-grown, as-items}
use Rattle.script_parse.proofs.Stepwise.Tables.{found-text, row-is, sys-row-is}

-- A token that was read after a blank.
pub record Spaced (p : Piece) (line rest : List ℕ) : Type 0 where
  pub lies : (ps : List Piece) → Lies ps rest → Lies (Space ∷ p ∷ ps) line

-- A token at the front.
pub record Spelled (p : Piece) (line rest : List ℕ) : Type 0 where
  pub text : List ℕ
  pub whole : line ≡ text ++ rest
  pub spells : Spells p text

spaced-read : (p : Piece) (line start rest : List ℕ) → gap_at line ≡ Some start → Spelled p (after_blanks start) rest → Spaced p line rest
spaced-read p line start rest g s = record { lies = λ ps k. gap-lies (p ∷ ps) line start g (lies p ps start s.text rest s.whole s.spells k) }

number-spelled : (limit n : ℕ) (line rest : List ℕ) → Counted limit n line rest → Spelled (Number n) line rest
number-spelled limit n line rest c = record { text = c.text; whole = c.whole; spells = c.number }

-- The way to what a plain operand was read from.
pub record Plain {A : Type 0} (front : List ℕ → Option (A × List ℕ)) (line : List ℕ) (o : Out) (a : A) (rest : List ℕ) (p : Out) : Type 0 where
  pub start : List ℕ
  pub gap : gap_at line ≡ Some start
  pub read : front (after_blanks start) ≡ Some (a, rest)
  pub same : o ≡ p

plain-read : {A : Type 0} (front : List ℕ → Option (A × List ℕ)) (line : List ℕ) (o : Out) (a : A) (rest : List ℕ) (p : Out) → plain_run front line o ≡ Some (a, (rest, p))
    → Plain front line o a rest p
plain-read {A} front line o a rest p h =
    let f : (x : A × List ℕ) × (spaced_at front line ≡ Some x) × (Some (x.0, (x.1, o)) ≡ Some (a, (rest, p))) = read-some (spaced_at front line) (λ r. Some (r.0, (r.1, o))) h in
    let j : (f.0.0 ≡ a) × ((f.0.1, o) ≡ (rest, p)) = both (f.2) in
    let k : f.0.1 ≡ rest = ap (λ (z : List ℕ × Out). z.0) (j.1) in
    let g : (x : List ℕ) × (gap_at line ≡ Some x) × (front (after_blanks x) ≡ Some (f.0)) = read-some (gap_at line) (λ z. front (after_blanks z)) (f.1) in
    let P : A → Type 0 = λ z. front (after_blanks (g.0)) ≡ Some (z, rest) in
    let Q : List ℕ → Type 0 = λ z. front (after_blanks (g.0)) ≡ Some (f.0.0, z) in
    record { start = g.0; gap = g.1; read = subst P (j.0) (subst Q k (g.2)); same = ap (λ (z : List ℕ × Out). z.1) (j.1) }

-- An operand that was read.
pub record Operand (k : Kind) (line : List ℕ) (o : Out) (a : ArgumentOf k) (rest : List ℕ) (p : Out) : Type 0 where
  pub operand : OperandOf k
  pub allowed : IsOperand k operand
  pub built : IsBuiltOperand k operand
  pub is : p.full ≡ false → (more : List (List ℕ)) → a ≡ argument (p.names ++ more) k operand
  pub put : Put o (operand_atoms k operand) (λ names. all_items names (operand_terms k operand)) p
  pub lies : (ps : List Piece) → Lies ps rest → Lies (operand_pieces k operand ps) line

none-put : (o p : Out) → o ≡ p → Put o [] (λ names. []) p
none-put o p e = let P : Out → Type 0 = λ z. Put o [] (λ names. []) z in subst P e (put-none o)

body-read : (line : List ℕ) (o : Out) (rest : List ℕ) (p : Out) → body_run line o ≡ Some (rest, p) → Operand Body line o tt rest p
body-read line o rest p h =
    let f : (x : List ℕ) × (gap_at line ≡ Some x) × (term_run LEVELS x o ≡ Some (rest, p)) = read-some (gap_at line) (λ z. term_run LEVELS z o) h in
    let t : Found LEVELS (f.0) o rest p = term-read LEVELS (f.0) o rest p (f.2) in
    let P : Out → Type 0 = λ z. Put o (atoms_of t.term) (λ names. items_of names t.term ++ []) z in
    record {
      operand = t.term;
      allowed = t.may;
      built = t.built;
      is = λ c more. refl;
      put = subst P (sym t.put) (as-items o (put t.term o) (atoms_of t.term) (λ names. items_of names t.term) (λ names. items_of names t.term ++ [])
          (λ names. sym (append-nil (items_of names t.term))) (term-put t.term o t.built));
      lies = λ ps l. gap-lies (term_pieces t.term ps) line (f.0) (f.1) (t.lies ps l);
    }

receiver-step : (line : List ℕ) (o : Out) (a : To) (start rest : List ℕ) (p : Out) (front : List ℕ) → after_blanks start ≡ front → gap_at line ≡ Some start → o ≡ p
    → receiver_at front ≡ Some (a, rest) → Operand Receiver line o a rest p
receiver-step line o a start rest p [] e g same h = cc
receiver-step line o a start rest p (b ∷ bytes) e g same h = let P : To → Type 0 = λ z. Operand Receiver line o z rest p in elim (chosen (nat_eq b 36) h) [
  | inl f ↦ let r : (x : ℕ × List ℕ) × (number_at LAST_REGISTER bytes ≡ Some x) × (Some (to.Held (reg (x.0)), x.1) ≡ Some (a, rest))
      = read-some (number_at LAST_REGISTER bytes) (λ r. Some (to.Held (reg (r.0)), r.1)) (f.1) in
      let j : (to.Held (reg (r.0.0)) ≡ a) × (r.0.1 ≡ rest) = both (r.2) in
      let c : Counted LAST_REGISTER (r.0.0) bytes (r.0.1) = number-read LAST_REGISTER (r.0.0) bytes (r.0.1) (omega arith) (r.1) in
      let whole : after_blanks start ≡ (36 ∷ c.text) ++ rest = e ∙ (ap (λ (z : ℕ). z ∷ bytes) (eqb-true b 36 (f.0)) ∙ ap (λ (z : List ℕ). 36 ∷ z) (c.whole ∙ ap (λ (z : List ℕ). c.text ++ z) (j.1))) in
      let s : Spaced (Register (r.0.0)) line rest = spaced-read (Register (r.0.0)) line start rest g (record { text = 36 ∷ c.text; whole = whole; spells = (c.text, c.number, refl) }) in
      subst P (j.0) (record { operand = to.Held (reg (r.0.0)); allowed = omega (arith, c.within); built = tt; is = λ c more. refl; put = none-put o p same; lies = s.lies })
  | inr f ↦ let r : (x : ℕ × List ℕ) × (number_at GREATEST (b ∷ bytes) ≡ Some x) × (Some (to.Number (x.0), x.1) ≡ Some (a, rest))
      = read-some (number_at GREATEST (b ∷ bytes)) (λ r. Some (to.Number (r.0), r.1)) (f.1) in
      let j : (to.Number (r.0.0) ≡ a) × (r.0.1 ≡ rest) = both (r.2) in
      let c : Counted GREATEST (r.0.0) (b ∷ bytes) (r.0.1) = number-read GREATEST (r.0.0) (b ∷ bytes) (r.0.1) (omega arith) (r.1) in
      let s : Spaced (Number (r.0.0)) line rest
      = spaced-read (Number (r.0.0)) line start rest g (record { text = c.text; whole = e ∙ (c.whole ∙ ap (λ (z : List ℕ). c.text ++ z) (j.1)); spells = c.number }) in
      subst P (j.0) (record { operand = to.Number (r.0.0); allowed = omega (arith, c.within); built = tt; is = λ c more. refl; put = none-put o p same; lies = s.lies })
]

extent-step : (line : List ℕ) (o : Out) (a : Depth) (start rest : List ℕ) (p : Out) → gap_at line ≡ Some start → o ≡ p → extent_at (after_blanks start) ≡ Some (a, rest)
    → Operand Extent line o a rest p
extent-step line o a start rest p g same h = let P : Depth → Type 0 = λ z. Operand Extent line o z rest p in
    elim (found-cases (text_at (codes "minor") (after_blanks start)) (λ r. Some (Minor, r)) (then_read (text_at (codes "major") (after_blanks start)) (λ r. Some (Major, r))) h) [
      | inl f ↦ let j : (Minor ≡ a) × (f.0 ≡ rest) = both (f.2) in
          let s : Spaced (Text (codes "minor")) line rest = spaced-read (Text (codes "minor")) line start rest g
          (record { text = codes "minor"; whole = text-read (codes "minor") (after_blanks start) (f.0) (f.1) ∙ ap (λ (z : List ℕ). codes "minor" ++ z) (j.1); spells = refl }) in
          subst P (j.0) (record { operand = Minor; allowed = tt; built = tt; is = λ c more. refl; put = none-put o p same; lies = s.lies })
      | inr f ↦ let r : (x : List ℕ) × (text_at (codes "major") (after_blanks start) ≡ Some x) × (Some (Major, x) ≡ Some (a, rest))
          = read-some (text_at (codes "major") (after_blanks start)) (λ r. Some (Major, r)) (f.1) in
          let j : (Major ≡ a) × (r.0 ≡ rest) = both (r.2) in
          let s : Spaced (Text (codes "major")) line rest = spaced-read (Text (codes "major")) line start rest g
          (record { text = codes "major"; whole = text-read (codes "major") (after_blanks start) (r.0) (r.1) ∙ ap (λ (z : List ℕ). codes "major" ++ z) (j.1); spells = refl }) in
          subst P (j.0) (record { operand = Major; allowed = tt; built = tt; is = λ c more. refl; put = none-put o p same; lies = s.lies })
    ]

title-named : (a line rest : List ℕ) → title_at line ≡ Some (a, rest) → Named a line rest
title-named a [] rest h = cc
title-named a (b ∷ bytes) rest h = elim (chosen (is_small_letter b) h) [
  | inl e ↦ atom-read b bytes a rest (e.0) (e.1)
  | inr e ↦ let none : None ≡ Some (a, rest) = e.1 in cc
]

named-step : (o : Out) (a : List ℕ) (t : Bool) → nat_le (length (with_name o.names a)) most_names ≡ t → (put_name o a).full ≡ false → entered_number o a ≡ number_of (with_name o.names a) a
named-step o a true e c = rw e refl
named-step o a false e c = let full : true ≡ false = rw e at c in cc

title-argument : (o : Out) (a : List ℕ) → (put_name o a).full ≡ false → (more : List (List ℕ)) → entered_number o a ≡ number_of ((put_name o a).names ++ more) a
title-argument o a c more = let same : (put_name o a).names ≡ with_name o.names a = (name-put o a).names c in
    named-step o a (nat_le (length (with_name o.names a)) most_names) refl c ∙ sym (ap (λ (z : List (List ℕ)). number_of (z ++ more) a) same ∙ number-stays o.names more a)

title-read : (line : List ℕ) (o : Out) (n : ℕ) (rest : List ℕ) (p : Out) → title_run line o ≡ Some (n, (rest, p)) → Operand Title line o n rest p
title-read line o n rest p h =
    let f : (x : List ℕ × List ℕ) × (spaced_at title_at line ≡ Some x) × (Some (entered_number o (x.0), (x.1, put_name o (x.0))) ≡ Some (n, (rest, p)))
    = read-some (spaced_at title_at line) (λ r. Some (entered_number o (r.0), (r.1, put_name o (r.0)))) h in
    let j : (entered_number o (f.0.0) ≡ n) × ((f.0.1, put_name o (f.0.0)) ≡ (rest, p)) = both (f.2) in
    let g : (x : List ℕ) × (gap_at line ≡ Some x) × (title_at (after_blanks x) ≡ Some (f.0)) = read-some (gap_at line) (λ z. title_at (after_blanks z)) (f.1) in
    let m : Named (f.0.0) (after_blanks (g.0)) (f.0.1) = title-named (f.0.0) (after_blanks (g.0)) (f.0.1) (g.2) in
    let s : Spaced (Text (f.0.0)) line (f.0.1) = spaced-read (Text (f.0.0)) line (g.0) (f.0.1) (g.1) (record { text = f.0.0; whole = m.whole; spells = refl }) in
    let P : ℕ → Type 0 = λ z. Operand Title line o z rest p in
    let Q : List ℕ × Out → Type 0 = λ z. Operand Title line o (entered_number o (f.0.0)) (z.0) (z.1) in
    subst P (j.0) (subst Q (j.1) (record { operand = f.0.0; allowed = m.is_name; built = tt; is = title-argument o (f.0.0); put = name-put o (f.0.0); lies = s.lies }))

number-step : (limit n : ℕ) (line : List ℕ) (o : Out) (rest : List ℕ) (p : Out) → 9 ≤ limit → Plain (number_at limit) line o n rest p → (n ≤ limit) × Spaced (Number n) line rest
number-step limit n line o rest p l f = let c : Counted limit n (after_blanks f.start) rest = number-read limit n (after_blanks f.start) rest l f.read in
    (c.within, spaced-read (Number n) line f.start rest f.gap (number-spelled limit n (after_blanks f.start) rest c))

-- Held registers that were read.
record Held (left : ℕ) (line : List ℕ) (o : Out) (rest : List ℕ) (p : Out) : Type 0 where
  pub registers : List ℕ
  pub are : Each (λ r. r < REGISTERS) registers
  pub few : length registers ≤ left
  pub put : Put o [] (λ names. all_items names (held_terms registers)) p
  pub lies : (ps : List Piece) → Lies ps rest → Lies (held_pieces registers ps) line

-- No more come.
held-none : (left : ℕ) (line : List ℕ) (o : Out) (rest : List ℕ) (p : Out) → ◌≡◌ {A = List ℕ × Out} (line, o) (rest, p) → Held left line o rest p
held-none left line o rest p h = let same : line ≡ rest = ap (λ (z : List ℕ × Out). z.0) h in
    record {
      registers = [];
      are = tt;
      few = omega arith;
      put = none-put o p (ap (λ (z : List ℕ × Out). z.1) h);
      lies = λ ps l. let P : List ℕ → Type 0 = λ z. Lies ps z in subst P (sym same) l;
    }

-- One more before them.
held-step : (left : ℕ) (line : List ℕ) (o : Out) (r : ℕ) (mid rest : List ℕ) (p : Out) → spaced_at held_at line ≡ Some (r, mid) → Held left mid (push o (item.Held r)) rest p
    → Held (suc left) line o rest p
held-step left line o r mid rest p h k =
    let g : (x : List ℕ) × (gap_at line ≡ Some x) × (held_at (after_blanks x) ≡ Some (r, mid)) = read-some (gap_at line) (λ z. held_at (after_blanks z)) h in
    let b : (x : List ℕ) × (byte_at 36 (after_blanks (g.0)) ≡ Some x) × (number_at LAST_REGISTER x ≡ Some (r, mid))
    = read-some (byte_at 36 (after_blanks (g.0))) (number_at LAST_REGISTER) (g.2) in
    let c : Counted LAST_REGISTER r (b.0) mid = number-read LAST_REGISTER r (b.0) mid (omega arith) (b.2) in
    let whole : after_blanks (g.0) ≡ (36 ∷ c.text) ++ mid = byte-read 36 (after_blanks (g.0)) (b.0) (b.1) ∙ ap (λ (z : List ℕ). 36 ∷ z) c.whole in
    let s : Spaced (Register r) line mid = spaced-read (Register r) line (g.0) mid (g.1) (record { text = 36 ∷ c.text; whole = whole; spells = (c.text, c.number, refl) }) in
    record {
      registers = r ∷ k.registers;
      are = (omega (arith, c.within), k.are);
      few = omega (arith, k.few);
      put = put-then o (push o (item.Held r)) p [] [] (λ names. item.Held r ∷ []) (λ names. all_items names (held_terms k.registers)) (put-item o (item.Held r)) k.put;
      lies = λ ps l. s.lies (held_pieces k.registers ps) (k.lies ps l);
    }

held-read : (left : ℕ) (line : List ℕ) (o : Out) (rest : List ℕ) (p : Out) → held_run left line o ≡ (rest, p) → Held left line o rest p
held-read zero line o rest p h = held-none zero line o rest p h
held-read (suc left) line o rest p h = elim (found-cases (spaced_at held_at line) (λ r. held_run left (r.1) (push o (item.Held (r.0)))) (line, o) h) [
  | inl f ↦ held-step left line o (f.0.0) (f.0.1) rest p (f.1) (held-read left (f.0.1) (push o (item.Held (f.0.0))) rest p (f.2))
  | inr f ↦ held-none (suc left) line o rest p (f.1)
]

-- An operand that is read is in the grammar.
operand-read : (k : Kind) (line : List ℕ) (o : Out) (a : ArgumentOf k) (rest : List ℕ) (p : Out) → operand_at k line o ≡ Some (a, (rest, p)) → Operand k line o a rest p
operand-read Slot line o a rest p h = let f : Plain (number_at LAST_REGISTER) line o a rest p = plain-read (number_at LAST_REGISTER) line o a rest p h in
    let s : (a ≤ LAST_REGISTER) × Spaced (Number a) line rest = number-step LAST_REGISTER a line o rest p (omega arith) f in
    record { operand = a; allowed = omega (arith, s.0); built = tt; is = λ c more. refl; put = none-put o p f.same; lies = s.1.lies }
operand-read Count line o a rest p h = let f : Plain (number_at GREATEST) line o a rest p = plain-read (number_at GREATEST) line o a rest p h in
    let s : (a ≤ GREATEST) × Spaced (Number a) line rest = number-step GREATEST a line o rest p (omega arith) f in
    record { operand = a; allowed = omega (arith, s.0); built = tt; is = λ c more. refl; put = none-put o p f.same; lies = s.1.lies }
operand-read Receiver line o a rest p h = let f : Plain receiver_at line o a rest p = plain-read receiver_at line o a rest p h in
    receiver-step line o a f.start rest p (after_blanks f.start) refl f.gap f.same f.read
operand-read Extent line o a rest p h = let f : Plain extent_at line o a rest p = plain-read extent_at line o a rest p h in
    extent-step line o a f.start rest p f.gap f.same f.read
operand-read Title line o a rest p h = title-read line o a rest p h
operand-read Environment line o a rest p h = let f : Held MOST_HELD line o rest p = held-read MOST_HELD line o rest p ((both h).1) in
    record {
      operand = f.registers;
      allowed = (all-of-each (λ r. r < REGISTERS) f.registers f.are, f.few);
      built = tt;
      is = λ c more. refl;
      put = f.put;
      lies = f.lies;
    }
operand-read Body line o a rest p h = let f : (x : List ℕ × Out) × (body_run line o ≡ Some x) × (Some (tt, x) ≡ Some (a, (rest, p))) = read-some (body_run line o) (λ r. Some (tt, r)) h in
    let j : f.0 ≡ (rest, p) = (both (f.2)).1 in
    body-read line o rest p (f.1 ∙ ap (λ (z : List ℕ × Out). Some z) j)
operand-read _ line o a rest p h = cc

-- The operands of a row that were read, with nothing after them.
pub record Operated (ks : List Kind) (line : List ℕ) (o : Out) (args : Arguments ks) (p : Out) : Type 0 where
  pub operands : Operands ks
  pub allowed : AreOperands ks operands
  pub built : AreBuiltOperands ks operands
  pub are : p.full ≡ false → (more : List (List ℕ)) → args ≡ arguments (p.names ++ more) ks operands
  pub put : Put o (operands_atoms ks operands) (λ names. all_items names (operands_terms ks operands)) p
  pub lies : Lies (operands_pieces ks operands) line

end-step : {A : Type 0} (line : List ℕ) (x y : A) → cond (are_blanks line) (Some x) None ≡ Some y → (are_blanks line ≡ true) × (x ≡ y)
end-step line x y h = elim (chosen (are_blanks line) h) [ inl e ↦ (e.0, inside (e.1)) | inr e ↦ let none : None ≡ Some y = e.1 in cc ]

pub pair-same : {A B : Type 0} (a b : A) (c d : B) → a ≡ b → c ≡ d → ◌≡◌ {A = A × B} (a, c) (b, d)
pair-same {A} {B} a b c d e f = let x : ◌≡◌ {A = A × B} (a, c) (b, c) = ap (λ (z : A). (z, c)) e in
    let y : ◌≡◌ {A = A × B} (b, c) (b, d) = ap (λ (z : B). (b, z)) f in x ∙ y

joined-items : (ts us : Terms) (names : List (List ℕ)) → all_items names ts ++ all_items names us ≡ all_items names (joined ts us)
joined-items end us names = refl
joined-items (t ▹ ts) us names = append_assoc (items_of names t) (all_items names ts) (all_items names us) ∙ ap (λ (z : List Item). items_of names t ++ z) (joined-items ts us names)

operands-then : (k : Kind) (ks : List Kind) (line mid : List ℕ) (o q p : Out) (a : ArgumentOf k) (args : Arguments ks) → Operand k line o a mid q → Operated ks mid q args p
    → Operated (k ∷ ks) line o (a, args) p
operands-then k ks line mid o q p a args x y = record {
  operands = (x.operand, y.operands);
  allowed = (x.allowed, y.allowed);
  built = (x.built, y.built);
  are = λ c more. let w : (m : List (List ℕ)) × (with_names q.names (operands_atoms ks y.operands) ≡ q.names ++ m) = names-grown (operands_atoms ks y.operands) q.names in
      let same : q.names ++ (w.0 ++ more) ≡ p.names ++ more = sym (append_assoc q.names (w.0) more) ∙ ap (λ (z : List (List ℕ)). z ++ more) (sym (y.put.names c ∙ w.1)) in
      pair-same a (argument (p.names ++ more) k x.operand) args (arguments (p.names ++ more) ks y.operands)
      (x.is (y.put.clear c) (w.0 ++ more) ∙ ap (λ (z : List (List ℕ)). argument z k x.operand) same) (y.are c more);
  put = as-items o p (operand_atoms k x.operand ++ operands_atoms ks y.operands)
      (λ names. all_items names (operand_terms k x.operand) ++ all_items names (operands_terms ks y.operands))
      (λ names. all_items names (joined (operand_terms k x.operand) (operands_terms ks y.operands)))
      (λ names. joined-items (operand_terms k x.operand) (operands_terms ks y.operands) names)
      (put-then o q p (operand_atoms k x.operand) (operands_atoms ks y.operands) (λ names. all_items names (operand_terms k x.operand))
      (λ names. all_items names (operands_terms ks y.operands)) x.put y.put);
  lies = x.lies (operands_pieces ks y.operands) y.lies;
}

-- Operands that are read are in the grammar.
pub operands-read : (ks : List Kind) (line : List ℕ) (o : Out) (args : Arguments ks) (p : Out) → operands_at ks line o ≡ Some (args, p) → Operated ks line o args p
operands-read [] line o args p h = let f : (are_blanks line ≡ true) × ((tt, o) ≡ (args, p)) = end-step line (tt, o) (args, p) h in
    let last : o ≡ p = ap (λ (z : Unit {0} × Out). z.1) (f.1) in
    record { operands = tt; allowed = tt; built = tt; are = λ c more. refl; put = none-put o p last; lies = end-blank line (f.0) }
operands-read (k ∷ ks) line o args p h =
    let f : (x : ArgumentOf k × (List ℕ × Out)) × (operand_at k line o ≡ Some x) × (then_read (operands_at ks (x.1.0) (x.1.1)) (λ s. Some ((x.0, s.0), s.1)) ≡ Some (args, p))
    = read-some (operand_at k line o) (λ x. then_read (operands_at ks (x.1.0) (x.1.1)) (λ s. Some ((x.0, s.0), s.1))) h in
    let g : (y : Arguments ks × Out) × (operands_at ks (f.0.1.0) (f.0.1.1) ≡ Some y) × (Some ((f.0.0, y.0), y.1) ≡ Some (args, p))
    = read-some (operands_at ks (f.0.1.0) (f.0.1.1)) (λ s. Some ((f.0.0, s.0), s.1)) (f.2) in
    let j : ((f.0.0, g.0.0) ≡ args) × (g.0.1 ≡ p) = both (g.2) in
    let P : Out → Type 0 = λ z. Operated (k ∷ ks) line o (f.0.0, g.0.0) z in
    let Q : Arguments (k ∷ ks) → Type 0 = λ z. Operated (k ∷ ks) line o z p in
    subst Q (j.0) (subst P (j.1) (operands-then k ks line (f.0.1.0) o (f.0.1.1) (g.0.1) (f.0.0) (g.0.0)
    (operand-read k line o (f.0.0) (f.0.1.0) (f.0.1.1) (f.1)) (operands-read ks (f.0.1.0) (f.0.1.1) (g.0.0) (g.0.1) (g.1))))

-- The operands of a row, and what came of them.
pub record Made {V : Type 0} (r : VerbRow V) (line : List ℕ) (o : Out) (v : V) (p : Out) : Type 0 where
  pub arguments : Arguments r.kinds
  pub operated : Operated r.kinds line o arguments p
  pub is : v ≡ r.made arguments

row-read : {V : Type 0} (r : VerbRow V) (line : List ℕ) (o : Out) (v : V) (p : Out) → row_run r line o ≡ Some (v, p) → Made r line o v p
unfolding row_run
row-read r line o v p h =
    let f : (x : Arguments r.kinds × Out) × (operands_at r.kinds line o ≡ Some x) × (Some (r.made (x.0), x.1) ≡ Some (v, p))
    = read-some (operands_at r.kinds line o) (λ x. Some (r.made (x.0), x.1)) h in
    let j : (r.made (f.0.0) ≡ v) × (f.0.1 ≡ p) = both (f.2) in
    let P : Out → Type 0 = λ z. Operated r.kinds line o (f.0.0) z in
    record { arguments = f.0.0; operated = subst P (j.1) (operands-read r.kinds line o (f.0.0) (f.0.1) (f.1)); is = sym (j.0) }

-- The word at the front, and the rest after it.
cut : (line text : List ℕ) → word_at line ≡ text → line ≡ text ++ after_word line
cut line text e = sym (take-append-drop (prefix_len is_solid line) line) ∙ ap (λ (z : List ℕ). z ++ after_word line) e

-- A verb that was read after a blank, by a table of texts, of rows and of what is built.
pub record Spoken {W V : Type 0} (text : W → List ℕ) (kinds : W → List Kind) (with : (w : W) → Arguments (kinds w) → V) (built : W → Bool) (line : List ℕ) (o : Out) (v : V) (p : Out) : Type 0 where
  pub word : W
  pub is_built : built word ≡ true
  pub operands : Operands (kinds word)
  pub allowed : AreOperands (kinds word) operands
  pub are_built : AreBuiltOperands (kinds word) operands
  pub is : p.full ≡ false → (more : List (List ℕ)) → v ≡ with word (arguments (p.names ++ more) (kinds word) operands)
  pub put : Put o (operands_atoms (kinds word) operands) (λ names. all_items names (operands_terms (kinds word) operands)) p
  pub lies : Lies (Space ∷ Text (text word) ∷ operands_pieces (kinds word) operands) line

-- The word was found and is built, and its operands were read.
spoken-word : {W V : Type 0} (text : W → List ℕ) (kinds : W → List Kind) (with : (w : W) → Arguments (kinds w) → V) (built : W → Bool) (line start : List ℕ) (o : Out) (v : V) (p : Out) (w : W)
    → gap_at line ≡ Some start → word_at (after_blanks start) ≡ text w → built w ≡ true → Made (row (kinds w) (with w)) (after_word (after_blanks start)) o v p
    → Spoken text kinds with built line o v p
spoken-word text kinds with built line start o v p w g t b m = record {
  word = w;
  is_built = b;
  operands = m.operated.operands;
  allowed = m.operated.allowed;
  are_built = m.operated.built;
  is = λ c more. m.is ∙ ap (with w) (m.operated.are c more);
  put = m.operated.put;
  lies = gap-lies (Text (text w) ∷ operands_pieces (kinds w) m.operated.operands) line start g
      (lies (Text (text w)) (operands_pieces (kinds w) m.operated.operands) start (text w) (after_word (after_blanks start)) (cut (after_blanks start) (text w) t) refl m.operated.lies);
}

spoken : {W V : Type 0} (text : W → List ℕ) (kinds : W → List Kind) (with : (w : W) → Arguments (kinds w) → V) (built : W → Bool) (all : List W) (rows : W → VerbRow V)
    → ((w : W) → rows w ≡ row (kinds w) (with w)) → (line : List ℕ) (o : Out) (v : V) (p : Out)
    → then_read (gap_at line) (λ rest. then_read (find (λ w. bytes_eq (word_at (after_blanks rest)) (text w)) all)
    (λ w. cond (built w) (row_run (rows w) (after_word (after_blanks rest)) o) None)) ≡ Some (v, p)
    → Spoken text kinds with built line o v p
spoken {W} {V} text kinds with built all rows same line o v p h =
    let f : (x : List ℕ) × (gap_at line ≡ Some x)
    × (then_read (find (λ w. bytes_eq (word_at (after_blanks x)) (text w)) all) (λ w. cond (built w) (row_run (rows w) (after_word (after_blanks x)) o) None) ≡ Some (v, p))
    = read-some (gap_at line) (λ rest. then_read (find (λ w. bytes_eq (word_at (after_blanks rest)) (text w)) all) (λ w. cond (built w) (row_run (rows w) (after_word (after_blanks rest)) o) None))
    h in
    let g : (w : W) × (find (λ w. bytes_eq (word_at (after_blanks (f.0))) (text w)) all ≡ Some w) × (cond (built w) (row_run (rows w) (after_word (after_blanks (f.0))) o) None ≡ Some (v, p))
    = read-some (find (λ w. bytes_eq (word_at (after_blanks (f.0))) (text w)) all) (λ w. cond (built w) (row_run (rows w) (after_word (after_blanks (f.0))) o) None) (f.2) in
    elim (chosen (built (g.0)) (g.2)) [
      | inl e ↦ let P : VerbRow V → Type 0 = λ z. row_run z (after_word (after_blanks (f.0))) o ≡ Some (v, p) in
          spoken-word text kinds with built line (f.0) o v p (g.0) (f.1) (found-text text all (word_at (after_blanks (f.0))) (g.0) (g.1)) (e.0)
          (row-read (row (kinds (g.0)) (with (g.0))) (after_word (after_blanks (f.0))) o v p (subst P (same (g.0)) (e.1)))
      | inr e ↦ let none : None ≡ Some (v, p) = e.1 in cc
    ]

process-read : (line : List ℕ) (o : Out) (v : Verb) (p : Out) → process_run line o ≡ Some (v, p) → Spoken text_of kinds_of verb_with is_built line o v p
process-read line o v p h = spoken text_of kinds_of verb_with is_built all_words row_of row-is line o v p h

system-read : (line : List ℕ) (o : Out) (v : SysVerb) (p : Out) → system_run line o ≡ Some (v, p) → Spoken sys_text_of sys_kinds_of sys_verb_with is_sys_built line o v p
system-read line o v p h = spoken sys_text_of sys_kinds_of sys_verb_with is_sys_built all_sys_words sys_row_of sys-row-is line o v p h

-- A line that was read.
pub record LineRead (line : List ℕ) (o : Out) (c : Command) (p : Out) : Type 0 where
  pub written : Written
  pub says : Says line written
  pub built : IsBuilt written
  pub is : p.full ≡ false → (more : List (List ℕ)) → c ≡ command_of (p.names ++ more) written
  pub put : Put o (all_atoms written) (λ names. all_items names (terms_of written)) p

silent-step : (b : ℕ) (bytes : List ℕ) (t : Bool) → is_blank b ≡ t → (is_silent (after_blanks bytes) ≡ true → IsSilent bytes) → is_silent (after_blanks (b ∷ bytes)) ≡ true → IsSilent (b ∷ bytes)
silent-step b bytes true e ih h = inr (e, ih (rw e at h))
silent-step b bytes false e ih h = let k : nat_eq b 37 ≡ true = rw e at h in inl (eqb-true b 37 k)

silent-read : (line : List ℕ) → is_silent (after_blanks line) ≡ true → IsSilent line
silent-read [] h = tt
silent-read (b ∷ bytes) h = silent-step b bytes (is_blank b) refl (silent-read bytes) h

process-line : (line rest : List ℕ) (o : Out) (n : ℕ) (v : Verb) (p : Out) → Counted GREATEST n (after_blanks line) rest → process_run rest o ≡ Some (v, p) → LineRead line o (command.Process n v) p
process-line line rest o n v p c h = let b : Spoken text_of kinds_of verb_with is_built rest o v p = process-read rest o v p h in
    record {
      written = OfProcess n b.word b.operands;
      says = record {
        allowed = (omega (arith, c.within), b.allowed);
        spelled = lies (Number n) (Space ∷ Text (text_of b.word) ∷ operands_pieces (kinds_of b.word) b.operands) line c.text rest c.whole c.number b.lies;
      };
      built = (b.is_built, b.are_built);
      is = λ e more. ap (λ (z : Verb). command.Process n z) (b.is e more);
      put = b.put;
    }

system-line : (line rest : List ℕ) (o : Out) (v : SysVerb) (p : Out) → text_at (codes "sys") (after_blanks line) ≡ Some rest → system_run rest o ≡ Some (v, p) → LineRead line o (command.System v) p
system-line line rest o v p t h = let b : Spoken sys_text_of sys_kinds_of sys_verb_with is_sys_built rest o v p = system-read rest o v p h in
    record {
      written = OfSystem b.word b.operands;
      says = record {
        allowed = b.allowed;
        spelled = lies (Text (codes "sys")) (Space ∷ Text (sys_text_of b.word) ∷ operands_pieces (sys_kinds_of b.word) b.operands) line (codes "sys") rest
            (text-read (codes "sys") (after_blanks line) rest t) refl b.lies;
      };
      built = (b.is_built, b.are_built);
      is = λ e more. ap (λ (z : SysVerb). command.System z) (b.is e more);
      put = b.put;
    }

same-read : (line : List ℕ) (o : Out) (c d : Command) (p q : Out) → (c ≡ d) × (p ≡ q) → LineRead line o c p → LineRead line o d q
same-read line o c d p q e r = let P : Command → Type 0 = λ z. LineRead line o z q in let Q : Out → Type 0 = λ z. LineRead line o c z in subst P (e.0) (subst Q (e.1) r)

command-read : (line : List ℕ) (o : Out) (c : Command) (p : Out) → command_run (after_blanks line) o ≡ Some (c, p) → LineRead line o c p
command-read line o c p h = elim (found-cases (number_at GREATEST (after_blanks line))
    (λ r. then_read (process_run (r.1) o) (λ v. Some (command.Process (r.0) (v.0), v.1)))
    (then_read (text_at (codes "sys") (after_blanks line)) (λ rest. then_read (system_run rest o) (λ v. Some (command.System (v.0), v.1)))) h) [
      | inl f ↦ let n : Counted GREATEST (f.0.0) (after_blanks line) (f.0.1) = number-read GREATEST (f.0.0) (after_blanks line) (f.0.1) (omega arith) (f.1) in
          let g : (x : Verb × Out) × (process_run (f.0.1) o ≡ Some x) × (Some (command.Process (f.0.0) (x.0), x.1) ≡ Some (c, p))
          = read-some (process_run (f.0.1) o) (λ v. Some (command.Process (f.0.0) (v.0), v.1)) (f.2) in
          same-read line o (command.Process (f.0.0) (g.0.0)) c (g.0.1) p (both (g.2)) (process-line line (f.0.1) o (f.0.0) (g.0.0) (g.0.1) n (g.1))
      | inr f ↦ let g : (x : List ℕ) × (text_at (codes "sys") (after_blanks line) ≡ Some x) × (then_read (system_run x o) (λ v. Some (command.System (v.0), v.1)) ≡ Some (c, p))
          = read-some (text_at (codes "sys") (after_blanks line)) (λ rest. then_read (system_run rest o) (λ v. Some (command.System (v.0), v.1))) (f.1) in
          let k : (x : SysVerb × Out) × (system_run (g.0) o ≡ Some x) × (Some (command.System (x.0), x.1) ≡ Some (c, p))
          = read-some (system_run (g.0) o) (λ v. Some (command.System (v.0), v.1)) (g.2) in
          same-read line o (command.System (k.0.0)) c (k.0.1) p (both (k.2)) (system-line line (g.0) o (k.0.0) (k.0.1) (g.1) (k.1))
    ]

-- A line that is read says a built command.
pub line-read : (line : List ℕ) (o : Out) (c : Command) (p : Out) → line_run line o ≡ Some (c, p) → LineRead line o c p
line-read line o c p h = elim (chosen (is_silent (after_blanks line)) h) [
  | inl e ↦ let j : (command.Nothing ≡ c) × (o ≡ p) = both (e.1) in
      record { written = Nothing; says = record { allowed = tt; spelled = silent-read line (e.0) }; built = tt; is = λ f more. sym (j.0); put = none-put o p (j.1) }
  | inr e ↦ command-read line o c p (e.1)
]
