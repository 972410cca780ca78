-- A line that says a built command is read.
use Rattle.std.proofs.Common.{◌≡◌, ℕ, zero, suc, ◌<◌, ◌≤◌, Bool, true, false, cond, List, [], ◌∷◌, ◌++◌, length, Option, Some, None, codes, refl, sym, ◌∙◌, ap, subst, inl, inr, arith}
use Rattle.script_parse.specs.declared.numbers.TheConstants.{GREATEST, LAST_REGISTER}
use Rattle.script_grammar.specs.declared.limits.TheConstants.{LEVELS, REGISTERS, NUMBERS, MOST_HELD}
use Rattle.std.specs.List.{find}
use Rattle.std.specs.Str.{bytes_eq}
use Rattle.plain_term.specs.declared.item.Item.TheVariants as item
use Rattle.script_grammar.specs.Written.{Kind, OperandOf, Operands, text_of, kinds_of, all_words, sys_text_of, sys_kinds_of, all_sys_words, Written}
use Rattle.script_grammar.specs.Written.Kind.{Slot, Count, Receiver, Title, Environment, Extent, Body}
use Rattle.script_grammar.specs.Written.Written.{Nothing, OfProcess, OfSystem}
use Rattle.script_grammar.specs.declared.word.Word.{Word}
use Rattle.script_grammar.specs.declared.word.Word.TheVariants as word
use Rattle.script_grammar.specs.declared.word.SysWord.{SysWord}
use Rattle.script_grammar.specs.declared.word.SysWord.TheVariants as sys
use Rattle.script_grammar.specs.Grammar.{is_blank, is_digit, is_small_letter, AreAll, IsNumber, IsName, MayReceive, IsSilent, Says, IsBuilt, is_built, is_sys_built, Piece, Lies, term_pieces, held_pieces, receiver_pieces, extent_pieces, operand_pieces, operands_pieces, IsOperand, IsBuiltOperand, AreOperands, AreBuiltOperands}
use Rattle.script_grammar.specs.Grammar.Piece.{Space, Text, Number, Whole, Process, Register}
use Rattle.script_grammar.specs.Names.{ArgumentOf, Arguments, verb_with, sys_verb_with}
use Rattle.script_grammar.specs.declared.command.Reg.{Reg}
use Rattle.script_grammar.specs.declared.command.To.{To}
use Rattle.script_grammar.specs.declared.command.To.TheVariants as to
use Rattle.script_grammar.specs.declared.command.Depth.{Depth}
use Rattle.script_grammar.specs.declared.command.Depth.TheVariants.{Minor, Major}
use Rattle.script_grammar.specs.declared.command.Command.TheVariants as command
use Rattle.script_grammar.specs.declared.command.Verb.{Verb}
use Rattle.script_grammar.specs.declared.command.SysVerb.{SysVerb}
use Rattle.script_parse.specs.Output.{Out, push, put, put_name, entered_number}
use Rattle.script_parse.specs.Reading.{then_read, after_blanks, gap_at, number_at, is_solid, word_at, after_word, is_silent, atom_at, receiver_at, title_at, extent_at, held_at, held_run, spaced_at, operand_at, operands_at, VerbRow, row, row_run, row_of, sys_row_of, process_run, system_run, line_run}
use Rattle.script_parse.proofs.Stepwise.Tools.{not-blank, apart, false-not}
use Rattle.script_parse.proofs.Stepwise.Tools.{unequal}
use Rattle.script_parse.proofs.Stepwise.GapSteps.{Gap, gap-found, Token, token, Stops, Divides, stops, blank-end}
use Rattle.script_parse.proofs.Stepwise.NumberSteps.{Begun, begun, stops-digits, number-found, Numbers, number-stands, number-loud}
use Rattle.script_parse.proofs.Stepwise.AtomSteps.{atom-found, word-found}
use Rattle.script_parse.proofs.Stepwise.RowSteps.{body-at}
use Rattle.script_parse.proofs.Stepwise.Tables.{named-so, sys_named-so, row-is, sys-row-is, is_word, word-solid, text-word, sys-text-word}
use Rattle.script_parse.proofs.OfTerms.Divided.{Each, each-of-all}
use Rattle.script_parse.proofs.OfTerms.Complete.{Done, term-done}

-- What a plain operand is read from after its blank.
pub record Fronts {A : Type 0} (front : List ℕ → Option (A × List ℕ)) (a : A) (ps : List Piece) (line : List ℕ) : Type 0 where
  pub start : List ℕ
  pub gap : gap_at line ≡ Some start
  pub rest : List ℕ
  pub read : front (after_blanks start) ≡ Some (a, rest)
  pub lies : Lies ps rest

pub number-fronts : (limit n : ℕ) (ps : List Piece) (line : List ℕ) → n ≤ limit → Divides ps → Lies (Space ∷ Number n ∷ ps) line → Fronts (number_at limit) n ps line
number-fronts limit n ps line h d l = let g : Gap (Number n ∷ ps) line = gap-found (Number n ∷ ps) line l in
    let f : Numbers limit n ps g.rest = number-stands limit n ps g.rest h d g.lies in
    record { start = g.rest; gap = g.found; rest = f.rest; read = f.read; lies = f.lies }

held-start : (r : Reg) (ps : List Piece) (start : List ℕ) → (r.0) < REGISTERS → Divides ps → Lies (Register (r.0) ∷ ps) start
    → (rest : List ℕ) × (receiver_at (after_blanks start) ≡ Some (to.Held r, rest)) × Lies ps rest
held-start r ps start h d (gap, text, rest, g, (digits, i, s), e, l) = let k : Token (Register (r.0)) ps start 36 digits = token (Register (r.0)) ps start gap digits rest 36 g refl (rw s at e) l in
    let f : number_at LAST_REGISTER (digits ++ k.rest) ≡ Some (r.0, k.rest) = number-found LAST_REGISTER (r.0) digits k.rest i (omega arith) (stops-digits k.rest (stops ps k.rest d k.lies)) in
    (k.rest, rw (k.front, f) refl, k.lies)

counted-start : (n : ℕ) (ps : List Piece) (start : List ℕ) → n < NUMBERS → Divides ps → Lies (Number n ∷ ps) start
    → (rest : List ℕ) × (receiver_at (after_blanks start) ≡ Some (to.Number n, rest)) × Lies ps rest
counted-start n ps start h d (gap, text, rest, g, i, e, l) =
    let b : Begun text = begun n text i in
    let whole : start ≡ gap ++ ((b.first ∷ b.more) ++ rest) = rw b.whole at e in
    let number : IsNumber n (b.first ∷ b.more) = rw b.whole at i in
    let k : Token (Number n) ps start b.first b.more = token (Number n) ps start gap b.more rest b.first g (not-blank is_digit b.first refl refl b.digit) whole l in
    let f : number_at GREATEST ((b.first ∷ b.more) ++ k.rest) ≡ Some (n, k.rest)
    = number-found GREATEST n (b.first ∷ b.more) k.rest number (omega arith) (stops-digits k.rest (stops ps k.rest d k.lies)) in
    (k.rest, rw (k.front, unequal b.first 36 (apart is_digit b.first 36 refl b.digit), f) refl, k.lies)

pub receiver-fronts : (a : To) (ps : List Piece) (line : List ℕ) → MayReceive a → Divides ps → Lies (Space ∷ receiver_pieces a ps) line → Fronts receiver_at a ps line
receiver-fronts (to.Number n) ps line h d l = let g : Gap (Number n ∷ ps) line = gap-found (Number n ∷ ps) line l in
    let f : (rest : List ℕ) × (receiver_at (after_blanks g.rest) ≡ Some (to.Number n, rest)) × Lies ps rest = counted-start n ps g.rest h d g.lies in
    record { start = g.rest; gap = g.found; rest = f.0; read = f.1; lies = f.2 }
receiver-fronts (to.Held r) ps line h d l = let g : Gap (Register (r.0) ∷ ps) line = gap-found (Register (r.0) ∷ ps) line l in
    let f : (rest : List ℕ) × (receiver_at (after_blanks g.rest) ≡ Some (to.Held r, rest)) × Lies ps rest = held-start r ps g.rest h d g.lies in
    record { start = g.rest; gap = g.found; rest = f.0; read = f.1; lies = f.2 }

-- A text that begins with no blank stands at the front.
text-start : (b : ℕ) (text : List ℕ) (ps : List Piece) (start : List ℕ) → is_blank b ≡ false → Lies (Text (b ∷ text) ∷ ps) start
    → (rest : List ℕ) × (after_blanks start ≡ (b ∷ text) ++ rest) × Lies ps rest
text-start b text ps start n (gap, t, rest, g, s, e, l) = let k : Token (Text (b ∷ text)) ps start b text
    = token (Text (b ∷ text)) ps start gap text rest b g n (rw s at e) l in (k.rest, k.front, k.lies)

pub extent-fronts : (a : Depth) (ps : List Piece) (line : List ℕ) → Lies (Space ∷ extent_pieces a ps) line → Fronts extent_at a ps line
extent-fronts Minor ps line l = let g : Gap (Text (codes "minor") ∷ ps) line = gap-found (Text (codes "minor") ∷ ps) line l in
    let f : (rest : List ℕ) × (after_blanks g.rest ≡ codes "minor" ++ rest) × Lies ps rest = text-start 109 (codes "inor") ps g.rest refl g.lies in
    record { start = g.rest; gap = g.found; rest = f.0; read = rw (f.1) refl; lies = f.2 }
extent-fronts Major ps line l = let g : Gap (Text (codes "major") ∷ ps) line = gap-found (Text (codes "major") ∷ ps) line l in
    let f : (rest : List ℕ) × (after_blanks g.rest ≡ codes "major" ++ rest) × Lies ps rest = text-start 109 (codes "ajor") ps g.rest refl g.lies in
    record { start = g.rest; gap = g.found; rest = f.0; read = rw (f.1) refl; lies = f.2 }

small-title : (b : ℕ) (bytes : List ℕ) → is_small_letter b ≡ true → title_at (b ∷ bytes) ≡ atom_at (b ∷ bytes)
small-title b bytes h = rw h refl

title-start : (a : List ℕ) (ps : List Piece) (start : List ℕ) → IsName a → Divides ps → Lies (Text a ∷ ps) start → (rest : List ℕ) × (title_at (after_blanks start) ≡ Some (a, rest)) × Lies ps rest
title-start [] ps start h d l = absurd h
title-start (b ∷ bytes) ps start h d l =
    let f : (rest : List ℕ) × (after_blanks start ≡ (b ∷ bytes) ++ rest) × Lies ps rest = text-start b bytes ps start (not-blank is_small_letter b refl refl (h.0)) l in
    let k : atom_at ((b ∷ bytes) ++ f.0) ≡ Some (b ∷ bytes, f.0) = atom-found (b ∷ bytes) (f.0) h (stops ps (f.0) d (f.2)) in
    (f.0, ap title_at (f.1) ∙ (small-title b (bytes ++ f.0) (h.0) ∙ k), f.2)

pub title-fronts : (a : List ℕ) (ps : List Piece) (line : List ℕ) → IsName a → Divides ps → Lies (Space ∷ Text a ∷ ps) line → Fronts title_at a ps line
title-fronts a ps line h d l = let g : Gap (Text a ∷ ps) line = gap-found (Text a ∷ ps) line l in
    let f : (rest : List ℕ) × (title_at (after_blanks g.rest) ≡ Some (a, rest)) × Lies ps rest = title-start a ps g.rest h d g.lies in
    record { start = g.rest; gap = g.found; rest = f.0; read = f.1; lies = f.2 }

-- A held register is read.
pub held-fronts : (r : ℕ) (ps : List Piece) (line : List ℕ) → r < REGISTERS → Divides ps → Lies (Space ∷ Register r ∷ ps) line → Fronts held_at r ps line
held-fronts r ps line h d l = let g : Gap (Register r ∷ ps) line = gap-found (Register r ∷ ps) line l in
    let f : (rest : List ℕ) × (held_at (after_blanks g.rest) ≡ Some (r, rest)) × Lies ps rest = begins g.rest g.lies in
    record { start = g.rest; gap = g.found; rest = f.0; read = f.1; lies = f.2 }
  where
    begins : (start : List ℕ) → Lies (Register r ∷ ps) start → (rest : List ℕ) × (held_at (after_blanks start) ≡ Some (r, rest)) × Lies ps rest
    begins start (gap, text, rest, g, (digits, i, s), e, l) = let k : Token (Register r) ps start 36 digits = token (Register r) ps start gap digits rest 36 g refl (rw s at e) l in
        (k.rest, rw k.front (number-found LAST_REGISTER r digits k.rest i (omega (arith, h)) (stops-digits k.rest (stops ps k.rest d k.lies))), k.lies)

pub held-spaced : (r : ℕ) (ps : List Piece) (line : List ℕ) (f : Fronts held_at r ps line) → spaced_at held_at line ≡ Some (r, f.rest)
held-spaced r ps line f = rw (f.gap, f.read) refl

blanks-none : (line : List ℕ) → AreAll is_blank line → after_blanks line ≡ []
blanks-none [] h = refl
blanks-none (b ∷ bytes) h = rw (h.0) (blanks-none bytes (h.1))

-- None is, where nothing but blanks is left.
pub no-held : (line : List ℕ) → AreAll is_blank line → spaced_at held_at line ≡ None
no-held [] h = refl
no-held (b ∷ bytes) h = rw (h.0, blanks-none bytes (h.1)) refl

pub held-divide : (rs : List ℕ) → Divides (held_pieces rs [])
held-divide [] = tt
held-divide (r ∷ rs) = tt

-- Held registers at the end of a line are all read.
held-stand : (rs : List ℕ) (left : ℕ) (line : List ℕ) (o : Out) → Each (λ r. r < REGISTERS) rs → length rs ≤ left → Lies (held_pieces rs []) line → Lies [] ((held_run left line o).0)
held-stand [] zero line o a f l = l
held-stand [] (suc left) line o a f l = rw (no-held line l) l
held-stand (r ∷ rs) zero line o a f l = absurd (omega (arith, f))
held-stand (r ∷ rs) (suc left) line o a f l = let g : Fronts held_at r (held_pieces rs []) line = held-fronts r (held_pieces rs []) line (a.0) (held-divide rs) l in
    rw (held-spaced r (held_pieces rs []) line g) (held-stand rs left g.rest (push o (item.Held r)) (a.1) (omega (arith, f)) g.lies)

-- What may stand after an operand: nothing after an environment, for its registers might go on.
abbrev pub MayFollow : Kind → List Piece → Type 0
MayFollow Environment ps = ps ≡ []
MayFollow _ ps = Unit {0}

-- In a row an environment is the last operand.
abbrev pub IsRow : List Kind → Type 0
IsRow [] = Unit {0}
IsRow (Environment ∷ []) = Unit {0}
IsRow (Environment ∷ k ∷ ks) = ⊥
IsRow (_ ∷ ks) = IsRow ks

pub row-follows : (k : Kind) (ks : List Kind) (ops : Operands ks) → IsRow (k ∷ ks) → MayFollow k (operands_pieces ks ops)
row-follows Environment [] ops h = refl
row-follows Environment (k ∷ ks) ops h = absurd h
row-follows _ ks ops h = tt

pub row-rest : (k : Kind) (ks : List Kind) → IsRow (k ∷ ks) → IsRow ks
row-rest Environment [] h = tt
row-rest Environment (k ∷ ks) h = absurd h
row-rest _ ks h = h

-- So it is in each verb's.
pub word-row : (w : Word) → IsRow (kinds_of w)
word-row word.Set = tt
word-row _ = tt

pub sys_word-row : (w : SysWord) → IsRow (sys_kinds_of w)
sys_word-row sys.Spawn = tt
sys_word-row _ = tt

-- An operand is read.
pub record Stands (k : Kind) (ps : List Piece) (line : List ℕ) (o : Out) : Type 0 where
  pub argument : ArgumentOf k
  pub rest : List ℕ
  pub after : Out
  pub read : operand_at k line o ≡ Some (argument, (rest, after))
  pub lies : Lies ps rest

operand-stands : (k : Kind) (x : OperandOf k) (ps : List Piece) (line : List ℕ) (o : Out) → Divides ps → MayFollow k ps → IsOperand k x → IsBuiltOperand k x → Lies (operand_pieces k x ps) line
    → Stands k ps line o
operand-stands Slot x ps line o d w a b l = let f : Fronts (number_at LAST_REGISTER) x ps line = number-fronts LAST_REGISTER x ps line (omega arith) d l in
    record { argument = x; rest = f.rest; after = o; read = rw (f.gap, f.read) refl; lies = f.lies }
operand-stands Count x ps line o d w a b l = let f : Fronts (number_at GREATEST) x ps line = number-fronts GREATEST x ps line (omega arith) d l in
    record { argument = x; rest = f.rest; after = o; read = rw (f.gap, f.read) refl; lies = f.lies }
operand-stands Receiver x ps line o d w a b l = let f : Fronts receiver_at x ps line = receiver-fronts x ps line a d l in
    record { argument = x; rest = f.rest; after = o; read = rw (f.gap, f.read) refl; lies = f.lies }
operand-stands Extent x ps line o d w a b l = let f : Fronts extent_at x ps line = extent-fronts x ps line l in
    record { argument = x; rest = f.rest; after = o; read = rw (f.gap, f.read) refl; lies = f.lies }
operand-stands Title x ps line o d w a b l = let f : Fronts title_at x ps line = title-fronts x ps line a d l in
    record { argument = entered_number o x; rest = f.rest; after = put_name o x; read = rw (f.gap, f.read) refl; lies = f.lies }
operand-stands Environment rs ps line o d w a b l = let P : List Piece → Type 0 = λ z. Lies (held_pieces rs z) line in
    let Q : List Piece → Type 0 = λ z. Lies z ((held_run MOST_HELD line o).0) in
    record {
      argument = tt;
      rest = (held_run MOST_HELD line o).0;
      after = (held_run MOST_HELD line o).1;
      read = refl;
      lies = subst Q (sym w) (held-stand rs MOST_HELD line o (each-of-all (λ r. r < REGISTERS) rs (a.0)) (a.1) (subst P w l));
    }
operand-stands Body t ps line o d w a b l = let g : Gap (term_pieces t ps) line = gap-found (term_pieces t ps) line l in
    let f : Done LEVELS t ps g.rest o = term-done LEVELS t ps g.rest o d a b g.lies in
    record { argument = tt; rest = f.rest; after = put t o; read = body-at LEVELS line g.rest f.rest o (put t o) g.found f.read; lies = f.lies }
operand-stands _ x ps line o d w a b l = absurd b

-- Pieces before which a word ends.
abbrev pub Parts : List Piece → Type 0
Parts [] = Unit {0}
Parts (Space ∷ ps) = Unit {0}
Parts (_ ∷ ps) = ⊥

parts-divide : (ps : List Piece) → Parts ps → Divides ps
parts-divide [] h = tt
parts-divide (Space ∷ ps) h = tt
parts-divide (_ ∷ ps) h = absurd h

held-part : (rs : List ℕ) (ps : List Piece) → Parts ps → Parts (held_pieces rs ps)
held-part [] ps h = h
held-part (r ∷ rs) ps h = tt

-- A word ends before the operands of a row.
pub operands-part : (ks : List Kind) (ops : Operands ks) → Parts (operands_pieces ks ops)
operands-part [] ops = tt
operands-part (Environment ∷ ks) ops = held-part (ops.0) (operands_pieces ks (ops.1)) (operands-part ks (ops.1))
operands-part (_ ∷ ks) ops = tt

pub operands-divide : (ks : List Kind) (ops : Operands ks) → Divides (operands_pieces ks ops)
operands-divide ks ops = parts-divide (operands_pieces ks ops) (operands-part ks ops)

-- Something is read.
abbrev pub Any : {A : Type 0} → Option A → Type 0
Any {A} r = (x : A) × (r ≡ Some x)

-- Operands that the grammar has are read.
pub operands-any : (ks : List Kind) (ops : Operands ks) (line : List ℕ) (o : Out) → IsRow ks → AreOperands ks ops → AreBuiltOperands ks ops → Lies (operands_pieces ks ops) line
    → Any (operands_at ks line o)
operands-any [] ops line o w a b l = ((tt, o), rw (blank-end line l) refl)
operands-any (k ∷ ks) ops line o w a b l =
    let s : Stands k (operands_pieces ks (ops.1)) line o = operand-stands k (ops.0) (operands_pieces ks (ops.1)) line o (operands-divide ks (ops.1)) (row-follows k ks (ops.1) w) (a.0) (b.0) l in
    let r : (x : Arguments ks × Out) × (operands_at ks s.rest s.after ≡ Some x) = operands-any ks (ops.1) s.rest s.after (row-rest k ks w) (a.1) (b.1) s.lies in
    (((s.argument, r.0.0), r.0.1), rw (s.read, r.1) refl)

row-any : {V : Type 0} (ks : List Kind) (made : Arguments ks → V) (ops : Operands ks) (line : List ℕ) (o : Out) → IsRow ks → AreOperands ks ops → AreBuiltOperands ks ops
    → Lies (operands_pieces ks ops) line → Any (row_run (row ks made) line o)
unfolding row_run
row-any ks made ops line o w a b l = let r : (x : Arguments ks × Out) × (operands_at ks line o ≡ Some x) = operands-any ks ops line o w a b l in
    ((made (r.0.0), r.0.1), rw (r.1) refl)

solid-blank : (b : ℕ) → is_blank b ≡ true → is_solid b ≡ false
solid-blank b e = rw e refl

gap-solid : (gap rest : List ℕ) (b : ℕ) → AreAll is_blank gap → is_blank b ≡ true → Stops is_solid (gap ++ (b ∷ rest))
gap-solid [] rest b h e = solid-blank b e
gap-solid (g ∷ gap) rest b h e = solid-blank g (h.0)

blank-solid : (line : List ℕ) → AreAll is_blank line → Stops is_solid line
blank-solid [] h = tt
blank-solid (b ∷ line) h = solid-blank b (h.0)

word-stops : (ps : List Piece) (line : List ℕ) → Parts ps → Lies ps line → Stops is_solid line
word-stops [] line d l = blank-solid line l
word-stops (Space ∷ ps) line d (gap, text, rest, g, (b, t, s), e, l) = rw (e, s) (gap-solid gap rest b g t)
word-stops (Text t ∷ ps) line d l = absurd d
word-stops (Number t ∷ ps) line d l = absurd d
word-stops (Whole t ∷ ps) line d l = absurd d
word-stops (Process t ∷ ps) line d l = absurd d
word-stops (Register t ∷ ps) line d l = absurd d

solid-not : (b : ℕ) (t : Bool) → is_blank b ≡ t → is_solid b ≡ true → is_blank b ≡ false
solid-not b true e h = let none : false ≡ true = rw e at h in absurd (false-not none)
solid-not b false e h = e

-- A word is read.
pub record Words (text : List ℕ) (ps : List Piece) (line : List ℕ) : Type 0 where
  pub word : word_at (after_blanks line) ≡ text
  pub lies : Lies ps (after_word (after_blanks line))

pub word-stands : (text : List ℕ) (ps : List Piece) (line : List ℕ) → is_word text ≡ true → Parts ps → Lies (Text text ∷ ps) line → Words text ps line
word-stands [] ps line w d l = absurd (false-not w)
word-stands (b ∷ text) ps line w d (gap, t, rest, g, s, e, l) =
    let a : AreAll is_solid (b ∷ text) = word-solid (b ∷ text) w in
    let k : Token (Text (b ∷ text)) ps line b text = token (Text (b ∷ text)) ps line gap text rest b g (solid-not b (is_blank b) refl (a.0)) (rw s at e) l in
    let f : (word_at ((b ∷ text) ++ k.rest) ≡ b ∷ text) × (after_word ((b ∷ text) ++ k.rest) ≡ k.rest) = word-found (b ∷ text) k.rest a (word-stops ps k.rest d k.lies) in
    record { word = rw k.front (f.0); lies = rw (k.front, f.1) k.lies }

-- A verb and its operands are read after a blank, by a table of texts, of rows and of what is built.
spoken-any : {W V : Type 0} (text : W → List ℕ) (ks : List Kind) (made : Arguments ks → V) (built : W → Bool) (all : List W) (rows : W → VerbRow V) (w : W) (ops : Operands ks) (line : List ℕ)
    (o : Out)
    → find (λ x. bytes_eq (text w) (text x)) all ≡ Some w → is_word (text w) ≡ true → rows w ≡ row ks made → IsRow ks → built w ≡ true → AreOperands ks ops → AreBuiltOperands ks ops
    → Lies (Space ∷ Text (text w) ∷ operands_pieces ks ops) line
    → Any (then_read (gap_at line) (λ rest. then_read (find (λ x. bytes_eq (word_at (after_blanks rest)) (text x)) all)
    (λ x. cond (built x) (row_run (rows x) (after_word (after_blanks rest)) o) None)))
spoken-any {W} {V} text ks made built all rows w ops line o found solid same last b a c l =
    let g : Gap (Text (text w) ∷ operands_pieces ks ops) line = gap-found (Text (text w) ∷ operands_pieces ks ops) line l in
    let f : Words (text w) (operands_pieces ks ops) g.rest = word-stands (text w) (operands_pieces ks ops) g.rest solid (operands-part ks ops) g.lies in
    let v : (x : V × Out) × (row_run (row ks made) (after_word (after_blanks g.rest)) o ≡ Some x) = row-any ks made ops (after_word (after_blanks g.rest)) o last a c f.lies in
    (v.0, rw (g.found, f.word, found, b, same) (v.1))

process-any : (w : Word) (ops : Operands (kinds_of w)) (line : List ℕ) (o : Out) → is_built w ≡ true → AreOperands (kinds_of w) ops → AreBuiltOperands (kinds_of w) ops
    → Lies (Space ∷ Text (text_of w) ∷ operands_pieces (kinds_of w) ops) line → Any (process_run line o)
process-any w ops line o b a c l = spoken-any text_of (kinds_of w) (verb_with w) is_built all_words row_of w ops line o (named-so w) (text-word w) (row-is w) (word-row w) b a c l

system-any : (w : SysWord) (ops : Operands (sys_kinds_of w)) (line : List ℕ) (o : Out) → is_sys_built w ≡ true → AreOperands (sys_kinds_of w) ops → AreBuiltOperands (sys_kinds_of w) ops
    → Lies (Space ∷ Text (sys_text_of w) ∷ operands_pieces (sys_kinds_of w) ops) line → Any (system_run line o)
system-any w ops line o b a c l = spoken-any sys_text_of (sys_kinds_of w) (sys_verb_with w) is_sys_built all_sys_words sys_row_of w ops line o
    (sys_named-so w) (sys-text-word w) (sys-row-is w) (sys_word-row w) b a c l

pub silent-found : (line : List ℕ) → IsSilent line → is_silent (after_blanks line) ≡ true
silent-found [] h = refl
silent-found (b ∷ bytes) (inl e) = rw e refl
silent-found (b ∷ bytes) (inr h) = rw (h.0) (silent-found bytes (h.1))

process-line : (n : ℕ) (w : Word) (ops : Operands (kinds_of w)) (line : List ℕ) (o : Out) → n < NUMBERS → is_built w ≡ true → AreOperands (kinds_of w) ops → AreBuiltOperands (kinds_of w) ops
    → Lies (Number n ∷ Space ∷ Text (text_of w) ∷ operands_pieces (kinds_of w) ops) line → Any (line_run line o)
process-line n w ops line o h b a c l =
    let f : Numbers GREATEST n (Space ∷ Text (text_of w) ∷ operands_pieces (kinds_of w) ops) line
    = number-stands GREATEST n (Space ∷ Text (text_of w) ∷ operands_pieces (kinds_of w) ops) line (omega arith) tt l in
    let v : (x : Verb × Out) × (process_run f.rest o ≡ Some x) = process-any w ops f.rest o b a c f.lies in
    ((command.Process n (v.0.0), v.0.1), rw (number-loud GREATEST n (Space ∷ Text (text_of w) ∷ operands_pieces (kinds_of w) ops) line f, f.read, v.1) refl)

system-line : (w : SysWord) (ops : Operands (sys_kinds_of w)) (line : List ℕ) (o : Out) → is_sys_built w ≡ true → AreOperands (sys_kinds_of w) ops → AreBuiltOperands (sys_kinds_of w) ops
    → Lies (Text (codes "sys") ∷ Space ∷ Text (sys_text_of w) ∷ operands_pieces (sys_kinds_of w) ops) line → Any (line_run line o)
system-line w ops line o b a c (gap, text, rest, g, s, e, l) =
    let k : Token (Text (codes "sys")) (Space ∷ Text (sys_text_of w) ∷ operands_pieces (sys_kinds_of w) ops) line 115 (codes "ys")
    = token (Text (codes "sys")) (Space ∷ Text (sys_text_of w) ∷ operands_pieces (sys_kinds_of w) ops) line gap (codes "ys") rest 115 g refl (rw s at e) l in
    let v : (x : SysVerb × Out) × (system_run k.rest o ≡ Some x) = system-any w ops k.rest o b a c k.lies in
    ((command.System (v.0.0), v.0.1), rw (k.front, v.1) refl)

-- A line that says a built command is read.
pub line-any : (line : List ℕ) (w : Written) (o : Out) → Says line w → IsBuilt w → Any (line_run line o)
line-any line Nothing o s b = ((command.Nothing, o), rw (silent-found line s.spelled) refl)
line-any line (OfProcess n w ops) o s b = process-line n w ops line o (s.allowed.0) (b.0) (s.allowed.1) (b.1) s.spelled
line-any line (OfSystem w ops) o s b = system-line w ops line o (b.0) s.allowed (b.1) s.spelled
