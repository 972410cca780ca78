-- A whole line says one built command at most.
use Rattle.std.proofs.Common.{◌≡◌, ℕ, ◌<◌, ◌≤◌, true, false, List, [], ◌∷◌, ◌++◌, Option, Some, None, codes, refl, sym, ◌∙◌, ap, subst, arith}
use Rattle.script_parse.specs.declared.numbers.TheConstants.{GREATEST, LAST_REGISTER}
use Rattle.script_grammar.specs.declared.limits.TheConstants.{LEVELS, NUMBERS, REGISTERS}
use Rattle.script_grammar.specs.Written.{Kind, OperandOf, Operands, text_of, kinds_of, sys_text_of, sys_kinds_of}
use Rattle.script_grammar.specs.Written.Kind.{Slot, Count, Receiver, Title, Environment, Extent, Body}
use Rattle.script_grammar.specs.Written.Written.{Nothing, OfProcess, OfSystem}
use Rattle.script_grammar.specs.declared.word.Word.{Word}
use Rattle.script_grammar.specs.declared.word.SysWord.{SysWord}
use Rattle.script_grammar.specs.Grammar.{IsSilent, SaysOne, Piece, Lies, term_pieces, held_pieces, operand_pieces, operands_pieces, IsOperand, IsBuiltOperand, AreOperands, AreBuiltOperands}
use Rattle.script_grammar.specs.Grammar.Piece.{Space, Text, Number}
use Rattle.script_parse.specs.Reading.{after_blanks, number_at, receiver_at, title_at, extent_at, held_at, after_word, word_named, sys_word_named, is_silent}
use Rattle.script_parse.proofs.Stepwise.Tools.{inside, both, false-not, none-some}
use Rattle.script_parse.proofs.Stepwise.GapSteps.{Gap, gap-found, Divides, Token, token}
use Rattle.script_parse.proofs.Stepwise.NumberSteps.{Numbers, number-stands, number-loud}
use Rattle.script_parse.proofs.Stepwise.Tables.{named-so, sys_named-so, is_word, text-word, sys-text-word}
use Rattle.script_parse.proofs.OfLines.LineSound.{pair-same}
use Rattle.script_parse.proofs.OfLines.LineComplete.{Fronts, number-fronts, receiver-fronts, title-fronts, extent-fronts, held-fronts, held-spaced, no-held, held-divide, MayFollow, row-follows, row-rest, IsRow, word-row, sys_word-row, Words, word-stands, Parts, operands-part, operands-divide, silent-found}
use Rattle.script_parse.proofs.OfTerms.OneReading.{term-same}
use Rattle.script_parse.proofs.OfTerms.Divided.{Each, each-of-all, Same}

-- A space read twice leaves the same rest.
pub record TwiceGap (ps qs : List Piece) (line : List ℕ) : Type 0 where
  pub rest : List ℕ
  pub left : Lies ps rest
  pub right : Lies qs rest

gap-twice : (ps qs : List Piece) (line : List ℕ) → Lies (Space ∷ ps) line → Lies (Space ∷ qs) line → TwiceGap ps qs line
gap-twice ps qs line k l = let x : Gap ps line = gap-found ps line k in let y : Gap qs line = gap-found qs line l in
    let e : y.rest ≡ x.rest = inside (sym y.found ∙ x.found) in
    let P : List ℕ → Type 0 = λ z. Lies qs z in
    record { rest = x.rest; left = x.lies; right = subst P e y.lies }

-- A number read twice is one.
pub record TwiceNumber (n m : ℕ) (ps qs : List Piece) : Type 0 where
  pub same : n ≡ m
  pub rest : List ℕ
  pub left : Lies ps rest
  pub right : Lies qs rest

number-twice : (limit n m : ℕ) (ps qs : List Piece) (line : List ℕ) → n ≤ limit → m ≤ limit → Divides ps → Divides qs → Lies (Number n ∷ ps) line → Lies (Number m ∷ qs) line → TwiceNumber n m ps qs
number-twice limit n m ps qs line h i d e k l = let x : Numbers limit n ps line = number-stands limit n ps line h d k in let y : Numbers limit m qs line = number-stands limit m qs line i e l in
    let j : (n ≡ m) × (x.rest ≡ y.rest) = both (sym x.read ∙ y.read) in
    let P : List ℕ → Type 0 = λ z. Lies qs z in
    record { same = j.0; rest = x.rest; left = x.lies; right = subst P (sym (j.1)) y.lies }

-- An operand read twice is one.
plain-twice : {A : Type 0} (front : List ℕ → Option (A × List ℕ)) (x y : A) (ps qs : List Piece) (line : List ℕ) → Fronts front x ps line → Fronts front y qs line
    → (x ≡ y) × (rest : List ℕ) × Lies ps rest × Lies qs rest
plain-twice front x y ps qs line f g = let same : f.start ≡ g.start = inside (sym f.gap ∙ g.gap) in
    let j : (x ≡ y) × (f.rest ≡ g.rest) = both (sym f.read ∙ (ap (λ (z : List ℕ). front (after_blanks z)) same ∙ g.read)) in
    let P : List ℕ → Type 0 = λ z. Lies qs z in
    (j.0, f.rest, f.lies, subst P (sym (j.1)) g.lies)

-- Held registers at the end of a line, read twice, are the same.
held-same : (rs ss : List ℕ) (line : List ℕ) → Each (λ r. r < REGISTERS) rs → Each (λ r. r < REGISTERS) ss → Lies (held_pieces rs []) line → Lies (held_pieces ss []) line
    → (rs ≡ ss) × (rest : List ℕ) × Lies [] rest
held-same [] [] line a b k l = (refl, line, k)
held-same [] (s ∷ ss) line a b k l = let g : Fronts held_at s (held_pieces ss []) line = held-fronts s (held_pieces ss []) line (b.0) (held-divide ss) l in
    absurd (none-some (sym (no-held line k) ∙ held-spaced s (held_pieces ss []) line g))
held-same (r ∷ rs) [] line a b k l = let f : Fronts held_at r (held_pieces rs []) line = held-fronts r (held_pieces rs []) line (a.0) (held-divide rs) k in
    absurd (none-some (sym (no-held line l) ∙ held-spaced r (held_pieces rs []) line f))
held-same (r ∷ rs) (s ∷ ss) line a b k l =
    let t : (r ≡ s) × (rest : List ℕ) × Lies (held_pieces rs []) rest × Lies (held_pieces ss []) rest
    = plain-twice held_at r s (held_pieces rs []) (held_pieces ss []) line (held-fronts r (held_pieces rs []) line (a.0) (held-divide rs) k)
    (held-fronts s (held_pieces ss []) line (b.0) (held-divide ss) l) in
    let m : (rs ≡ ss) × (rest : List ℕ) × Lies [] rest = held-same rs ss (t.1) (a.1) (b.1) (t.2) (t.3) in
    (ap (λ (z : ℕ). z ∷ rs) (t.0) ∙ ap (λ (z : List ℕ). s ∷ z) (m.0), m.1, m.2)

operand-same : (k : Kind) (x y : OperandOf k) (ps qs : List Piece) (line : List ℕ) → Divides ps → Divides qs → MayFollow k ps → MayFollow k qs
    → IsOperand k x → IsOperand k y → IsBuiltOperand k x → IsBuiltOperand k y
    → Lies (operand_pieces k x ps) line → Lies (operand_pieces k y qs) line → (x ≡ y) × (rest : List ℕ) × Lies ps rest × Lies qs rest
operand-same Slot x y ps qs line d e v w a b f g k l
    = plain-twice (number_at LAST_REGISTER) x y ps qs line (number-fronts LAST_REGISTER x ps line (omega arith) d k) (number-fronts LAST_REGISTER y qs line (omega arith) e l)
operand-same Count x y ps qs line d e v w a b f g k l
    = plain-twice (number_at GREATEST) x y ps qs line (number-fronts GREATEST x ps line (omega arith) d k) (number-fronts GREATEST y qs line (omega arith) e l)
operand-same Receiver x y ps qs line d e v w a b f g k l = plain-twice receiver_at x y ps qs line (receiver-fronts x ps line a d k) (receiver-fronts y qs line b e l)
operand-same Title x y ps qs line d e v w a b f g k l = plain-twice title_at x y ps qs line (title-fronts x ps line a d k) (title-fronts y qs line b e l)
operand-same Extent x y ps qs line d e v w a b f g k l = plain-twice extent_at x y ps qs line (extent-fronts x ps line k) (extent-fronts y qs line l)
operand-same Environment x y ps qs line d e v w a b f g k l = let P : List ℕ → List Piece → Type 0 = λ rs z. Lies (held_pieces rs z) line in
    let m : (x ≡ y) × (rest : List ℕ) × Lies [] rest = held-same x y line (each-of-all (λ r. r < REGISTERS) x (a.0)) (each-of-all (λ r. r < REGISTERS) y (b.0))
    (subst (P x) v k) (subst (P y) w l) in
    let Q : List Piece → Type 0 = λ z. Lies z (m.1) in
    (m.0, m.1, subst Q (sym v) (m.2), subst Q (sym w) (m.2))
operand-same Body x y ps qs line d e v w a b f g k l = let s : TwiceGap (term_pieces x ps) (term_pieces y qs) line = gap-twice (term_pieces x ps) (term_pieces y qs) line k l in
    let t : Same x y ps qs = term-same LEVELS x y ps qs s.rest d e a b f g s.left s.right in
    (t.same, t.rest, t.left, t.right)
operand-same _ x y ps qs line d e v w a b f g k l = absurd f

-- The operands of a row, read twice, are the same.
pub operands-same : (ks : List Kind) (ops pos : Operands ks) (line : List ℕ) → IsRow ks → AreOperands ks ops → AreOperands ks pos → AreBuiltOperands ks ops → AreBuiltOperands ks pos
    → Lies (operands_pieces ks ops) line → Lies (operands_pieces ks pos) line → ops ≡ pos
operands-same [] ops pos line w a b c d k l = refl
operands-same (kind ∷ ks) ops pos line w a b c d k l =
    let t : (ops.0 ≡ pos.0) × (rest : List ℕ) × Lies (operands_pieces ks (ops.1)) rest × Lies (operands_pieces ks (pos.1)) rest
    = operand-same kind (ops.0) (pos.0) (operands_pieces ks (ops.1)) (operands_pieces ks (pos.1)) line (operands-divide ks (ops.1)) (operands-divide ks (pos.1))
    (row-follows kind ks (ops.1) w) (row-follows kind ks (pos.1) w) (a.0) (b.0) (c.0) (d.0) k l in
    pair-same (ops.0) (pos.0) (ops.1) (pos.1) (t.0) (operands-same ks (ops.1) (pos.1) (t.1) (row-rest kind ks w) (a.1) (b.1) (c.1) (d.1) (t.2) (t.3))

-- A word read twice is one.
pub record TwiceWord {W : Type 0} (w x : W) (ps qs : List Piece) : Type 0 where
  pub same : w ≡ x
  pub rest : List ℕ
  pub left : Lies ps rest
  pub right : Lies qs rest

word-twice : {W : Type 0} (text : W → List ℕ) (find : List ℕ → Option W) (w x : W) (ps qs : List Piece) (line : List ℕ)
    → ((y : W) → find (text y) ≡ Some y) → ((y : W) → is_word (text y) ≡ true) → Parts ps → Parts qs
    → Lies (Space ∷ Text (text w) ∷ ps) line → Lies (Space ∷ Text (text x) ∷ qs) line → TwiceWord w x ps qs
word-twice text find w x ps qs line named solid d e k l =
    let g : TwiceGap (Text (text w) ∷ ps) (Text (text x) ∷ qs) line = gap-twice (Text (text w) ∷ ps) (Text (text x) ∷ qs) line k l in
    let f : Words (text w) ps g.rest = word-stands (text w) ps g.rest (solid w) d g.left in
    let h : Words (text x) qs g.rest = word-stands (text x) qs g.rest (solid x) e g.right in
    let i : find (text w) ≡ find (text x) = ap find (sym f.word ∙ h.word) in
    record { same = inside (sym (named w) ∙ (i ∙ named x)); rest = after_word (after_blanks g.rest); left = f.lies; right = h.lies }

process-same : (n m : ℕ) (w x : Word) (ops : Operands (kinds_of w)) (pos : Operands (kinds_of x)) (line : List ℕ) → n < NUMBERS → m < NUMBERS
    → AreOperands (kinds_of w) ops → AreOperands (kinds_of x) pos → AreBuiltOperands (kinds_of w) ops → AreBuiltOperands (kinds_of x) pos
    → Lies (Number n ∷ Space ∷ Text (text_of w) ∷ operands_pieces (kinds_of w) ops) line → Lies (Number m ∷ Space ∷ Text (text_of x) ∷ operands_pieces (kinds_of x) pos) line
    → OfProcess n w ops ≡ OfProcess m x pos
process-same n m w x ops pos line h i a d e f k l =
    let t : TwiceNumber n m (Space ∷ Text (text_of w) ∷ operands_pieces (kinds_of w) ops) (Space ∷ Text (text_of x) ∷ operands_pieces (kinds_of x) pos)
    = number-twice GREATEST n m (Space ∷ Text (text_of w) ∷ operands_pieces (kinds_of w) ops) (Space ∷ Text (text_of x) ∷ operands_pieces (kinds_of x) pos) line (omega arith)
    (omega arith) tt tt k l in
    let v : TwiceWord w x (operands_pieces (kinds_of w) ops) (operands_pieces (kinds_of x) pos)
    = word-twice text_of word_named w x (operands_pieces (kinds_of w) ops) (operands_pieces (kinds_of x) pos) t.rest named-so text-word (operands-part (kinds_of w) ops)
    (operands-part (kinds_of x) pos) t.left t.right in
    let Q : Word → Type 0 = λ z. (others : Operands (kinds_of z)) → AreOperands (kinds_of z) others → AreBuiltOperands (kinds_of z) others → Lies (operands_pieces (kinds_of z) others) v.rest
    → OfProcess n w ops ≡ OfProcess m z others in
    let start : Q w = λ others p q r. let y : ops ≡ others = operands-same (kinds_of w) ops others v.rest (word-row w) a p e q v.left r in
    ap (λ (z : ℕ). OfProcess z w ops) t.same ∙ ap (λ (z : Operands (kinds_of w)). OfProcess m w z) y in
    subst Q v.same start pos d f v.right

sys-tail : (w : SysWord) (ops : Operands (sys_kinds_of w)) (line : List ℕ) → Lies (Text (codes "sys") ∷ Space ∷ Text (sys_text_of w) ∷ operands_pieces (sys_kinds_of w) ops) line
    → Token (Text (codes "sys")) (Space ∷ Text (sys_text_of w) ∷ operands_pieces (sys_kinds_of w) ops) line 115 (codes "ys")
sys-tail w ops line (gap, text, rest, g, s, e, l) = token (Text (codes "sys")) (Space ∷ Text (sys_text_of w) ∷ operands_pieces (sys_kinds_of w) ops) line gap (codes "ys") rest 115 g refl (rw s at e) l

system-same : (w x : SysWord) (ops : Operands (sys_kinds_of w)) (pos : Operands (sys_kinds_of x)) (line : List ℕ)
    → AreOperands (sys_kinds_of w) ops → AreOperands (sys_kinds_of x) pos → AreBuiltOperands (sys_kinds_of w) ops → AreBuiltOperands (sys_kinds_of x) pos
    → Lies (Text (codes "sys") ∷ Space ∷ Text (sys_text_of w) ∷ operands_pieces (sys_kinds_of w) ops) line
    → Lies (Text (codes "sys") ∷ Space ∷ Text (sys_text_of x) ∷ operands_pieces (sys_kinds_of x) pos) line
    → OfSystem w ops ≡ OfSystem x pos
system-same w x ops pos line a b c d k l =
    let f : Token (Text (codes "sys")) (Space ∷ Text (sys_text_of w) ∷ operands_pieces (sys_kinds_of w) ops) line 115 (codes "ys") = sys-tail w ops line k in
    let g : Token (Text (codes "sys")) (Space ∷ Text (sys_text_of x) ∷ operands_pieces (sys_kinds_of x) pos) line 115 (codes "ys") = sys-tail x pos line l in
    let h : codes "sys" ++ g.rest ≡ codes "sys" ++ f.rest = sym g.front ∙ f.front in
    let i : g.rest ≡ f.rest = cc in
    let P : List ℕ → Type 0 = λ z. Lies (Space ∷ Text (sys_text_of x) ∷ operands_pieces (sys_kinds_of x) pos) z in
    let v : TwiceWord w x (operands_pieces (sys_kinds_of w) ops) (operands_pieces (sys_kinds_of x) pos)
    = word-twice sys_text_of sys_word_named w x (operands_pieces (sys_kinds_of w) ops) (operands_pieces (sys_kinds_of x) pos) f.rest sys_named-so sys-text-word
    (operands-part (sys_kinds_of w) ops) (operands-part (sys_kinds_of x) pos) f.lies (subst P i g.lies) in
    let Q : SysWord → Type 0
    = λ z. (others : Operands (sys_kinds_of z)) → AreOperands (sys_kinds_of z) others → AreBuiltOperands (sys_kinds_of z) others → Lies (operands_pieces (sys_kinds_of z) others) v.rest
    → OfSystem w ops ≡ OfSystem z others in
    let start : Q w = λ others p q r. ap (λ (z : Operands (sys_kinds_of w)). OfSystem w z) (operands-same (sys_kinds_of w) ops others v.rest (sys_word-row w) a p c q v.left r) in
    subst Q v.same start pos b d v.right

-- Lines of two kinds are apart.
silent_process : {A : Type 0} (n : ℕ) (ps : List Piece) (line : List ℕ) → n < NUMBERS → Divides ps → Lies (Number n ∷ ps) line → IsSilent line → A
silent_process n ps line h d l s = let x : Numbers GREATEST n ps line = number-stands GREATEST n ps line (omega arith) d l in
    absurd (false-not (sym (number-loud GREATEST n ps line x) ∙ silent-found line s))

silent_system : {A : Type 0} (w : SysWord) (ops : Operands (sys_kinds_of w)) (line : List ℕ) → Lies (Text (codes "sys") ∷ Space ∷ Text (sys_text_of w) ∷ operands_pieces (sys_kinds_of w) ops) line
    → IsSilent line → A
silent_system w ops line l s = let f : Token (Text (codes "sys")) (Space ∷ Text (sys_text_of w) ∷ operands_pieces (sys_kinds_of w) ops) line 115 (codes "ys") = sys-tail w ops line l in
    let e : false ≡ true = ap is_silent (sym f.front) ∙ silent-found line s in absurd (false-not e)

process_system : {A : Type 0} (n : ℕ) (ps : List Piece) (w : SysWord) (ops : Operands (sys_kinds_of w)) (line : List ℕ) → n < NUMBERS → Divides ps → Lies (Number n ∷ ps) line
    → Lies (Text (codes "sys") ∷ Space ∷ Text (sys_text_of w) ∷ operands_pieces (sys_kinds_of w) ops) line → A
process_system n ps w ops line h d k l = let x : Numbers GREATEST n ps line = number-stands GREATEST n ps line (omega arith) d k in
    let f : Token (Text (codes "sys")) (Space ∷ Text (sys_text_of w) ∷ operands_pieces (sys_kinds_of w) ops) line 115 (codes "ys") = sys-tail w ops line l in
    let e : None ≡ Some (n, x.rest) = ap (number_at GREATEST) (sym f.front) ∙ x.read in absurd (none-some e)

pub one_line : SaysOne
one_line line Nothing Nothing s t b c = refl
one_line line Nothing (OfProcess n w ops) s t b c = silent_process n (Space ∷ Text (text_of w) ∷ operands_pieces (kinds_of w) ops) line (t.allowed.0) tt t.spelled s.spelled
one_line line Nothing (OfSystem w ops) s t b c = silent_system w ops line t.spelled s.spelled
one_line line (OfProcess n w ops) Nothing s t b c = silent_process n (Space ∷ Text (text_of w) ∷ operands_pieces (kinds_of w) ops) line (s.allowed.0) tt s.spelled t.spelled
one_line line (OfProcess n w ops) (OfProcess m x pos) s t b c = process-same n m w x ops pos line (s.allowed.0) (t.allowed.0) (s.allowed.1) (t.allowed.1) (b.1) (c.1) s.spelled t.spelled
one_line line (OfProcess n w ops) (OfSystem x pos) s t b c = process_system n (Space ∷ Text (text_of w) ∷ operands_pieces (kinds_of w) ops) x pos line (s.allowed.0) tt s.spelled t.spelled
one_line line (OfSystem w ops) Nothing s t b c = silent_system w ops line s.spelled t.spelled
one_line line (OfSystem w ops) (OfProcess n x pos) s t b c = process_system n (Space ∷ Text (text_of x) ∷ operands_pieces (kinds_of x) pos) w ops line (t.allowed.0) tt t.spelled s.spelled
one_line line (OfSystem w ops) (OfSystem x pos) s t b c = system-same w x ops pos line s.allowed t.allowed (b.1) (c.1) s.spelled t.spelled
