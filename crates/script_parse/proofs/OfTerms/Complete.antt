-- What is in the grammar and built is read.
use Rattle.std.proofs.Common.{◌≡◌, ℕ, zero, suc, ◌+◌, ◌<◌, ◌≤◌, Bool, true, nat_eq, ℤ, pos, negsuc, List, [], ◌∷◌, ◌++◌, length, Option, Some, None, codes, refl, sym, ◌∙◌, ap, subst, inl, inr, arith}
use Rattle.script_grammar.specs.declared.limits.TheConstants.{NUMBERS, REGISTERS}
use Rattle.script_parse.specs.declared.numbers.TheConstants.{LAST_REGISTER, WIDEST, GREATEST_BYTE}
use Rattle.plain_term.specs.Measures.{magnitude}
use Rattle.plain_term.specs.declared.item.Item.TheVariants as item
use Rattle.script_grammar.specs.Written.{Term}
use Rattle.script_grammar.specs.Written.Term.{Int, Atom, Pid, Held}
use Rattle.script_grammar.specs.Grammar.{is_blank, is_digit, is_small_letter, AreAll, IsNumber, IsName, Piece, Lies, term_pieces, MayStand, IsBuiltTerm}
use Rattle.script_grammar.specs.Grammar.Piece.{Text, Number, Whole, Process, Register}
use Rattle.script_parse.specs.declared.forms.Form.{Form}
use Rattle.script_parse.specs.declared.forms.Form.TheVariants as form
use Rattle.script_parse.specs.Forms.{all_forms, opening, closing, has_tail}
use Rattle.script_parse.specs.Output.{Out, push, begun, led, ended, put}
use Rattle.script_parse.specs.Reading.{then_read, after_blanks, text_at, number_at, integer_at, atom_at, leaf_at, parts_run, pair_run, part_run, end_run, form_in, form_run, any_run, term_run}
use Rattle.script_parse.proofs.Stepwise.Tools.{unequal, not-blank, apart, far_from}
use Rattle.script_parse.proofs.Stepwise.TermSteps.{term-leaf, letter-run, digit-not-letter}
use Rattle.script_parse.proofs.Stepwise.GapSteps.{Token, token, Divides, stops}
use Rattle.script_parse.proofs.Stepwise.NumberSteps.{Begun, begun as number_begun, stops-digits, number-found, integer-found, pid-found, pid-text, Numbers, number-stands}
use Rattle.script_parse.proofs.Stepwise.AtomSteps.{atom-found}
use Rattle.script_parse.proofs.OfTerms.Divided.{Each, more_of, parts_of, more-divides, put_each, Mark, Opened, opened, mark-divides, DonePart, DoneParts, parts-done}
use Rattle.script_parse.proofs.OfTerms.FormRows.{PartOf, pair_pieces, part_pieces, part_put, IsPair, IsPart, end_pieces, end_put, CanEnd, IsEnd, end-divides, end-no-comma, closing-no_bar, IsLeaf, leaf-or-made, made, made-pieces, made-put, made-are, made_level, opening-mark, closing-mark, form-found, opening-no-end, marks, unmarked, pid-closes-none}

-- A term without parts of the grammar is read, no form is opened or closed there, and the pieces after it stand in the rest.
pub record DoneLeaf (t : Term) (ps : List Piece) (line : List ℕ) : Type 0 where
  pub rest : List ℕ
  pub read : leaf_at (after_blanks line) ≡ Some (t, rest)
  pub lies : Lies ps rest
  pub shorter : length rest < length line
  pub no_form : form_in all_forms (after_blanks line) ≡ None
  pub no_end : (f : Form) → text_at (closing f) (after_blanks line) ≡ None

-- The bytes that a leaf of a kind begins with begin no other form.
digit-run : (b : ℕ) (bytes : List ℕ) → is_digit b ≡ true → leaf_at (b ∷ bytes) ≡ then_read {B = Term × List ℕ} (integer_at (b ∷ bytes)) (λ r. Some (Int (r.0), r.1))
digit-run b bytes h = rw (unequal b 60 (apart is_digit b 60 refl h), unequal b 36 (apart is_digit b 36 refl h), digit-not-letter b h) refl

-- A leaf that begins with a byte of a kind that opens and closes nothing.
leaf-done : (t : Term) (ps : List Piece) (line : List ℕ) (p : ℕ → Bool) (b : ℕ) (text rest : List ℕ) → far_from p marks ≡ true → p b ≡ true → after_blanks line ≡ b ∷ (text ++ rest)
    → leaf_at (b ∷ (text ++ rest)) ≡ Some (t, rest) → Lies ps rest → length rest < length line → DoneLeaf t ps line
leaf-done t ps line p b text rest h e front read l s = let k = unmarked p b (text ++ rest) h e in
    record { rest = rest; read = ap leaf_at front ∙ read; lies = l; shorter = s; no_form = ap (form_in all_forms) front ∙ k.0; no_end = λ f. ap (text_at (closing f)) front ∙ k.1 f }

-- An integer.
unsigned-done : (n : ℕ) (ps : List Piece) (line gap text rest : List ℕ) → AreAll is_blank gap → IsNumber n text → line ≡ gap ++ (text ++ rest)
    → Lies ps rest → Divides ps → n ≤ WIDEST → DoneLeaf (Int (pos n)) ps line
unsigned-done n ps line gap text rest g i e l d within =
    let b : Begun text = number_begun n text i in
    let whole : line ≡ gap ++ ((b.first ∷ b.more) ++ rest) = rw b.whole at e in
    let number : IsNumber n (b.first ∷ b.more) = rw b.whole at i in
    let k : Token (Whole (pos n)) ps line b.first b.more = token (Whole (pos n)) ps line gap b.more rest b.first g (not-blank is_digit b.first refl refl b.digit) whole l in
    let f : integer_at ((b.first ∷ b.more) ++ k.rest) ≡ Some (pos n, k.rest) = integer-found (pos n) (b.first ∷ b.more) k.rest number within (stops-digits k.rest (stops ps k.rest d k.lies)) in
    leaf-done (Int (pos n)) ps line is_digit b.first b.more k.rest refl b.digit k.front (digit-run b.first (b.more ++ k.rest) b.digit ∙ rw f refl) k.lies k.shorter

signed-done : (m : ℕ) (ps : List Piece) (line gap digits rest : List ℕ) → AreAll is_blank gap → IsNumber (m + 1) digits → line ≡ gap ++ ((45 ∷ digits) ++ rest)
    → Lies ps rest → Divides ps → m + 1 ≤ WIDEST → DoneLeaf (Int (negsuc m)) ps line
signed-done m ps line gap digits rest g i e l d within =
    let k : Token (Whole (negsuc m)) ps line 45 digits = token (Whole (negsuc m)) ps line gap digits rest 45 g refl e l in
    let f : integer_at ((45 ∷ digits) ++ k.rest) ≡ Some (negsuc m, k.rest) = integer-found (negsuc m) (45 ∷ digits) k.rest (digits, i, refl) within (stops-digits k.rest (stops ps k.rest d k.lies)) in
    leaf-done (Int (negsuc m)) ps line (λ b. nat_eq b 45) 45 digits k.rest refl refl k.front (rw f refl) k.lies k.shorter

integer-done : (i : ℤ) (ps : List Piece) (line : List ℕ) → Divides ps → magnitude i ≤ WIDEST → Lies (Whole i ∷ ps) line → DoneLeaf (Int i) ps line
integer-done (pos n) ps line d within (gap, text, rest, g, i, e, l) = unsigned-done n ps line gap text rest g i e l d within
integer-done (negsuc m) ps line d within (gap, text, rest, g, (digits, i, s), e, l) = signed-done m ps line gap digits rest g i (rw s at e) l d within

-- An atom.
atom-done : (a : List ℕ) (ps : List Piece) (line : List ℕ) → Divides ps → IsName a → Lies (Text a ∷ ps) line → DoneLeaf (Atom a) ps line
atom-done [] ps line d h l = absurd h
atom-done (b ∷ bytes) ps line d h (gap, text, rest, g, s, e, l) =
    let k : Token (Text (b ∷ bytes)) ps line b bytes = token (Text (b ∷ bytes)) ps line gap bytes rest b g (not-blank is_small_letter b refl refl (h.0)) (rw s at e) l in
    let f : atom_at ((b ∷ bytes) ++ k.rest) ≡ Some (b ∷ bytes, k.rest) = atom-found (b ∷ bytes) k.rest h (stops ps k.rest d k.lies) in
    leaf-done (Atom (b ∷ bytes)) ps line is_small_letter b bytes k.rest refl (h.0) k.front (letter-run b (bytes ++ k.rest) (h.0) ∙ rw f refl) k.lies k.shorter

-- A pid.
pid-done : (n : ℕ) (ps : List Piece) (line : List ℕ) → 1 ≤ n → n < NUMBERS → Lies (Process n ∷ ps) line → DoneLeaf (Pid n) ps line
pid-done n ps line some within (gap, text, rest, g, (digits, i, s), e, l) =
    let k : Token (Process n) ps line 60 (codes "0." ++ (digits ++ codes ".0>")) = token (Process n) ps line gap (codes "0." ++ (digits ++ codes ".0>")) rest 60 g refl (rw s at e) l in
    let front : after_blanks line ≡ 60 ∷ (codes "0." ++ (digits ++ (codes ".0>" ++ k.rest))) = k.front ∙ sym (pid-text digits k.rest) in
    record {
      rest = k.rest;
      read = rw (front, pid-found n digits k.rest i some within) refl;
      lies = k.lies;
      shorter = k.shorter;
      no_form = rw front refl;
      no_end = λ f. ap (text_at (closing f)) front ∙ pid-closes-none f (codes "0." ++ (digits ++ (codes ".0>" ++ k.rest)));
    }

-- A register.
held-done : (r : ℕ) (ps : List Piece) (line : List ℕ) → Divides ps → r < REGISTERS → Lies (Register r ∷ ps) line → DoneLeaf (Held r) ps line
held-done r ps line d within (gap, text, rest, g, (digits, i, s), e, l) =
    let k : Token (Register r) ps line 36 digits = token (Register r) ps line gap digits rest 36 g refl (rw s at e) l in
    let f : number_at LAST_REGISTER (digits ++ k.rest) ≡ Some (r, k.rest) = number-found LAST_REGISTER r digits k.rest i (omega (arith, within)) (stops-digits k.rest (stops ps k.rest d k.lies)) in
    leaf-done (Held r) ps line (λ b. nat_eq b 36) 36 digits k.rest refl refl k.front (rw f refl) k.lies k.shorter

pub leaf-of-grammar : (t : Term) (levels : ℕ) (ps : List Piece) (line : List ℕ) → IsLeaf t → Divides ps → MayStand levels t → IsBuiltTerm t → Lies (term_pieces t ps) line → DoneLeaf t ps line
leaf-of-grammar (Int i) levels ps line h d m b l = integer-done i ps line d (omega (arith, m)) l
leaf-of-grammar (Atom a) levels ps line h d m b l = atom-done a ps line d m l
leaf-of-grammar (Pid n) levels ps line h d m b l = pid-done n ps line (m.0) (m.1) l
leaf-of-grammar (Held r) levels ps line h d m b l = held-done r ps line d m l
leaf-of-grammar _ levels ps line h d m b l = absurd h

-- A term of the grammar is read, no form is closed there, and the pieces after it stand in the rest.
pub record Done (levels : ℕ) (t : Term) (ps : List Piece) (line : List ℕ) (o : Out) : Type 0 where
  pub rest : List ℕ
  pub read : term_run levels line o ≡ Some (rest, put t o)
  pub lies : Lies ps rest
  pub shorter : length rest < length line
  pub no_end : (f : Form) → text_at (closing f) (after_blanks line) ≡ None

-- With so many levels terms of the grammar are read.
abbrev pub AreDone : (levels : ℕ) → Type 0
AreDone levels = (t : Term) (ps : List Piece) (line : List ℕ) (o : Out) → Divides ps → MayStand levels t → IsBuiltTerm t → Lies (term_pieces t ps) line → Done levels t ps line o

-- The end of a form where it has no parts, and a part where it has some.
form-empty : (inner : List ℕ → Out → Option (List ℕ × Out)) (f : Form) (line rest : List ℕ) (o : Out) → text_at (closing f) (after_blanks line) ≡ Some rest
    → form_run inner f line o ≡ Some (rest, ended f (length o.items) 0 (begun f o))
form-empty inner f line rest o e = rw e refl

form-full : (inner : List ℕ → Out → Option (List ℕ × Out)) (f : Form) (line mid rest : List ℕ) (o : Out) (n : ℕ) (q p : Out) → text_at (closing f) (after_blanks line) ≡ None
    → parts_run (part_run inner f) (length line + 1) line 0 (begun f o) ≡ Some (mid, (n + 0, q)) → end_run inner f (length o.items) n mid q ≡ Some (rest, p)
    → form_run inner f line o ≡ Some (rest, p)
form-full inner f line mid rest o n q p e r g = let same : n + 0 ≡ n = omega arith in rw (e, r, same) g

-- A last tail, and then what closes its form.
tail-found : (inner : List ℕ → Out → Option (List ℕ × Out)) (f : Form) (at n : ℕ) (line bytes mid rest : List ℕ) (o p : Out) → after_blanks line ≡ codes "|" ++ bytes → has_tail f ≡ true
    → inner bytes o ≡ Some (mid, p) → text_at (closing f) (after_blanks mid) ≡ Some rest → end_run inner f at n line o ≡ Some (rest, p)
tail-found inner f at n line bytes mid rest o p e t h g = rw (e, closing-no_bar f bytes, t, h, g) refl

-- What closes a form.
pub closing-opened : (f : Form) (ps : List Piece) (line : List ℕ) → Lies (Text (closing f) ∷ ps) line → Opened (closing f) ps line
closing-opened f ps line l = let m : Mark (closing f) = closing-mark f in opened (closing f) m.first m.more ps line m.is m.solid l

-- The end of a form of the grammar is read.
pub record DoneEnd (levels : ℕ) (f : Form) (e : Option Term) (at n : ℕ) (ps : List Piece) (line : List ℕ) (o : Out) : Type 0 where
  pub rest : List ℕ
  pub read : end_run (term_run levels) f at n line o ≡ Some (rest, end_put f e at n o)
  pub lies : Lies ps rest
  pub shorter : length rest < length line

end-done : (levels : ℕ) → AreDone levels → (f : Form) (e : Option Term) (at n : ℕ) (ps : List Piece) (line : List ℕ) (o : Out) → IsEnd levels n f e → Lies (end_pieces f e ps) line
    → DoneEnd levels f e at n ps line o
end-done levels ih f None at n ps line o is l = let k : Opened (closing f) ps line = closing-opened f ps line l in
    record { rest = k.rest; read = rw k.found refl; lies = k.lies; shorter = k.shorter }
end-done levels ih f (Some t) at n ps line o is l =
    let b : Opened (codes "|") (term_pieces t (Text (closing f) ∷ ps)) line = opened (codes "|") 124 [] (term_pieces t (Text (closing f) ∷ ps)) line refl refl l in
    let v : Done levels t (Text (closing f) ∷ ps) b.rest o = ih t (Text (closing f) ∷ ps) b.rest o (mark-divides (closing f) ps (closing-mark f)) (is.2.0) (is.2.1) b.lies in
    let k : Opened (closing f) ps v.rest = closing-opened f ps v.rest v.lies in
    record {
      rest = k.rest;
      read = tail-found (term_run levels) f at n line b.rest v.rest k.rest o (put t o) b.front (is.0) v.read k.found;
      lies = k.lies;
      shorter = omega (arith, b.shorter, v.shorter, k.shorter);
    }

pub record DoneForm (levels : ℕ) (f : Form) (xs : List (PartOf f)) (e : Option Term) (ps : List Piece) (line : List ℕ) (o : Out) : Type 0 where
  pub rest : List ℕ
  pub read : form_run (term_run levels) f line o ≡ Some (rest, end_put f e (length o.items) (length xs) (put_each (part_put f) xs (begun f o)))
  pub lies : Lies ps rest
  pub shorter : length rest < length line

-- A pair of the grammar is read, and no form is closed where it begins.
pair-found : (inner : List ℕ → Out → Option (List ℕ × Out)) (line mid bytes rest : List ℕ) (o q p : Out) → inner line o ≡ Some (mid, q) → text_at (codes "=>") (after_blanks mid) ≡ Some bytes
    → inner bytes q ≡ Some (rest, p) → pair_run inner line o ≡ Some (rest, p)
pair-found inner line mid bytes rest o q p h e g = rw (h, e) g

pair-done : (levels : ℕ) → AreDone levels → (q : Term × Term) (ps : List Piece) (line : List ℕ) (o : Out) → Divides ps → IsPair levels q → Lies (pair_pieces q ps) line
    → DonePart (part_put form.Map) (part_run (term_run levels) form.Map) q ps line o × ((g : Form) → text_at (closing g) (after_blanks line) ≡ None)
pair-done levels ih q ps line o d is l =
    let k : Done levels (q.0) (Text (codes "=>") ∷ term_pieces (q.1) ps) line o = ih (q.0) (Text (codes "=>") ∷ term_pieces (q.1) ps) line o refl (is.0.0) (is.0.1) l in
    let a : Opened (codes "=>") (term_pieces (q.1) ps) k.rest = opened (codes "=>") 61 (codes ">") (term_pieces (q.1) ps) k.rest refl refl k.lies in
    let v : Done levels (q.1) ps a.rest (put (q.0) o) = ih (q.1) ps a.rest (put (q.0) o) d (is.1.0) (is.1.1) a.lies in (
      record {
        rest = v.rest;
        read = pair-found (term_run levels) line k.rest a.rest v.rest o (put (q.0) o) (put (q.1) (put (q.0) o)) k.read a.found v.read;
        lies = v.lies;
        shorter = omega (arith, k.shorter, a.shorter, v.shorter);
      },
      k.no_end,
    )

-- So is a byte of a binary.
byte-read : (inner : List ℕ → Out → Option (List ℕ × Out)) (line rest : List ℕ) (o : Out) (b : ℕ) → number_at GREATEST_BYTE (after_blanks line) ≡ Some (b, rest)
    → part_run inner form.Binary line o ≡ Some (rest, push o (item.Byte b))
byte-read inner line rest o b h = rw h refl

byte-done : (levels b : ℕ) (ps : List Piece) (line : List ℕ) (o : Out) → Divides ps → b < 256 → Lies (Number b ∷ ps) line
    → DonePart (part_put form.Binary) (part_run (term_run levels) form.Binary) b ps line o × ((g : Form) → text_at (closing g) (after_blanks line) ≡ None)
byte-done levels b ps line o d h l = let k : Numbers GREATEST_BYTE b ps line = number-stands GREATEST_BYTE b ps line (omega arith) d l in (
  record { rest = k.rest; read = byte-read (term_run levels) line k.rest o b k.read; lies = k.lies; shorter = k.shorter },
  λ g. ap (text_at (closing g)) k.front ∙ (unmarked is_digit k.first k.more refl k.digit).1 g,
)

-- A part of the grammar is read, and no form is closed where it begins.
pub part-done : (levels : ℕ) → AreDone levels → (f : Form) (x : PartOf f) (ps : List Piece) (line : List ℕ) (o : Out) → Divides ps → IsPart levels f x → Lies (part_pieces f x ps) line
    → DonePart (part_put f) (part_run (term_run levels) f) x ps line o × ((g : Form) → text_at (closing g) (after_blanks line) ≡ None)
part-done levels ih form.List x ps line o d is l = let k : Done levels x ps line (led form.List o) = ih x ps line (led form.List o) d (is.0) (is.1) l in
    (record { rest = k.rest; read = k.read; lies = k.lies; shorter = k.shorter }, k.no_end)
part-done levels ih form.Tuple x ps line o d is l = let k : Done levels x ps line (led form.Tuple o) = ih x ps line (led form.Tuple o) d (is.0) (is.1) l in
    (record { rest = k.rest; read = k.read; lies = k.lies; shorter = k.shorter }, k.no_end)
part-done levels ih form.Map x ps line o d is l = pair-done levels ih x ps line o d is l
part-done levels ih form.Binary x ps line o d is l = byte-done levels x ps line o d is l

form-done : (levels : ℕ) → AreDone levels → (f : Form) (xs : List (PartOf f)) (e : Option Term) (ps : List Piece) (line : List ℕ) (o : Out) → Each (IsPart levels f) xs → IsEnd levels (length xs) f e
    → Lies (parts_of (part_pieces f) xs (end_pieces f e ps)) line → DoneForm levels f xs e ps line o
form-done levels ih f [] None ps line o is i l = let k : Opened (closing f) ps line = closing-opened f ps line l in
    record { rest = k.rest; read = form-empty (term_run levels) f line k.rest o k.found; lies = k.lies; shorter = k.shorter }
form-done levels ih f [] (Some t) ps line o is i l = absurd (omega (arith, i.1))
form-done levels ih f (x ∷ xs) e ps line o is i l =
    let none : text_at (closing f) (after_blanks line) ≡ None
    = (part-done levels ih f x (more_of (part_pieces f) xs (end_pieces f e ps)) line o (more-divides (part_pieces f) xs (end_pieces f e ps) (end-divides f e ps)) (is.0) l).1 f in
    let q : DoneParts (part_put f) (part_run (term_run levels) f) (x ∷ xs) (end_pieces f e ps) (length line + 1) line 0 (begun f o)
    = parts-done (part_pieces f) (part_put f) (IsPart levels f) (part_run (term_run levels) f) (λ y qs mid p d s k. (part-done levels ih f y qs mid p d s k).0) x xs (end_pieces f e ps)
    (length line + 1) line 0 (begun f o) (end-divides f e ps) (end-no-comma f e ps) (omega arith) is l in
    let p : Out = put_each (part_put f) (x ∷ xs) (begun f o) in
    let k : DoneEnd levels f e (length o.items) (length (x ∷ xs)) ps q.rest p = end-done levels ih f e (length o.items) (length (x ∷ xs)) ps q.rest p i q.lies in
    record {
      rest = k.rest;
      read = form-full (term_run levels) f line q.rest k.rest o (length (x ∷ xs)) p (end_put f e (length o.items) (length (x ∷ xs)) p) none q.read k.read;
      lies = k.lies;
      shorter = omega (arith, q.shorter, k.shorter);
    }

-- The pieces after what opens a form.
pub form-opened : (f : Form) (xs : List (PartOf f)) (e : Option Term) (ps : List Piece) (line : List ℕ) → CanEnd f e → Lies (term_pieces (made f xs e) ps) line
    → Opened (opening f) (parts_of (part_pieces f) xs (end_pieces f e ps)) line
form-opened f xs e ps line c l = let m : Mark (opening f) = opening-mark f in
    opened (opening f) m.first m.more (parts_of (part_pieces f) xs (end_pieces f e ps)) line m.is m.solid (rw (made-pieces f xs e ps c) at l)

made-done : (levels : ℕ) → AreDone levels → (f : Form) (xs : List (PartOf f)) (e : Option Term) (ps : List Piece) (line : List ℕ) (o : Out) → CanEnd f e → MayStand (suc levels) (made f xs e)
    → IsBuiltTerm (made f xs e) → Lies (term_pieces (made f xs e) ps) line → Done (suc levels) (made f xs e) ps line o
made-done levels ih f xs e ps line o c m b l =
    let k : Opened (opening f) (parts_of (part_pieces f) xs (end_pieces f e ps)) line = form-opened f xs e ps line c l in
    let is : Each (IsPart levels f) xs × IsEnd levels (length xs) f e = made-are levels f xs e c m b in
    let q : DoneForm levels f xs e ps k.rest o = form-done levels ih f xs e ps k.rest o (is.0) (is.1) k.lies in
    record {
      rest = q.rest;
      read = ap (λ (z : List ℕ). any_run (term_run levels) z o) k.front ∙ (rw (form-found f k.rest) q.read ∙ ap (λ (z : Out). Some (q.rest, z)) (sym (made-put f xs e o c)));
      lies = q.lies;
      shorter = omega (arith, k.shorter, q.shorter);
      no_end = λ g. ap (text_at (closing g)) k.front ∙ opening-no-end f g k.rest;
    }

leaf-term-done : (levels : ℕ) (t : Term) (ps : List Piece) (line : List ℕ) (o : Out) → IsLeaf t → Divides ps → MayStand levels t → IsBuiltTerm t → Lies (term_pieces t ps) line
    → Done levels t ps line o
leaf-term-done levels t ps line o h d m b l = let k : DoneLeaf t ps line = leaf-of-grammar t levels ps line h d m b l in
    record { rest = k.rest; read = term-leaf levels line o k.no_form ∙ rw k.read refl; lies = k.lies; shorter = k.shorter; no_end = k.no_end }

pub term-done : (levels : ℕ) → AreDone levels
term-done zero t ps line o d m b l = elim (leaf-or-made t b) [
  | inl h ↦ leaf-term-done zero t ps line o h d m b l
  | inr h ↦ let n : MayStand zero (made (h.0) (h.1) (h.2)) = rw (h.4) at m in made_level (h.0) (h.1) (h.2) n
]
term-done (suc levels) t ps line o d m b l = elim (leaf-or-made t b) [
  | inl h ↦ leaf-term-done (suc levels) t ps line o h d m b l
  | inr h ↦ let P : Term → Type 0 = λ z. MayStand (suc levels) z → IsBuiltTerm z → Lies (term_pieces z ps) line → Done (suc levels) z ps line o in
      subst P (sym (h.4)) (made-done levels (term-done levels) (h.0) (h.1) (h.2) ps line o (h.3)) m b l
]
