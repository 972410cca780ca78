-- What holds of each row of the table of forms in brackets: its parts, the term that they make, and its marks.
use Rattle.std.proofs.Common.{◌≡◌, ℕ, zero, suc, ◌-◌, ◌<◌, ◌⊎◌, Bool, true, List, [], ◌∷◌, ◌++◌, length, Option, Some, None, codes, refl, ◌∙◌, ap, inl, inr, arith}
use Rattle.plain_term.specs.declared.item.Item.TheVariants as item
use Rattle.script_grammar.specs.Written.{Term, Terms, TermPairs, terms_len, term_pairs_len}
use Rattle.script_grammar.specs.Written.Term.{Int, Atom, Pid, Held, Listed, Barred, Tuple, Map, Bin}
use Rattle.script_grammar.specs.Written.Terms.{end, ◌▹◌}
use Rattle.script_grammar.specs.Written.TermPairs.{stop, pair}
use Rattle.script_grammar.specs.Grammar.{Piece, byte_pieces, more_byte_pieces, term_pieces, parts_pieces, more_pieces, pairs_pieces, more_pairs_pieces, MayStand, AllMayStand, PairsMayStand, IsBuiltTerm, AreBuiltTerms, AreBuiltPairs}
use Rattle.script_grammar.specs.Grammar.Piece.{Text, Number}
use Rattle.script_parse.specs.declared.forms.Form.{Form}
use Rattle.script_parse.specs.declared.forms.Form.TheVariants as form
use Rattle.script_parse.specs.Forms.{all_forms, opening, closing, has_tail}
use Rattle.script_parse.specs.Output.{Out, push, begun, led, ended, put, put_terms, put_pairs, put_bytes}
use Rattle.script_parse.specs.Reading.{text_at, form_in}
use Rattle.script_parse.proofs.Stepwise.Tools.{found-cases, both, false-not, far_from, IsNone, none-of}
use Rattle.script_parse.proofs.Stepwise.GapSteps.{Divides}
use Rattle.script_parse.proofs.Stepwise.NumberSteps.{text-read}
use Rattle.script_parse.proofs.OfTerms.Divided.{Each, each-of-all, all-of-each, more_of, parts_of, put_each, Mark, NoComma, mark-divides, mark-no-comma}

-- What stands between two commas of a form: a term, but in a map a key and its value, and in a binary a byte.
abbrev pub PartOf : Form → Type 0
PartOf form.List = Term
PartOf form.Tuple = Term
PartOf form.Map = Term × Term
PartOf form.Binary = ℕ

-- How a key and its value are written.
abbrev pub pair_pieces : Term × Term → List Piece → List Piece
pair_pieces q ps = term_pieces (q.0) (Text (codes "=>") ∷ term_pieces (q.1) ps)

-- How a part is written.
abbrev pub part_pieces : (f : Form) → PartOf f → List Piece → List Piece
part_pieces form.List = term_pieces
part_pieces form.Tuple = term_pieces
part_pieces form.Map = pair_pieces
part_pieces form.Binary = λ b ps. Number b ∷ ps

-- How it goes last.
abbrev pub part_put : (f : Form) → PartOf f → Out → Out
part_put form.List = λ t o. put t (led form.List o)
part_put form.Tuple = λ t o. put t (led form.Tuple o)
part_put form.Map = λ q o. put (q.1) (put (q.0) o)
part_put form.Binary = λ b o. push o (item.Byte b)

-- A term may stand with so many levels left, and is of a built form.
abbrev pub IsTerm : (levels : ℕ) → Term → Type 0
IsTerm levels t = MayStand levels t × IsBuiltTerm t

-- Both terms of a pair.
abbrev pub IsPair : (levels : ℕ) → Term × Term → Type 0
IsPair levels q = IsTerm levels (q.0) × IsTerm levels (q.1)

-- So are all terms of a part, and a byte is in its bounds.
abbrev pub IsPart : (levels : ℕ) (f : Form) → PartOf f → Type 0
IsPart levels form.List = IsTerm levels
IsPart levels form.Tuple = IsTerm levels
IsPart levels form.Map = IsPair levels
IsPart levels form.Binary = λ b. b < 256

-- What stands after the parts of a form: what closes it, or a bar, a last tail and then that.
abbrev pub end_pieces : Form → Option Term → List Piece → List Piece
end_pieces f None ps = Text (closing f) ∷ ps
end_pieces f (Some t) ps = Text (codes "|") ∷ term_pieces t (Text (closing f) ∷ ps)

-- How a form that began at this place is completed after so many parts.
abbrev pub end_put : Form → Option Term → (at n : ℕ) → Out → Out
end_put f None at n o = ended f at n o
end_put f (Some t) at n o = put t o

-- The form may end so.
abbrev pub CanEnd : Form → Option Term → Type 0
CanEnd f None = Unit {0}
CanEnd f (Some t) = has_tail f ≡ true

-- It may end so after so many parts, with so many levels left for a last tail.
abbrev pub IsEnd : (levels n : ℕ) → Form → Option Term → Type 0
IsEnd levels n f None = Unit {0}
IsEnd levels n f (Some t) = (has_tail f ≡ true) × (0 < n) × IsTerm levels t

pub can-end : (levels n : ℕ) (f : Form) (e : Option Term) → IsEnd levels n f e → CanEnd f e
can-end levels n f None h = tt
can-end levels n f (Some t) h = h.0

-- Terms as they are written, and as a list.
abbrev pub terms_from : List Term → Terms
terms_from [] = end
terms_from (t ∷ ts) = t ▹ terms_from ts

abbrev pub list_of : Terms → List Term
list_of end = []
list_of (t ▹ ts) = t ∷ list_of ts

-- Pairs as they are written, and as a list.
abbrev pub pairs_from : List (Term × Term) → TermPairs
pairs_from [] = stop
pairs_from (q ∷ qs) = pair (q.0) (q.1) (pairs_from qs)

abbrev pub pairs_of : TermPairs → List (Term × Term)
pairs_of stop = []
pairs_of (pair k v qs) = (k, v) ∷ pairs_of qs

-- The term that parts make.
abbrev pub made : (f : Form) → List (PartOf f) → Option Term → Term
made form.List ts None = Listed (terms_from ts)
made form.List ts (Some t) = Barred (terms_from ts) t
made form.Tuple ts e = Tuple (terms_from ts)
made form.Map qs e = Map (pairs_from qs)
made form.Binary bytes e = Bin bytes

terms-back : (ts : Terms) → ts ≡ terms_from (list_of ts)
terms-back end = refl
terms-back (t ▹ ts) = ap (λ (z : Terms). t ▹ z) (terms-back ts)

terms-more : (ts : List Term) (ps : List Piece) → more_pieces (terms_from ts) ps ≡ more_of term_pieces ts ps
terms-more [] ps = refl
terms-more (t ∷ ts) ps = ap (λ (z : List Piece). Text (codes ",") ∷ term_pieces t z) (terms-more ts ps)

terms-pieces : (ts : List Term) (ps : List Piece) → parts_pieces (terms_from ts) ps ≡ parts_of term_pieces ts ps
terms-pieces [] ps = refl
terms-pieces (t ∷ ts) ps = ap (λ (z : List Piece). term_pieces t z) (terms-more ts ps)

terms-count : (ts : List Term) → terms_len (terms_from ts) ≡ length ts
terms-count [] = refl
terms-count (t ∷ ts) = omega (arith, terms-count ts)

terms-put : (f : Form) (ts : List Term) (o : Out) → put_terms f (terms_from ts) o ≡ put_each (λ t o. put t (led f o)) ts o
terms-put f [] o = refl
terms-put f (t ∷ ts) o = terms-put f ts (put t (led f o))

terms-are : (levels : ℕ) (ts : List Term) → Each (IsTerm levels) ts → AllMayStand levels (terms_from ts) × AreBuiltTerms (terms_from ts)
terms-are levels [] h = (tt, tt)
terms-are levels (t ∷ ts) h = let k : AllMayStand levels (terms_from ts) × AreBuiltTerms (terms_from ts) = terms-are levels ts (h.1) in ((h.0.0, k.0), (h.0.1, k.1))

each-is : (levels : ℕ) (ts : List Term) → AllMayStand levels (terms_from ts) → AreBuiltTerms (terms_from ts) → Each (IsTerm levels) ts
each-is levels [] m b = tt
each-is levels (t ∷ ts) m b = ((m.0, b.0), each-is levels ts (m.1) (b.1))

pairs-back : (qs : TermPairs) → qs ≡ pairs_from (pairs_of qs)
pairs-back stop = refl
pairs-back (pair k v qs) = ap (λ (z : TermPairs). pair k v z) (pairs-back qs)

pairs-more : (qs : List (Term × Term)) (ps : List Piece) → more_pairs_pieces (pairs_from qs) ps ≡ more_of pair_pieces qs ps
pairs-more [] ps = refl
pairs-more (q ∷ qs) ps = ap (λ (z : List Piece). Text (codes ",") ∷ pair_pieces q z) (pairs-more qs ps)

pairs-written : (qs : List (Term × Term)) (ps : List Piece) → pairs_pieces (pairs_from qs) ps ≡ parts_of pair_pieces qs ps
pairs-written [] ps = refl
pairs-written (q ∷ qs) ps = ap (λ (z : List Piece). pair_pieces q z) (pairs-more qs ps)

pairs-count : (qs : List (Term × Term)) → term_pairs_len (pairs_from qs) ≡ length qs
pairs-count [] = refl
pairs-count (q ∷ qs) = omega (arith, pairs-count qs)

pairs-put : (qs : List (Term × Term)) (o : Out) → put_pairs (pairs_from qs) o ≡ put_each (part_put form.Map) qs o
pairs-put [] o = refl
pairs-put (q ∷ qs) o = pairs-put qs (put (q.1) (put (q.0) o))

pairs-are : (levels : ℕ) (qs : List (Term × Term)) → Each (IsPair levels) qs → PairsMayStand levels (pairs_from qs) × AreBuiltPairs (pairs_from qs)
pairs-are levels [] h = (tt, tt)
pairs-are levels (q ∷ qs) h = let k : PairsMayStand levels (pairs_from qs) × AreBuiltPairs (pairs_from qs) = pairs-are levels qs (h.1) in
    ((h.0.0.0, h.0.1.0, k.0), (h.0.0.1, h.0.1.1, k.1))

each-pair : (levels : ℕ) (qs : List (Term × Term)) → PairsMayStand levels (pairs_from qs) → AreBuiltPairs (pairs_from qs) → Each (IsPair levels) qs
each-pair levels [] m b = tt
each-pair levels (q ∷ qs) m b = (((m.0, b.0), (m.1, b.1)), each-pair levels qs (m.2) (b.2))

bytes-more : (bytes : List ℕ) (ps : List Piece) → more_byte_pieces bytes ps ≡ more_of (part_pieces form.Binary) bytes ps
bytes-more [] ps = refl
bytes-more (b ∷ bytes) ps = ap (λ (z : List Piece). Text (codes ",") ∷ Number b ∷ z) (bytes-more bytes ps)

bytes-written : (bytes : List ℕ) (ps : List Piece) → byte_pieces bytes ps ≡ parts_of (part_pieces form.Binary) bytes ps
bytes-written [] ps = refl
bytes-written (b ∷ bytes) ps = ap (λ (z : List Piece). Number b ∷ z) (bytes-more bytes ps)

bytes-put : (bytes : List ℕ) (o : Out) → put_bytes bytes o ≡ put_each (part_put form.Binary) bytes o
bytes-put [] o = refl
bytes-put (b ∷ bytes) o = bytes-put bytes (push o (item.Byte b))

one-less : (levels : ℕ) → suc levels - 1 ≡ levels
one-less levels = omega arith

-- A term without parts.
abbrev pub IsLeaf : Term → Type 0
IsLeaf (Int i) = Unit {0}
IsLeaf (Atom a) = Unit {0}
IsLeaf (Pid n) = Unit {0}
IsLeaf (Held r) = Unit {0}
IsLeaf _ = ⊥

-- A term that parts make.
abbrev pub IsMade : Term → Type 0
IsMade t = (f : Form) × (xs : List (PartOf f)) × (e : Option Term) × CanEnd f e × (t ≡ made f xs e)

-- Each term of a built form is one of them.
pub leaf-or-made : (t : Term) → IsBuiltTerm t → IsLeaf t ⊎ IsMade t
leaf-or-made (Int i) b = inl tt
leaf-or-made (Atom a) b = inl tt
leaf-or-made (Pid n) b = inl tt
leaf-or-made (Held r) b = inl tt
leaf-or-made (Listed ts) b = inr (form.List, list_of ts, None, tt, ap (λ (z : Terms). Listed z) (terms-back ts))
leaf-or-made (Barred ts t) b = inr (form.List, list_of ts, Some t, refl, ap (λ (z : Terms). Barred z t) (terms-back ts))
leaf-or-made (Tuple ts) b = inr (form.Tuple, list_of ts, None, tt, ap (λ (z : Terms). Tuple z) (terms-back ts))
leaf-or-made (Map qs) b = inr (form.Map, pairs_of qs, None, tt, ap (λ (z : TermPairs). Map z) (pairs-back qs))
leaf-or-made (Bin bytes) b = inr (form.Binary, bytes, None, tt, refl)

pub made-pieces : (f : Form) (xs : List (PartOf f)) (e : Option Term) (ps : List Piece) → CanEnd f e
    → term_pieces (made f xs e) ps ≡ Text (opening f) ∷ parts_of (part_pieces f) xs (end_pieces f e ps)
made-pieces form.List xs None ps c = ap (λ (z : List Piece). Text (codes "[") ∷ z) (terms-pieces xs (Text (codes "]") ∷ ps))
made-pieces form.List xs (Some t) ps c = ap (λ (z : List Piece). Text (codes "[") ∷ z) (terms-pieces xs (Text (codes "|") ∷ term_pieces t (Text (codes "]") ∷ ps)))
made-pieces form.Tuple xs None ps c = ap (λ (z : List Piece). Text (codes "{") ∷ z) (terms-pieces xs (Text (codes "}") ∷ ps))
made-pieces form.Tuple xs (Some t) ps c = absurd (false-not c)
made-pieces form.Map xs None ps c = ap (λ (z : List Piece). Text (codes "#{") ∷ z) (pairs-written xs (Text (codes "}") ∷ ps))
made-pieces form.Map xs (Some t) ps c = absurd (false-not c)
made-pieces form.Binary xs None ps c = ap (λ (z : List Piece). Text (codes "<<") ∷ z) (bytes-written xs (Text (codes ">>") ∷ ps))
made-pieces form.Binary xs (Some t) ps c = absurd (false-not c)

pub made-put : (f : Form) (xs : List (PartOf f)) (e : Option Term) (o : Out) → CanEnd f e
    → put (made f xs e) o ≡ end_put f e (length o.items) (length xs) (put_each (part_put f) xs (begun f o))
made-put form.List xs None o c = ap (λ (z : Out). ended form.List (length o.items) (length xs) z) (terms-put form.List xs (begun form.List o))
made-put form.List xs (Some t) o c = ap (λ (z : Out). put t z) (terms-put form.List xs (begun form.List o))
made-put form.Tuple xs None o c = ap (λ (z : ℕ). ended form.Tuple (length o.items) z (put_terms form.Tuple (terms_from xs) (begun form.Tuple o))) (terms-count xs)
    ∙ ap (λ (z : Out). ended form.Tuple (length o.items) (length xs) z) (terms-put form.Tuple xs (begun form.Tuple o))
made-put form.Tuple xs (Some t) o c = absurd (false-not c)
made-put form.Map xs None o c = ap (λ (z : ℕ). ended form.Map (length o.items) z (put_pairs (pairs_from xs) (begun form.Map o))) (pairs-count xs)
    ∙ ap (λ (z : Out). ended form.Map (length o.items) (length xs) z) (pairs-put xs (begun form.Map o))
made-put form.Map xs (Some t) o c = absurd (false-not c)
made-put form.Binary xs None o c = ap (λ (z : Out). ended form.Binary (length o.items) (length xs) z) (bytes-put xs (begun form.Binary o))
made-put form.Binary xs (Some t) o c = absurd (false-not c)

pub made-is : (levels : ℕ) (f : Form) (xs : List (PartOf f)) (e : Option Term) → Each (IsPart levels f) xs → IsEnd levels (length xs) f e
    → MayStand (suc levels) (made f xs e) × IsBuiltTerm (made f xs e)
made-is levels form.List xs None h i = let k = terms-are levels xs h in ((omega arith, rw (one-less levels) (k.0)), k.1)
made-is levels form.List xs (Some t) h i = let k = terms-are levels xs h in
    ((omega arith, rw (terms-count xs) (i.1), rw (one-less levels) (k.0), rw (one-less levels) (i.2.0)), (k.1, i.2.1))
made-is levels form.Tuple xs e h i = let k = terms-are levels xs h in ((omega arith, rw (one-less levels) (k.0)), k.1)
made-is levels form.Map xs e h i = let k = pairs-are levels xs h in ((omega arith, rw (one-less levels) (k.0)), k.1)
made-is levels form.Binary xs e h i = ((omega arith, all-of-each (λ b. b < 256) xs h), tt)

pub made-are : (levels : ℕ) (f : Form) (xs : List (PartOf f)) (e : Option Term) → CanEnd f e → MayStand (suc levels) (made f xs e) → IsBuiltTerm (made f xs e)
    → Each (IsPart levels f) xs × IsEnd levels (length xs) f e
made-are levels form.List xs None c m b = (each-is levels xs (rw (one-less levels) at m.1) b, tt)
made-are levels form.List xs (Some t) c m b = (each-is levels xs (rw (one-less levels) at m.2) (b.0), (refl, rw (terms-count xs) at m.1, (rw (one-less levels) at m.3, b.1)))
made-are levels form.Tuple xs None c m b = (each-is levels xs (rw (one-less levels) at m.1) b, tt)
made-are levels form.Tuple xs (Some t) c m b = absurd (false-not c)
made-are levels form.Map xs None c m b = (each-pair levels xs (rw (one-less levels) at m.1) b, tt)
made-are levels form.Map xs (Some t) c m b = absurd (false-not c)
made-are levels form.Binary xs None c m b = (each-of-all (λ b. b < 256) xs (m.1), tt)
made-are levels form.Binary xs (Some t) c m b = absurd (false-not c)

-- It stands only where a level is left.
pub made_level : {A : Type 0} (f : Form) (xs : List (PartOf f)) (e : Option Term) → MayStand zero (made f xs e) → A
made_level form.List xs None m = absurd (omega (arith, m.0))
made_level form.List xs (Some t) m = absurd (omega (arith, m.0))
made_level form.Tuple xs e m = absurd (omega (arith, m.0))
made_level form.Map xs e m = absurd (omega (arith, m.0))
made_level form.Binary xs e m = absurd (omega (arith, m.0))

-- What opens and closes a form begins with no blank, no byte of a name and no comma.
pub opening-mark : (f : Form) → Mark (opening f)
opening-mark form.List = record { first = 91; more = []; is = refl; solid = refl; divides = refl; no_comma = refl }
opening-mark form.Tuple = record { first = 123; more = []; is = refl; solid = refl; divides = refl; no_comma = refl }
opening-mark form.Map = record { first = 35; more = codes "{"; is = refl; solid = refl; divides = refl; no_comma = refl }
opening-mark form.Binary = record { first = 60; more = codes "<"; is = refl; solid = refl; divides = refl; no_comma = refl }

pub closing-mark : (f : Form) → Mark (closing f)
closing-mark form.List = record { first = 93; more = []; is = refl; solid = refl; divides = refl; no_comma = refl }
closing-mark form.Tuple = record { first = 125; more = []; is = refl; solid = refl; divides = refl; no_comma = refl }
closing-mark form.Map = record { first = 125; more = []; is = refl; solid = refl; divides = refl; no_comma = refl }
closing-mark form.Binary = record { first = 62; more = codes ">"; is = refl; solid = refl; divides = refl; no_comma = refl }

-- So does a bar, and it closes none.
bar-mark : Mark (codes "|")
bar-mark = record { first = 124; more = []; is = refl; solid = refl; divides = refl; no_comma = refl }

pub closing-no_bar : (f : Form) (rest : List ℕ) → text_at (closing f) (codes "|" ++ rest) ≡ None
closing-no_bar form.List rest = refl
closing-no_bar form.Tuple rest = refl
closing-no_bar form.Map rest = refl
closing-no_bar form.Binary rest = refl

-- No name goes on before the end of a form, and it begins with no comma.
pub end-divides : (f : Form) (e : Option Term) (ps : List Piece) → Divides (end_pieces f e ps)
end-divides f None ps = mark-divides (closing f) ps (closing-mark f)
end-divides f (Some t) ps = refl

pub end-no-comma : (f : Form) (e : Option Term) (ps : List Piece) → NoComma (end_pieces f e ps)
end-no-comma f None ps = mark-no-comma (closing f) ps (closing-mark f)
end-no-comma f (Some t) ps = mark-no-comma (codes "|") (term_pieces t (Text (closing f) ∷ ps)) bar-mark

-- A form is found by what opens it.
pub form-found : (f : Form) (rest : List ℕ) → form_in all_forms (opening f ++ rest) ≡ Some (f, rest)
form-found form.List rest = refl
form-found form.Tuple rest = refl
form-found form.Map rest = refl
form-found form.Binary rest = refl

-- What opens a form closes none.
pub opening-no-end : (f g : Form) (rest : List ℕ) → text_at (closing g) (opening f ++ rest) ≡ None
opening-no-end form.List form.List rest = refl
opening-no-end form.List form.Tuple rest = refl
opening-no-end form.List form.Map rest = refl
opening-no-end form.List form.Binary rest = refl
opening-no-end form.Tuple form.List rest = refl
opening-no-end form.Tuple form.Tuple rest = refl
opening-no-end form.Tuple form.Map rest = refl
opening-no-end form.Tuple form.Binary rest = refl
opening-no-end form.Map form.List rest = refl
opening-no-end form.Map form.Tuple rest = refl
opening-no-end form.Map form.Map rest = refl
opening-no-end form.Map form.Binary rest = refl
opening-no-end form.Binary form.List rest = refl
opening-no-end form.Binary form.Tuple rest = refl
opening-no-end form.Binary form.Map rest = refl
opening-no-end form.Binary form.Binary rest = refl

-- The bytes with which something opens or closes.
abbrev pub marks : List ℕ
marks = 91 ∷ 93 ∷ 123 ∷ 125 ∷ 35 ∷ 60 ∷ 62 ∷ []

-- A line that begins with another byte opens no form and closes none.
pub unmarked : (p : ℕ → Bool) (b : ℕ) (bytes : List ℕ) → far_from p marks ≡ true → p b ≡ true → (form_in all_forms (b ∷ bytes) ≡ None) × ((f : Form) → text_at (closing f) (b ∷ bytes) ≡ None)
unmarked p b bytes h e = let k : IsNone b marks = none-of p b marks h e in
    (rw (k.0, k.1.1.0, k.1.1.1.1.0, k.1.1.1.1.1.0) refl, closes k)
  where
    closes : IsNone b marks → (f : Form) → text_at (closing f) (b ∷ bytes) ≡ None
    closes k form.List = rw (k.1.0) refl
    closes k form.Tuple = rw (k.1.1.1.0) refl
    closes k form.Map = rw (k.1.1.1.0) refl
    closes k form.Binary = rw (k.1.1.1.1.1.1.0) refl

-- A pid closes no form.
pub pid-closes-none : (f : Form) (bytes : List ℕ) → text_at (closing f) (60 ∷ bytes) ≡ None
pid-closes-none form.List bytes = refl
pid-closes-none form.Tuple bytes = refl
pid-closes-none form.Map bytes = refl
pid-closes-none form.Binary bytes = refl

-- What was found to open the line opens it.
pub form-read : (forms : List Form) (line : List ℕ) (f : Form) (rest : List ℕ) → form_in forms line ≡ Some (f, rest) → line ≡ opening f ++ rest
form-read [] line f rest h = cc
form-read (g ∷ forms) line f rest h = elim (found-cases (text_at (opening g) line) (λ r. Some (g, r)) (form_in forms line) h) [
  | inl e ↦ let j : (g ≡ f) × (e.0 ≡ rest) = both (e.2) in
      text-read (opening g) line (e.0) (e.1) ∙ (ap (λ (z : Form). opening z ++ e.0) (j.0) ∙ ap (λ (z : List ℕ). opening f ++ z) (j.1))
  | inr e ↦ form-read forms line f rest (e.1)
]
