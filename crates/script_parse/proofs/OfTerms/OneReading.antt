-- Two readings of a term on one line are one.
use Rattle.std.proofs.Common.{◌≡◌, ℕ, zero, suc, ◌<◌, false, List, [], ◌∷◌, length, Option, Some, None, codes, refl, sym, ◌∙◌, ap, subst, inl, inr, arith}
use Rattle.script_grammar.specs.Written.{Term}
use Rattle.script_grammar.specs.Grammar.{Piece, Lies, term_pieces, MayStand, IsBuiltTerm}
use Rattle.script_grammar.specs.Grammar.Piece.{Text, Number}
use Rattle.script_parse.specs.declared.numbers.TheConstants.{GREATEST_BYTE}
use Rattle.script_parse.specs.declared.forms.Form.{Form}
use Rattle.script_parse.specs.declared.forms.Form.TheVariants as form
use Rattle.script_parse.specs.Forms.{all_forms, opening, closing}
use Rattle.script_parse.specs.Output.{out}
use Rattle.script_parse.specs.Reading.{after_blanks, text_at, form_in}
use Rattle.script_parse.proofs.Stepwise.Tools.{both, none-some}
use Rattle.script_parse.proofs.Stepwise.GapSteps.{Divides}
use Rattle.script_parse.proofs.Stepwise.NumberSteps.{Numbers, number-stands}
use Rattle.script_parse.proofs.OfTerms.Divided.{Each, more_of, parts_of, more-divides, Mark, Opened, opened, mark-divides, Twice, text-twice, Same, parts-same}
use Rattle.script_parse.proofs.OfTerms.FormRows.{PartOf, pair_pieces, part_pieces, IsPair, IsPart, end_pieces, CanEnd, IsEnd, end-divides, end-no-comma, closing-no_bar, IsLeaf, IsMade, leaf-or-made, made, made-are, made_level, closing-mark, form-found}
use Rattle.script_parse.proofs.OfTerms.Complete.{DoneLeaf, leaf-of-grammar, closing-opened, part-done, term-done, form-opened}

-- With so many levels two readings of a term are one.
abbrev pub AreOne : (levels : ℕ) → Type 0
AreOne levels = (t u : Term) (ps qs : List Piece) (line : List ℕ) → Divides ps → Divides qs → MayStand levels t → MayStand levels u → IsBuiltTerm t → IsBuiltTerm u
    → Lies (term_pieces t ps) line → Lies (term_pieces u qs) line → Same t u ps qs

leaf-same : (t u : Term) (levels : ℕ) (ps qs : List Piece) (line : List ℕ) → IsLeaf t → IsLeaf u → Divides ps → Divides qs → MayStand levels t → MayStand levels u → IsBuiltTerm t → IsBuiltTerm u
    → Lies (term_pieces t ps) line → Lies (term_pieces u qs) line → Same t u ps qs
leaf-same t u levels ps qs line h i d e m n b c k l = let x : DoneLeaf t ps line = leaf-of-grammar t levels ps line h d m b k in let y : DoneLeaf u qs line
    = leaf-of-grammar u levels qs line i e n c l in
    let j : (t ≡ u) × (x.rest ≡ y.rest) = both (sym x.read ∙ y.read) in
    let P : List ℕ → Type 0 = λ z. Lies qs z in
    record { same = j.0; rest = x.rest; left = x.lies; right = subst P (sym (j.1)) y.lies }

-- A form that is opened.
made-form : (f : Form) (xs : List (PartOf f)) (e : Option Term) (ps : List Piece) (line : List ℕ) → CanEnd f e → Lies (term_pieces (made f xs e) ps) line
    → (rest : List ℕ) × (form_in all_forms (after_blanks line) ≡ Some (f, rest)) × Lies (parts_of (part_pieces f) xs (end_pieces f e ps)) rest
made-form f xs e ps line c l = let k : Opened (opening f) (parts_of (part_pieces f) xs (end_pieces f e ps)) line = form-opened f xs e ps line c l in
    (k.rest, ap (form_in all_forms) k.front ∙ form-found f k.rest, k.lies)

-- A term without parts opens none.
leaf_made : {A : Type 0} (t : Term) (f : Form) (ys : List (PartOf f)) (e : Option Term) (levels : ℕ) (ps qs : List Piece) (line : List ℕ) → CanEnd f e → IsLeaf t → Divides ps → MayStand levels t
    → IsBuiltTerm t → Lies (term_pieces t ps) line → Lies (term_pieces (made f ys e) qs) line → A
leaf_made t f ys e levels ps qs line c h d m b k l = let x : DoneLeaf t ps line = leaf-of-grammar t levels ps line h d m b k in
    let y = made-form f ys e qs line c l in absurd (none-some (sym x.no_form ∙ y.1))

-- Two readings of a pair are one.
pair-same : (levels : ℕ) → AreOne levels → (x y : Term × Term) (ps qs : List Piece) (line : List ℕ) → Divides ps → Divides qs → IsPair levels x → IsPair levels y
    → Lies (pair_pieces x ps) line → Lies (pair_pieces y qs) line → Same x y ps qs
pair-same levels ih (a, v) (b, w) ps qs line d e m n k l =
    let s : Same a b (Text (codes "=>") ∷ term_pieces v ps) (Text (codes "=>") ∷ term_pieces w qs)
    = ih a b (Text (codes "=>") ∷ term_pieces v ps) (Text (codes "=>") ∷ term_pieces w qs) line refl refl (m.0.0) (n.0.0) (m.0.1) (n.0.1) k l in
    let t : Twice (term_pieces v ps) (term_pieces w qs) s.rest = text-twice (codes "=>") 61 (codes ">") (term_pieces v ps) (term_pieces w qs) s.rest refl refl s.left s.right in
    let u : Same v w ps qs = ih v w ps qs t.rest d e (m.1.0) (n.1.0) (m.1.1) (n.1.1) t.left t.right in
    record { same = ap (λ (z : Term). (z, v)) s.same ∙ ap (λ (z : Term). (b, z)) u.same; rest = u.rest; left = u.left; right = u.right }

-- Two readings of a byte are one.
byte-same : (x y : ℕ) (ps qs : List Piece) (line : List ℕ) → Divides ps → Divides qs → x < 256 → y < 256 → Lies (Number x ∷ ps) line → Lies (Number y ∷ qs) line → Same x y ps qs
byte-same x y ps qs line d e m n k l = let f : Numbers GREATEST_BYTE x ps line = number-stands GREATEST_BYTE x ps line (omega arith) d k in
    let g : Numbers GREATEST_BYTE y qs line = number-stands GREATEST_BYTE y qs line (omega arith) e l in
    let j : (x ≡ y) × (f.rest ≡ g.rest) = both (sym f.read ∙ g.read) in
    let P : List ℕ → Type 0 = λ z. Lies qs z in
    record { same = j.0; rest = f.rest; left = f.lies; right = subst P (sym (j.1)) g.lies }

part-same : (levels : ℕ) → AreOne levels → (f : Form) (x y : PartOf f) (ps qs : List Piece) (line : List ℕ) → Divides ps → Divides qs → IsPart levels f x → IsPart levels f y
    → Lies (part_pieces f x ps) line → Lies (part_pieces f y qs) line → Same x y ps qs
part-same levels ih form.List x y ps qs line d e m n k l = ih x y ps qs line d e (m.0) (n.0) (m.1) (n.1) k l
part-same levels ih form.Tuple x y ps qs line d e m n k l = ih x y ps qs line d e (m.0) (n.0) (m.1) (n.1) k l
part-same levels ih form.Map x y ps qs line d e m n k l = pair-same levels ih x y ps qs line d e m n k l
part-same levels ih form.Binary x y ps qs line d e m n k l = byte-same x y ps qs line d e m n k l

-- What closes a form is read twice.
closing-twice : (f : Form) (ps qs : List Piece) (line : List ℕ) → Lies (Text (closing f) ∷ ps) line → Lies (Text (closing f) ∷ qs) line → Twice ps qs line
closing-twice f ps qs line k l = let m : Mark (closing f) = closing-mark f in text-twice (closing f) m.first m.more ps qs line m.is m.solid k l

-- A bar closes no form.
no_bar : {A : Type 0} (f : Form) (ps qs : List Piece) (line : List ℕ) → Lies (Text (closing f) ∷ ps) line → Lies (Text (codes "|") ∷ qs) line → A
no_bar f ps qs line k l = let x : Opened (closing f) ps line = closing-opened f ps line k in
    let y : Opened (codes "|") qs line = opened (codes "|") 124 [] qs line refl refl l in
    absurd (none-some (sym (ap (text_at (closing f)) y.front ∙ closing-no_bar f y.rest) ∙ x.found))

-- Two readings of the end of a form are one.
end-same : (levels : ℕ) → AreOne levels → (n m : ℕ) (f : Form) (d e : Option Term) (ps qs : List Piece) (line : List ℕ) → IsEnd levels n f d → IsEnd levels m f e
    → Lies (end_pieces f d ps) line → Lies (end_pieces f e qs) line → Same d e ps qs
end-same levels ih n m f None None ps qs line a b k l = let t : Twice ps qs line = closing-twice f ps qs line k l in
    record { same = refl; rest = t.rest; left = t.left; right = t.right }
end-same levels ih n m f None (Some u) ps qs line a b k l = no_bar f ps (term_pieces u (Text (closing f) ∷ qs)) line k l
end-same levels ih n m f (Some t) None ps qs line a b k l = no_bar f qs (term_pieces t (Text (closing f) ∷ ps)) line l k
end-same levels ih n m f (Some t) (Some u) ps qs line a b k l =
    let w : Twice (term_pieces t (Text (closing f) ∷ ps)) (term_pieces u (Text (closing f) ∷ qs)) line
    = text-twice (codes "|") 124 [] (term_pieces t (Text (closing f) ∷ ps)) (term_pieces u (Text (closing f) ∷ qs)) line refl refl k l in
    let s : Same t u (Text (closing f) ∷ ps) (Text (closing f) ∷ qs) = ih t u (Text (closing f) ∷ ps) (Text (closing f) ∷ qs) w.rest (mark-divides (closing f) ps (closing-mark f))
    (mark-divides (closing f) qs (closing-mark f)) (a.2.0) (b.2.0) (a.2.1) (b.2.1) w.left w.right in
    let c : Twice ps qs s.rest = closing-twice f ps qs s.rest s.left s.right in
    record { same = ap (λ (z : Term). Some z) s.same; rest = c.rest; left = c.left; right = c.right }

-- A part does not begin with the end of its form.
part_ends : {A : Type 0} (levels : ℕ) (f : Form) (x : PartOf f) (xs : List (PartOf f)) (e d : Option Term) (ps qs : List Piece) (line : List ℕ) → IsPart levels f x → IsEnd levels 0 f d
    → Lies (parts_of (part_pieces f) (x ∷ xs) (end_pieces f e ps)) line → Lies (end_pieces f d qs) line → A
part_ends levels f x xs e None ps qs line is i k l = let q : Opened (closing f) qs line = closing-opened f qs line l in
    let none : text_at (closing f) (after_blanks line) ≡ None
    = (part-done levels (term-done levels) f x (more_of (part_pieces f) xs (end_pieces f e ps)) line (out [] false [])
    (more-divides (part_pieces f) xs (end_pieces f e ps) (end-divides f e ps)) is k).1 f in
    absurd (none-some (sym none ∙ q.found))
part_ends levels f x xs e (Some t) ps qs line is i k l = absurd (omega (arith, i.1))

-- Parts, and the end after them.
abbrev Filled : (levels : ℕ) (f : Form) → List (PartOf f) → Option Term → List Piece → List ℕ → Type 0
Filled levels f xs e ps line = Each (IsPart levels f) xs × IsEnd levels (length xs) f e × Lies (parts_of (part_pieces f) xs (end_pieces f e ps)) line

form-same : (levels : ℕ) → AreOne levels → (f : Form) (xs ys : List (PartOf f)) (d e : Option Term) (ps qs : List Piece) (line : List ℕ) → Filled levels f xs d ps line → Filled levels f ys e qs line
    → Same {X = List (PartOf f) × Option Term} (xs, d) (ys, e) ps qs
form-same levels ih f [] [] d e ps qs line a b = let s : Same d e ps qs = end-same levels ih 0 0 f d e ps qs line (a.1) (b.1) (a.2) (b.2) in
    record { same = ap (λ (z : Option Term). ([], z)) s.same; rest = s.rest; left = s.left; right = s.right }
form-same levels ih f [] (y ∷ ys) d e ps qs line a b = part_ends levels f y ys e d qs ps line (b.0.0) (a.1) (b.2) (a.2)
form-same levels ih f (x ∷ xs) [] d e ps qs line a b = part_ends levels f x xs d e ps qs line (a.0.0) (b.1) (a.2) (b.2)
form-same levels ih f (x ∷ xs) (y ∷ ys) d e ps qs line a b =
    let s : Same (x ∷ xs) (y ∷ ys) (end_pieces f d ps) (end_pieces f e qs)
    = parts-same (part_pieces f) (IsPart levels f) (part-same levels ih f) x y xs ys (end_pieces f d ps) (end_pieces f e qs) line (end-divides f d ps) (end-divides f e qs)
    (end-no-comma f d ps) (end-no-comma f e qs) (a.0) (b.0) (a.2) (b.2) in
    let t : Same d e ps qs = end-same levels ih (length (x ∷ xs)) (length (y ∷ ys)) f d e ps qs s.rest (a.1) (b.1) s.left s.right in
    record {
      same = ap (λ (z : List (PartOf f)). (z, d)) s.same ∙ ap (λ (z : Option Term). (y ∷ ys, z)) t.same;
      rest = t.rest;
      left = t.left;
      right = t.right;
    }

-- What parts of a form that is opened make.
abbrev Making : (levels : ℕ) (ps : List Piece) (rest : List ℕ) → Form → Term → Type 0
Making levels ps rest f t = (xs : List (PartOf f)) × (e : Option Term) × (t ≡ made f xs e) × Filled levels f xs e ps rest

made-same : (levels : ℕ) → AreOne levels → (t u : Term) (f g : Form) (ps qs : List Piece) (rest next : List ℕ) → f ≡ g → rest ≡ next → Making levels ps rest f t → Making levels qs next g u
    → Same t u ps qs
made-same levels ih t u f g ps qs rest next e h x y =
    let P : Form → Type 0 = λ z. Making levels qs rest z u in
    let Q : List ℕ → Type 0 = λ z. Making levels qs z g u in
    let w : Making levels qs rest f u = subst P (sym e) (subst Q (sym h) y) in
    let s : Same {X = List (PartOf f) × Option Term} (x.0, x.1) (w.0, w.1) ps qs = form-same levels ih f (x.0) (w.0) (x.1) (w.1) ps qs rest (x.3) (w.3) in
    record { same = x.2 ∙ (ap (λ (z : List (PartOf f) × Option Term). made f (z.0) (z.1)) s.same ∙ sym (w.2)); rest = s.rest; left = s.left; right = s.right }

making : (levels : ℕ) (t : Term) (ps : List Piece) (line : List ℕ) (h : IsMade t) → MayStand (suc levels) t → IsBuiltTerm t → Lies (term_pieces t ps) line
    → (rest : List ℕ) × (form_in all_forms (after_blanks line) ≡ Some (h.0, rest)) × Making levels ps rest (h.0) t
making levels t ps line h m b l = let n : MayStand (suc levels) (made (h.0) (h.1) (h.2)) = rw (h.4) at m in let c : IsBuiltTerm (made (h.0) (h.1) (h.2)) = rw (h.4) at b in
    let k : Lies (term_pieces (made (h.0) (h.1) (h.2)) ps) line = rw (h.4) at l in
    let q = made-form (h.0) (h.1) (h.2) ps line (h.3) k in
    let is : Each (IsPart levels (h.0)) (h.1) × IsEnd levels (length (h.1)) (h.0) (h.2) = made-are levels (h.0) (h.1) (h.2) (h.3) n c in
    (q.0, q.1, (h.1, h.2, h.4, (is.0, is.1, q.2)))

two-same : (levels : ℕ) → AreOne levels → (t u : Term) (ps qs : List Piece) (line : List ℕ) (h : IsMade t) (i : IsMade u) → MayStand (suc levels) t → MayStand (suc levels) u → IsBuiltTerm t
    → IsBuiltTerm u
    → Lies (term_pieces t ps) line → Lies (term_pieces u qs) line → Same t u ps qs
two-same levels ih t u ps qs line h i m n b c k l =
    let x = making levels t ps line h m b k in let y = making levels u qs line i n c l in
    let j : (h.0 ≡ i.0) × (x.0 ≡ y.0) = both (sym (x.1) ∙ y.1) in
    made-same levels ih t u (h.0) (i.0) ps qs (x.0) (y.0) (j.0) (j.1) (x.2) (y.2)

no_level : {A : Type 0} (t : Term) → IsMade t → MayStand zero t → A
no_level t h m = let n : MayStand zero (made (h.0) (h.1) (h.2)) = rw (h.4) at m in made_level (h.0) (h.1) (h.2) n

apart_made : {A : Type 0} (levels : ℕ) (t u : Term) (ps qs : List Piece) (line : List ℕ) → IsLeaf t → IsMade u → Divides ps → MayStand levels t → IsBuiltTerm t
    → Lies (term_pieces t ps) line → Lies (term_pieces u qs) line → A
apart_made levels t u ps qs line h i d m b k l = let w : Lies (term_pieces (made (i.0) (i.1) (i.2)) qs) line = rw (i.4) at l in
    leaf_made t (i.0) (i.1) (i.2) levels ps qs line (i.3) h d m b k w

pub term-same : (levels : ℕ) → AreOne levels
term-same zero t u ps qs line d e m n b c k l = elim (leaf-or-made t b) [
  | inl h ↦ elim (leaf-or-made u c) [
    | inl i ↦ leaf-same t u zero ps qs line h i d e m n b c k l
    | inr i ↦ no_level u i n
  ]
  | inr h ↦ no_level t h m
]
term-same (suc levels) t u ps qs line d e m n b c k l = elim (leaf-or-made t b) [
  | inl h ↦ elim (leaf-or-made u c) [
    | inl i ↦ leaf-same t u (suc levels) ps qs line h i d e m n b c k l
    | inr i ↦ apart_made (suc levels) t u ps qs line h i d m b k l
  ]
  | inr h ↦ elim (leaf-or-made u c) [
    | inl i ↦ apart_made (suc levels) u t qs ps line i h e n c l k
    | inr i ↦ two-same levels (term-same levels) t u ps qs line h i m n b c k l
  ]
]
