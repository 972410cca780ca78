-- Parts divided by commas, whatever a part is: how they are written, and how they are read.
use Rattle.std.proofs.Common.{◌≡◌, ℕ, zero, suc, ◌+◌, ◌-◌, ◌<◌, false, nat_eq, List, [], ◌∷◌, ◌++◌, length, Option, Some, None, codes, refl, sym, ◌∙◌, ap, subst, inl, inr, arith}
use Rattle.std.specs.List.{All}
use Rattle.std.proofs.lemmas.List.Elements.{All-nil, All-cons}
use Rattle.script_grammar.specs.Grammar.{is_blank, is_name_byte, Piece, Lies}
use Rattle.script_grammar.specs.Grammar.Piece.{Text}
use Rattle.script_parse.specs.Output.{Out}
use Rattle.script_parse.specs.Reading.{found_or, after_blanks, byte_at, text_at, parts_run}
use Rattle.script_parse.proofs.Stepwise.Tools.{read-some, found-cases, both, none-some}
use Rattle.script_parse.proofs.Stepwise.GapSteps.{lies, Token, token, Divides}
use Rattle.script_parse.proofs.Stepwise.NumberSteps.{byte-read, text-found}
use Rattle.script_parse.proofs.Stepwise.PartSteps.{parts-last, parts-more}

-- Each of them is so.
abbrev pub Each : {P : Type 0} → (P → Type 0) → List P → Type 0
Each Is [] = Unit {0}
Each Is (x ∷ xs) = Is x × Each Is xs

pub all-of-each : {P : Type 0} (Is : P → Type 0) (xs : List P) → Each Is xs → All Is xs
all-of-each Is [] h = All-nil Is
all-of-each Is (x ∷ xs) h = All-cons Is x xs (h.0) (all-of-each Is xs (h.1))

pub each-of-all : {P : Type 0} (Is : P → Type 0) (xs : List P) → All Is xs → Each Is xs
each-of-all Is [] h = tt
each-of-all Is (x ∷ xs) h = (h 0 x (omega arith), each-of-all Is xs (λ k d l. h (suc k) d (omega (arith, l))))

-- Parts, each after a comma.
abbrev pub more_of : {P : Type 0} → (P → List Piece → List Piece) → List P → List Piece → List Piece
more_of pieces [] ps = ps
more_of pieces (x ∷ xs) ps = Text (codes ",") ∷ pieces x (more_of pieces xs ps)

-- Parts divided by commas.
abbrev pub parts_of : {P : Type 0} → (P → List Piece → List Piece) → List P → List Piece → List Piece
parts_of pieces [] ps = ps
parts_of pieces (x ∷ xs) ps = pieces x (more_of pieces xs ps)

-- Parts go last one by one.
abbrev pub put_each : {P : Type 0} → (P → Out → Out) → List P → Out → Out
put_each puts [] o = o
put_each puts (x ∷ xs) o = put_each puts xs (puts x o)

-- A text that begins with no blank, no byte of a name and no comma.
pub record Mark (text : List ℕ) : Type 0 where
  pub first : ℕ
  pub more : List ℕ
  pub is : text ≡ first ∷ more
  pub solid : is_blank first ≡ false
  pub divides : is_name_byte first ≡ false
  pub no_comma : nat_eq first 44 ≡ false

-- The pieces after such a text.
pub record Opened (text : List ℕ) (ps : List Piece) (line : List ℕ) : Type 0 where
  pub rest : List ℕ
  pub front : after_blanks line ≡ text ++ rest
  pub found : text_at text (after_blanks line) ≡ Some rest
  pub lies : Lies ps rest
  pub shorter : length rest < length line

pub opened : (text : List ℕ) (b : ℕ) (more : List ℕ) (ps : List Piece) (line : List ℕ) → text ≡ b ∷ more → is_blank b ≡ false → Lies (Text text ∷ ps) line → Opened text ps line
opened text b more ps line is n (gap, t, rest, g, s, e, l) =
    let k : Token (Text text) ps line b more = token (Text text) ps line gap more rest b g n (rw (s, is) at e) l in
    let front : after_blanks line ≡ text ++ k.rest = k.front ∙ ap (λ (z : List ℕ). z ++ k.rest) (sym is) in
    record { rest = k.rest; front = front; found = ap (text_at text) front ∙ text-found text k.rest; lies = k.lies; shorter = k.shorter }

pub comma-opened : (ps : List Piece) (line : List ℕ) → Lies (Text (codes ",") ∷ ps) line → Opened (codes ",") ps line
comma-opened ps line l = opened (codes ",") 44 [] ps line refl refl l

comma-found : (ps : List Piece) (line : List ℕ) (k : Opened (codes ",") ps line) → byte_at 44 (after_blanks line) ≡ Some k.rest
comma-found ps line k = rw (k.front) refl

-- Nothing that begins with a comma stands there.
abbrev pub NoComma : List Piece → Type 0
NoComma ps = (rest : List ℕ) → Lies ps rest → byte_at 44 (after_blanks rest) ≡ None

no-comma-at : (b : ℕ) (bytes : List ℕ) → nat_eq b 44 ≡ false → byte_at 44 (b ∷ bytes) ≡ None
no-comma-at b bytes e = rw e refl

pub mark-no-comma : (text : List ℕ) (ps : List Piece) → Mark text → NoComma (Text text ∷ ps)
mark-no-comma text ps m rest l = let k : Opened text ps rest = opened text m.first m.more ps rest m.is m.solid l in
    ap (byte_at 44) (k.front ∙ ap (λ (z : List ℕ). z ++ k.rest) m.is) ∙ no-comma-at m.first (m.more ++ k.rest) m.no_comma

pub mark-divides : (text : List ℕ) (ps : List Piece) → Mark text → Divides (Text text ∷ ps)
mark-divides text ps m = rw m.is m.divides

pub more-divides : {P : Type 0} (pieces : P → List Piece → List Piece) (xs : List P) (ps : List Piece) → Divides ps → Divides (more_of pieces xs ps)
more-divides pieces [] ps d = d
more-divides pieces (x ∷ xs) ps d = refl

-- A part that was read.
pub record FoundPart {P : Type 0} (pieces : P → List Piece → List Piece) (puts : P → Out → Out) (Is : P → Type 0) (line : List ℕ) (o : Out) (rest : List ℕ) (p : Out) : Type 0 where
  pub part : P
  pub is : Is part
  pub put : p ≡ puts part o
  pub lies : (ps : List Piece) → Lies ps rest → Lies (pieces part ps) line

-- Parts that were read.
pub record FoundParts {P : Type 0} (pieces : P → List Piece → List Piece) (puts : P → Out → Out) (Is : P → Type 0) (line : List ℕ) (n : ℕ) (o : Out) (rest : List ℕ) (m : ℕ) (p : Out) : Type 0 where
  pub parts : List P
  pub are : Each Is parts
  pub some : 0 < length parts
  pub count : m ≡ length parts + n
  pub put : p ≡ put_each puts parts o
  pub lies : (ps : List Piece) → Lies ps rest → Lies (parts_of pieces parts ps) line
  pub after : (ps : List Piece) → Lies ps rest → (mid : List ℕ) → after_blanks mid ≡ codes "," ++ line → Lies (more_of pieces parts ps) mid

module _ {P : Type 0} (pieces : P → List Piece → List Piece) (puts : P → Out → Out) (Is : P → Type 0) (part : List ℕ → Out → Option (List ℕ × Out)) where
  -- Parts that are read are in the grammar.
  pub parts-found : ((line : List ℕ) (o : Out) (rest : List ℕ) (p : Out) → part line o ≡ Some (rest, p) → FoundPart pieces puts Is line o rest p)
      → (left : ℕ) (line : List ℕ) (n : ℕ) (o : Out) (rest : List ℕ) (m : ℕ) (p : Out) → parts_run part left line n o ≡ Some (rest, (m, p)) → FoundParts pieces puts Is line n o rest m p
  parts-found found zero line n o rest m p h = cc
  parts-found found (suc left) line n o rest m p h =
      let r : (x : List ℕ × Out) × (part line o ≡ Some x)
      × (found_or (byte_at 44 (after_blanks (x.0))) (λ bytes. parts_run part left bytes (n + 1) (x.1)) (Some (x.0, (n + 1, x.1))) ≡ Some (rest, (m, p)))
      = read-some (part line o) (λ x. found_or (byte_at 44 (after_blanks (x.0))) (λ bytes. parts_run part left bytes (n + 1) (x.1)) (Some (x.0, (n + 1, x.1)))) h in
      let f : FoundPart pieces puts Is line o (r.0.0) (r.0.1) = found line o (r.0.0) (r.0.1) (r.1) in
      elim (found-cases (byte_at 44 (after_blanks (r.0.0))) (λ bytes. parts_run part left bytes (n + 1) (r.0.1)) (Some (r.0.0, (n + 1, r.0.1))) (r.2)) [
        | inl c ↦ let g : FoundParts pieces puts Is (c.0) (n + 1) (r.0.1) rest m p = parts-found found left (c.0) (n + 1) (r.0.1) rest m p (c.2) in
            let comma : after_blanks (r.0.0) ≡ codes "," ++ c.0 = byte-read 44 (after_blanks (r.0.0)) (c.0) (c.1) in
            record {
              parts = f.part ∷ g.parts;
              are = (f.is, g.are);
              some = omega arith;
              count = omega (arith, g.count);
              put = g.put ∙ ap (λ (z : Out). put_each puts g.parts z) f.put;
              lies = λ ps l. f.lies (more_of pieces g.parts ps) (g.after ps l (r.0.0) comma);
              after = λ ps l mid e. lies (Text (codes ",")) (pieces f.part (more_of pieces g.parts ps)) mid (codes ",") line e refl (f.lies (more_of pieces g.parts ps) (g.after ps l (r.0.0) comma));
            }
        | inr c ↦ let j : (r.0.0 ≡ rest) × ((n + 1, r.0.1) ≡ (m, p)) = both (c.1) in
            let count : n + 1 ≡ m = ap (λ (z : ℕ × Out). z.0) (j.1) in
            let last : r.0.1 ≡ p = ap (λ (z : ℕ × Out). z.1) (j.1) in
            let back : (ps : List Piece) → Lies ps rest → Lies (pieces f.part ps) line = λ ps l. let Q : List ℕ → Type 0 = λ z. Lies ps z in f.lies ps (subst Q (sym (j.0)) l) in
            record {
              parts = f.part ∷ [];
              are = (f.is, tt);
              some = omega arith;
              count = omega (arith, count);
              put = sym last ∙ f.put;
              lies = back;
              after = λ ps l mid e. lies (Text (codes ",")) (pieces f.part ps) mid (codes ",") line e refl (back ps l);
            }
      ]

-- A part of the grammar is read.
pub record DonePart {P : Type 0} (puts : P → Out → Out) (part : List ℕ → Out → Option (List ℕ × Out)) (x : P) (ps : List Piece) (line : List ℕ) (o : Out) : Type 0 where
  pub rest : List ℕ
  pub read : part line o ≡ Some (rest, puts x o)
  pub lies : Lies ps rest
  pub shorter : length rest < length line

-- Parts of the grammar are read.
pub record DoneParts {P : Type 0} (puts : P → Out → Out) (part : List ℕ → Out → Option (List ℕ × Out)) (xs : List P) (ps : List Piece) (left : ℕ) (line : List ℕ) (n : ℕ) (o : Out) : Type 0 where
  pub rest : List ℕ
  pub read : parts_run part left line n o ≡ Some (rest, (length xs + n, put_each puts xs o))
  pub lies : Lies ps rest
  pub shorter : length rest < length line

module _ {P : Type 0} (pieces : P → List Piece → List Piece) (puts : P → Out → Out) (Is : P → Type 0) (part : List ℕ → Out → Option (List ℕ × Out)) where
  pub parts-done : ((x : P) (ps : List Piece) (line : List ℕ) (o : Out) → Divides ps → Is x → Lies (pieces x ps) line → DonePart puts part x ps line o)
      → (x : P) (xs : List P) (ps : List Piece) (left : ℕ) (line : List ℕ) (n : ℕ) (o : Out) → Divides ps → NoComma ps → length line < left → Each Is (x ∷ xs) → Lies (parts_of pieces (x ∷ xs) ps) line
      → DoneParts puts part (x ∷ xs) ps left line n o
  parts-done done x [] ps left line n o d c h is l =
      let k : DonePart puts part x ps line o = done x ps line o d (is.0) l in
      let e : left ≡ (left - 1) + 1 = omega (arith, h) in
      let count : n + 1 ≡ length (x ∷ []) + n = omega arith in
      record {
        rest = k.rest;
        read = parts-last part (left - 1) left line n o e k.rest (puts x o) k.read (c k.rest k.lies) ∙ ap (λ (z : ℕ). Some (k.rest, (z, puts x o))) count;
        lies = k.lies;
        shorter = k.shorter;
      }
  parts-done done x (y ∷ ys) ps left line n o d c h is l =
      let k : DonePart puts part x (more_of pieces (y ∷ ys) ps) line o = done x (more_of pieces (y ∷ ys) ps) line o refl (is.0) l in
      let e : left ≡ (left - 1) + 1 = omega (arith, h) in
      let q : Opened (codes ",") (parts_of pieces (y ∷ ys) ps) k.rest = comma-opened (parts_of pieces (y ∷ ys) ps) k.rest k.lies in
      let m : DoneParts puts part (y ∷ ys) ps (left - 1) q.rest (n + 1) (puts x o)
      = parts-done done y ys ps (left - 1) q.rest (n + 1) (puts x o) d c (omega (arith, h, k.shorter, q.shorter)) (is.1) q.lies in
      let count : length (y ∷ ys) + (n + 1) ≡ length (x ∷ y ∷ ys) + n = omega arith in
      record {
        rest = m.rest;
        read = parts-more part (left - 1) left line n o e k.rest q.rest (puts x o) k.read (comma-found (parts_of pieces (y ∷ ys) ps) k.rest q)
            ∙ (m.read ∙ ap (λ (z : ℕ). Some (m.rest, (z, put_each puts (y ∷ ys) (puts x o)))) count);
        lies = m.lies;
        shorter = omega (arith, k.shorter, q.shorter, m.shorter);
      }

-- A text read twice leaves the same rest.
pub record Twice (ps qs : List Piece) (line : List ℕ) : Type 0 where
  pub rest : List ℕ
  pub left : Lies ps rest
  pub right : Lies qs rest

pub text-twice : (text : List ℕ) (b : ℕ) (more : List ℕ) (ps qs : List Piece) (line : List ℕ) → text ≡ b ∷ more → is_blank b ≡ false → Lies (Text text ∷ ps) line → Lies (Text text ∷ qs) line
    → Twice ps qs line
text-twice text b more ps qs line e n k l = let x : Opened text ps line = opened text b more ps line e n k in let y : Opened text qs line = opened text b more qs line e n l in
    let same : Some y.rest ≡ Some x.rest = sym y.found ∙ x.found in
    let P : List ℕ → Type 0 = λ z. Lies qs z in
    record { rest = x.rest; left = x.lies; right = subst P (cc) y.lies }

-- Two readings on one line are one, and what follows is the same.
pub record Same {X : Type 0} (x y : X) (ps qs : List Piece) : Type 0 where
  pub same : x ≡ y
  pub rest : List ℕ
  pub left : Lies ps rest
  pub right : Lies qs rest

apart : {A : Type 0} (ps qs : List Piece) (rest : List ℕ) → NoComma ps → Lies ps rest → Lies (Text (codes ",") ∷ qs) rest → A
apart ps qs rest c k l = let q : Opened (codes ",") qs rest = comma-opened qs rest l in
    absurd (none-some (sym (c rest k) ∙ comma-found qs rest q))

module _ {P : Type 0} (pieces : P → List Piece → List Piece) (Is : P → Type 0) where
  -- Parts that two readings have are the same.
  pub parts-same : ((x y : P) (ps qs : List Piece) (line : List ℕ) → Divides ps → Divides qs → Is x → Is y → Lies (pieces x ps) line → Lies (pieces y qs) line → Same x y ps qs)
      → (x y : P) (xs ys : List P) (ps qs : List Piece) (line : List ℕ) → Divides ps → Divides qs → NoComma ps → NoComma qs → Each Is (x ∷ xs) → Each Is (y ∷ ys)
      → Lies (parts_of pieces (x ∷ xs) ps) line → Lies (parts_of pieces (y ∷ ys) qs) line → Same (x ∷ xs) (y ∷ ys) ps qs
  parts-same one x y [] [] ps qs line d e f g i j k l = let s : Same x y ps qs = one x y ps qs line d e (i.0) (j.0) k l in
      record { same = ap (λ (z : P). z ∷ []) s.same; rest = s.rest; left = s.left; right = s.right }
  parts-same one x y [] (v ∷ vs) ps qs line d e f g i j k l =
      let s : Same x y ps (more_of pieces (v ∷ vs) qs) = one x y ps (more_of pieces (v ∷ vs) qs) line d refl (i.0) (j.0) k l in
      apart ps (parts_of pieces (v ∷ vs) qs) s.rest f s.left s.right
  parts-same one x y (u ∷ us) [] ps qs line d e f g i j k l =
      let s : Same x y (more_of pieces (u ∷ us) ps) qs = one x y (more_of pieces (u ∷ us) ps) qs line refl e (i.0) (j.0) k l in
      apart qs (parts_of pieces (u ∷ us) ps) s.rest g s.right s.left
  parts-same one x y (u ∷ us) (v ∷ vs) ps qs line d e f g i j k l =
      let s : Same x y (more_of pieces (u ∷ us) ps) (more_of pieces (v ∷ vs) qs) = one x y (more_of pieces (u ∷ us) ps) (more_of pieces (v ∷ vs) qs) line refl refl (i.0) (j.0) k l in
      let t : Twice (parts_of pieces (u ∷ us) ps) (parts_of pieces (v ∷ vs) qs) s.rest
      = text-twice (codes ",") 44 [] (parts_of pieces (u ∷ us) ps) (parts_of pieces (v ∷ vs) qs) s.rest refl refl s.left s.right in
      let m : Same (u ∷ us) (v ∷ vs) ps qs = parts-same one u v us vs ps qs t.rest d e f g (i.1) (j.1) t.left t.right in
      record { same = ap (λ (z : P). z ∷ u ∷ us) s.same ∙ ap (λ (z : List P). y ∷ z) m.same; rest = m.rest; left = m.left; right = m.right }
