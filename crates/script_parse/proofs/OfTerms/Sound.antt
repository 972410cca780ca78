-- What is read is in the grammar.
use Rattle.std.proofs.Common.{◌≡◌, ℕ, zero, suc, ◌+◌, ◌<◌, true, nat_eq, ℤ, List, [], ◌∷◌, ◌++◌, length, Option, Some, None, codes, refl, sym, ◌∙◌, ap, subst, inl, inr, arith, eqb-true}
use Rattle.plain_term.specs.declared.item.Item.TheVariants as item
use Rattle.script_grammar.specs.Written.{Term}
use Rattle.script_grammar.specs.Written.Term.{Int, Atom, Pid, Held}
use Rattle.script_grammar.specs.Grammar.{is_small_letter, Piece, Lies, term_pieces, MayStand, IsBuiltTerm}
use Rattle.script_grammar.specs.Grammar.Piece.{Text, Number, Whole, Process, Register}
use Rattle.script_parse.specs.declared.numbers.TheConstants.{LAST_REGISTER, GREATEST_BYTE}
use Rattle.script_parse.specs.declared.forms.Form.{Form}
use Rattle.script_parse.specs.declared.forms.Form.TheVariants as form
use Rattle.script_parse.specs.Forms.{all_forms, opening, closing, has_tail}
use Rattle.script_parse.specs.Output.{Out, push, begun, led, ended, put}
use Rattle.script_parse.specs.Reading.{then_read, after_blanks, byte_at, text_at, number_at, integer_at, pid_at, atom_at, leaf_at, leaf_run, parts_run, pair_run, byte_run, part_run, tail_run, end_run, form_in, form_run, any_run, term_run}
use Rattle.script_parse.proofs.Stepwise.Tools.{chosen, read-some, found-cases, both, none-some}
use Rattle.script_parse.proofs.Stepwise.GapSteps.{lies}
use Rattle.script_parse.proofs.Stepwise.NumberSteps.{Counted, number-read, Integral, integer-read, Numbered, pid-read, byte-read, text-read}
use Rattle.script_parse.proofs.Stepwise.AtomSteps.{Named, atom-read}
use Rattle.script_parse.proofs.OfTerms.Divided.{Each, parts_of, put_each, FoundPart, FoundParts, parts-found}
use Rattle.script_parse.proofs.OfTerms.FormRows.{PartOf, pair_pieces, part_pieces, part_put, IsPair, IsPart, end_pieces, end_put, CanEnd, IsEnd, can-end, made, made-pieces, made-put, made-is, form-read}

-- A term that was read: it may stand, is built, went last, and stands in the line.
pub record Found (levels : ℕ) (line : List ℕ) (o : Out) (rest : List ℕ) (p : Out) : Type 0 where
  pub term : Term
  pub may : MayStand levels term
  pub built : IsBuiltTerm term
  pub put : p ≡ put term o
  pub lies : (ps : List Piece) → Lies ps rest → Lies (term_pieces term ps) line

moved : (levels : ℕ) (line : List ℕ) (o : Out) (rest next : List ℕ) (p q : Out) → Found levels line o rest p → rest ≡ next → p ≡ q → Found levels line o next q
moved levels line o rest next p q f e g = let P : List ℕ → Type 0 = λ z. Found levels line o z q in let Q : Out → Type 0 = λ z. Found levels line o rest z in
    subst P e (subst Q g f)

-- A term without parts that was read.
pub record FoundLeaf (line rest : List ℕ) (t : Term) : Type 0 where
  pub may : (levels : ℕ) → MayStand levels t
  pub built : IsBuiltTerm t
  pub lies : (ps : List Piece) → Lies ps rest → Lies (term_pieces t ps) line

leaf-moved : (line rest next : List ℕ) (t u : Term) → (t ≡ u) × (rest ≡ next) → FoundLeaf line rest t → FoundLeaf line next u
leaf-moved line rest next t u e f = let P : List ℕ → Type 0 = λ z. FoundLeaf line z u in let Q : Term → Type 0 = λ z. FoundLeaf line rest z in
    subst P (e.1) (subst Q (e.0) f)

pid-step : (b : ℕ) (line bytes rest : List ℕ) (t : Term) → after_blanks line ≡ b ∷ bytes → nat_eq b 60 ≡ true
    → then_read {B = Term × List ℕ} (pid_at bytes) (λ r. Some (Pid (r.0), r.1)) ≡ Some (t, rest) → FoundLeaf line rest t
pid-step b line bytes rest t front e h =
    let r : (x : ℕ × List ℕ) × (pid_at bytes ≡ Some x) × (Some (Pid (x.0), x.1) ≡ Some (t, rest)) = read-some {B = Term × List ℕ} (pid_at bytes) (λ r. Some (Pid (r.0), r.1)) h in
    let q : Numbered (r.0.0) bytes (r.0.1) = pid-read (r.0.0) bytes (r.0.1) (r.1) in
    let begins : after_blanks line ≡ (codes "<0." ++ (q.text ++ codes ".0>")) ++ r.0.1 = front ∙ (ap (λ (z : ℕ). z ∷ bytes) (eqb-true b 60 e) ∙ q.whole) in
    leaf-moved line (r.0.1) rest (Pid (r.0.0)) t (both (r.2)) (record {
      may = λ levels. (q.some, q.within);
      built = tt;
      lies = λ ps l. lies (Process (r.0.0)) ps line (codes "<0." ++ (q.text ++ codes ".0>")) (r.0.1) begins (q.text, q.number, refl) l;
    })

atom-step : (b : ℕ) (line bytes rest : List ℕ) (t : Term) → after_blanks line ≡ b ∷ bytes → is_small_letter b ≡ true
    → then_read {B = Term × List ℕ} (atom_at (b ∷ bytes)) (λ r. Some (Atom (r.0), r.1)) ≡ Some (t, rest) → FoundLeaf line rest t
atom-step b line bytes rest t front e h =
    let r : (x : List ℕ × List ℕ) × (atom_at (b ∷ bytes) ≡ Some x) × (Some (Atom (x.0), x.1) ≡ Some (t, rest)) = read-some {B = Term × List ℕ} (atom_at (b ∷ bytes)) (λ r. Some (Atom (r.0), r.1)) h in
    let q : Named (r.0.0) (b ∷ bytes) (r.0.1) = atom-read b bytes (r.0.0) (r.0.1) e (r.1) in
    leaf-moved line (r.0.1) rest (Atom (r.0.0)) t (both (r.2)) (record {
      may = λ levels. q.is_name;
      built = tt;
      lies = λ ps l. lies (Text (r.0.0)) ps line (r.0.0) (r.0.1) (front ∙ q.whole) refl l;
    })

integer-step : (b : ℕ) (line bytes rest : List ℕ) (t : Term) → after_blanks line ≡ b ∷ bytes
    → then_read {B = Term × List ℕ} (integer_at (b ∷ bytes)) (λ r. Some (Int (r.0), r.1)) ≡ Some (t, rest) → FoundLeaf line rest t
integer-step b line bytes rest t front h =
    let r : (x : ℤ × List ℕ) × (integer_at (b ∷ bytes) ≡ Some x) × (Some (Int (x.0), x.1) ≡ Some (t, rest)) = read-some {B = Term × List ℕ} (integer_at (b ∷ bytes)) (λ r. Some (Int (r.0), r.1)) h in
    let q : Integral (r.0.0) (b ∷ bytes) (r.0.1) = integer-read (r.0.0) (b ∷ bytes) (r.0.1) (r.1) in
    leaf-moved line (r.0.1) rest (Int (r.0.0)) t (both (r.2)) (record {
      may = λ levels. omega (arith, q.within);
      built = tt;
      lies = λ ps l. lies (Whole (r.0.0)) ps line q.text (r.0.1) (front ∙ q.whole) q.integer l;
    })

held-step : (b : ℕ) (line bytes rest : List ℕ) (t : Term) → after_blanks line ≡ b ∷ bytes → nat_eq b 36 ≡ true
    → then_read {B = Term × List ℕ} (number_at LAST_REGISTER bytes) (λ r. Some (Held (r.0), r.1)) ≡ Some (t, rest) → FoundLeaf line rest t
held-step b line bytes rest t front e h =
    let r : (x : ℕ × List ℕ) × (number_at LAST_REGISTER bytes ≡ Some x) × (Some (Held (x.0), x.1) ≡ Some (t, rest))
    = read-some {B = Term × List ℕ} (number_at LAST_REGISTER bytes) (λ r. Some (Held (r.0), r.1)) h in
    let c : Counted LAST_REGISTER (r.0.0) bytes (r.0.1) = number-read LAST_REGISTER (r.0.0) bytes (r.0.1) (omega arith) (r.1) in
    let begins : after_blanks line ≡ (36 ∷ c.text) ++ r.0.1 = front ∙ (ap (λ (z : ℕ). z ∷ bytes) (eqb-true b 36 e) ∙ ap (λ (z : List ℕ). 36 ∷ z) c.whole) in
    leaf-moved line (r.0.1) rest (Held (r.0.0)) t (both (r.2)) (record {
      may = λ levels. omega (arith, c.within);
      built = tt;
      lies = λ ps l. lies (Register (r.0.0)) ps line (36 ∷ c.text) (r.0.1) begins (c.text, c.number, refl) l;
    })

leaf-step : (line front rest : List ℕ) (t : Term) → after_blanks line ≡ front → leaf_at front ≡ Some (t, rest) → FoundLeaf line rest t
leaf-step line [] rest t e h = cc
leaf-step line (b ∷ bytes) rest t e h = elim (chosen (nat_eq b 60) h) [
  | inl f ↦ pid-step b line bytes rest t e (f.0) (f.1)
  | inr f ↦ elim (chosen (nat_eq b 36) (f.1)) [
    | inl i ↦ held-step b line bytes rest t e (i.0) (i.1)
    | inr i ↦ elim (chosen (is_small_letter b) (i.1)) [
      | inl g ↦ atom-step b line bytes rest t e (g.0) (g.1)
      | inr g ↦ integer-step b line bytes rest t e (g.1)
    ]
  ]
]

leaf-read : (levels : ℕ) (line : List ℕ) (o : Out) (rest : List ℕ) (p : Out) → leaf_run (after_blanks line) o ≡ Some (rest, p) → Found levels line o rest p
leaf-read levels line o rest p h =
    let r : (x : Term × List ℕ) × (leaf_at (after_blanks line) ≡ Some x) × (Some (x.1, put (x.0) o) ≡ Some (rest, p)) = read-some (leaf_at (after_blanks line)) (λ r. Some (r.1, put (r.0) o)) h in
    let j : (r.0.1 ≡ rest) × (put (r.0.0) o ≡ p) = both (r.2) in
    let f : FoundLeaf line (r.0.1) (r.0.0) = leaf-step line (after_blanks line) (r.0.1) (r.0.0) refl (r.1) in
    moved levels line o (r.0.1) rest (put (r.0.0) o) p (record { term = r.0.0; may = f.may levels; built = f.built; put = refl; lies = f.lies }) (j.0) (j.1)

-- A byte of a binary that was read.
byte-step : (levels : ℕ) (line : List ℕ) (o : Out) (rest : List ℕ) (p : Out) → byte_run line o ≡ Some (rest, p)
    → FoundPart (part_pieces form.Binary) (part_put form.Binary) (IsPart levels form.Binary) line o rest p
byte-step levels line o rest p h =
    let r : (x : ℕ × List ℕ) × (number_at GREATEST_BYTE (after_blanks line) ≡ Some x) × (Some (x.1, push o (item.Byte (x.0))) ≡ Some (rest, p))
    = read-some (number_at GREATEST_BYTE (after_blanks line)) (λ r. Some (r.1, push o (item.Byte (r.0)))) h in
    let j : (r.0.1 ≡ rest) × (push o (item.Byte (r.0.0)) ≡ p) = both (r.2) in
    let c : Counted GREATEST_BYTE (r.0.0) (after_blanks line) (r.0.1) = number-read GREATEST_BYTE (r.0.0) (after_blanks line) (r.0.1) (omega arith) (r.1) in
    record {
      part = r.0.0;
      is = omega (arith, c.within);
      put = sym (j.1);
      lies = λ ps l. lies (Number (r.0.0)) ps line c.text rest (c.whole ∙ ap (λ (z : List ℕ). c.text ++ z) (j.0)) c.number l;
    }

-- Terms with so many levels that are read are in the grammar.
abbrev pub AreRead : (levels : ℕ) → Type 0
AreRead levels = (line : List ℕ) (o : Out) (rest : List ℕ) (p : Out) → term_run levels line o ≡ Some (rest, p) → Found levels line o rest p

-- A pair that was read.
pair-read : (levels : ℕ) → AreRead levels → (line : List ℕ) (o : Out) (rest : List ℕ) (p : Out) → pair_run (term_run levels) line o ≡ Some (rest, p)
    → FoundPart pair_pieces (part_put form.Map) (IsPair levels) line o rest p
pair-read levels ih line o rest p h =
    let r : (x : List ℕ × Out) × (term_run levels line o ≡ Some x) × (then_read (text_at (codes "=>") (after_blanks (x.0))) (λ bytes. term_run levels bytes (x.1)) ≡ Some (rest, p))
    = read-some (term_run levels line o) (λ x. then_read (text_at (codes "=>") (after_blanks (x.0))) (λ bytes. term_run levels bytes (x.1))) h in
    let s : (y : List ℕ) × (text_at (codes "=>") (after_blanks (r.0.0)) ≡ Some y) × (term_run levels y (r.0.1) ≡ Some (rest, p))
    = read-some (text_at (codes "=>") (after_blanks (r.0.0))) (λ bytes. term_run levels bytes (r.0.1)) (r.2) in
    let k : Found levels line o (r.0.0) (r.0.1) = ih line o (r.0.0) (r.0.1) (r.1) in
    let v : Found levels (s.0) (r.0.1) rest p = ih (s.0) (r.0.1) rest p (s.2) in
    record {
      part = (k.term, v.term);
      is = ((k.may, k.built), (v.may, v.built));
      put = v.put ∙ ap (λ (z : Out). put v.term z) k.put;
      lies = λ ps l. k.lies (Text (codes "=>") ∷ term_pieces v.term ps)
          (lies (Text (codes "=>")) (term_pieces v.term ps) (r.0.0) (codes "=>") (s.0) (text-read (codes "=>") (after_blanks (r.0.0)) (s.0) (s.1)) refl (v.lies ps l));
    }

part-read : (levels : ℕ) → AreRead levels → (f : Form) (line : List ℕ) (o : Out) (rest : List ℕ) (p : Out) → part_run (term_run levels) f line o ≡ Some (rest, p)
    → FoundPart (part_pieces f) (part_put f) (IsPart levels f) line o rest p
part-read levels ih form.List line o rest p h = let t : Found levels line (led form.List o) rest p = ih line (led form.List o) rest p h in
    record { part = t.term; is = (t.may, t.built); put = t.put; lies = t.lies }
part-read levels ih form.Tuple line o rest p h = let t : Found levels line (led form.Tuple o) rest p = ih line (led form.Tuple o) rest p h in
    record { part = t.term; is = (t.may, t.built); put = t.put; lies = t.lies }
part-read levels ih form.Map line o rest p h = pair-read levels ih line o rest p h
part-read levels ih form.Binary line o rest p h = byte-step levels line o rest p h

closed : (f : Form) (line mid : List ℕ) (ps : List Piece) → text_at (closing f) (after_blanks mid) ≡ Some line → Lies ps line → Lies (Text (closing f) ∷ ps) mid
closed f line mid ps e l = lies (Text (closing f)) ps mid (closing f) line (text-read (closing f) (after_blanks mid) line e) refl l

-- The end of a form that was read.
pub record FoundEnd (levels : ℕ) (f : Form) (at n : ℕ) (line : List ℕ) (o : Out) (rest : List ℕ) (p : Out) : Type 0 where
  pub tail : Option Term
  pub is : IsEnd levels n f tail
  pub put : p ≡ end_put f tail at n o
  pub lies : (ps : List Piece) → Lies ps rest → Lies (end_pieces f tail ps) line

end-moved : (levels : ℕ) (f : Form) (at n : ℕ) (line : List ℕ) (o : Out) (rest next : List ℕ) (p q : Out) → FoundEnd levels f at n line o rest p → rest ≡ next → p ≡ q
    → FoundEnd levels f at n line o next q
end-moved levels f at n line o rest next p q e g h = let P : List ℕ → Type 0 = λ z. FoundEnd levels f at n line o z q in let Q : Out → Type 0 = λ z. FoundEnd levels f at n line o rest z in
    subst P g (subst Q h e)

-- What closes a form, which leaves the output.
abbrev closing_run : Form → List ℕ → Out → Option (List ℕ × Out)
closing_run f line o = then_read {B = List ℕ × Out} (text_at (closing f) (after_blanks line)) (λ y. Some (y, o))

-- A last tail that was read after a bar.
tail-read : (levels : ℕ) → AreRead levels → (f : Form) (at n : ℕ) (line : List ℕ) (o : Out) (rest : List ℕ) (p : Out) → 0 < n → has_tail f ≡ true
    → then_read (byte_at 124 (after_blanks line)) (λ bytes. then_read (term_run levels bytes o) (λ r. closing_run f (r.0) (r.1))) ≡ Some (rest, p)
    → FoundEnd levels f at n line o rest p
tail-read levels ih f at n line o rest p some has h =
    let b : (x : List ℕ) × (byte_at 124 (after_blanks line) ≡ Some x) × (then_read (term_run levels x o) (λ r. closing_run f (r.0) (r.1)) ≡ Some (rest, p))
    = read-some (byte_at 124 (after_blanks line)) (λ bytes. then_read (term_run levels bytes o) (λ r. closing_run f (r.0) (r.1))) h in
    let r : (x : List ℕ × Out) × (term_run levels (b.0) o ≡ Some x) × (closing_run f (x.0) (x.1) ≡ Some (rest, p))
    = read-some (term_run levels (b.0) o) (λ x. closing_run f (x.0) (x.1)) (b.2) in
    let s : (y : List ℕ) × (text_at (closing f) (after_blanks (r.0.0)) ≡ Some y) × (Some (y, r.0.1) ≡ Some (rest, p))
    = read-some {B = List ℕ × Out} (text_at (closing f) (after_blanks (r.0.0))) (λ y. Some (y, r.0.1)) (r.2) in
    let j : (s.0 ≡ rest) × (r.0.1 ≡ p) = both (s.2) in
    let t : Found levels (b.0) o (r.0.0) (r.0.1) = ih (b.0) o (r.0.0) (r.0.1) (r.1) in
    end-moved levels f at n line o (s.0) rest (r.0.1) p (record {
      tail = Some t.term;
      is = (has, some, (t.may, t.built));
      put = t.put;
      lies = λ ps l. lies (Text (codes "|")) (term_pieces t.term (Text (closing f) ∷ ps)) line (codes "|") (b.0) (byte-read 124 (after_blanks line) (b.0) (b.1)) refl
          (t.lies (Text (closing f) ∷ ps) (closed f (s.0) (r.0.0) ps (s.1) l));
    }) (j.0) (j.1)

end-read : (levels : ℕ) → AreRead levels → (f : Form) (at n : ℕ) (line : List ℕ) (o : Out) (rest : List ℕ) (p : Out) → 0 < n → end_run (term_run levels) f at n line o ≡ Some (rest, p)
    → FoundEnd levels f at n line o rest p
end-read levels ih f at n line o rest p some h =
    elim (found-cases (text_at (closing f) (after_blanks line)) (λ r. Some (r, ended f at n o)) (tail_run (term_run levels) f (after_blanks line) o) h) [
      | inl c ↦ let j : (c.0 ≡ rest) × (ended f at n o ≡ p) = both (c.2) in
          end-moved levels f at n line o (c.0) rest (ended f at n o) p (record { tail = None; is = tt; put = refl; lies = λ ps l. closed f (c.0) line ps (c.1) l }) (j.0) (j.1)
      | inr c ↦ elim (chosen (has_tail f) (c.1)) [
        | inl e ↦ tail-read levels ih f at n line o rest p some (e.0) (e.1)
        | inr e ↦ absurd (none-some (e.1))
      ]
    ]

-- A form whose parts and end were read.
made-read : (levels : ℕ) (f : Form) (xs : List (PartOf f)) (e : Option Term) (line bytes : List ℕ) (o q : Out) (rest : List ℕ) (p : Out) → after_blanks line ≡ opening f ++ bytes
    → Each (IsPart levels f) xs → IsEnd levels (length xs) f e → q ≡ put_each (part_put f) xs (begun f o) → p ≡ end_put f e (length o.items) (length xs) q
    → ((ps : List Piece) → Lies ps rest → Lies (parts_of (part_pieces f) xs (end_pieces f e ps)) bytes) → Found (suc levels) line o rest p
made-read levels f xs e line bytes o q rest p front is i g h l = let k : MayStand (suc levels) (made f xs e) × IsBuiltTerm (made f xs e) = made-is levels f xs e is i in
    let c : CanEnd f e = can-end levels (length xs) f e i in
    record {
      term = made f xs e;
      may = k.0;
      built = k.1;
      put = h ∙ (ap (λ (z : Out). end_put f e (length o.items) (length xs) z) g ∙ sym (made-put f xs e o c));
      lies = λ ps m. rw (made-pieces f xs e ps c) (lies (Text (opening f)) (parts_of (part_pieces f) xs (end_pieces f e ps)) line (opening f) bytes front refl (l ps m));
    }

made-full : (levels : ℕ) (f : Form) (line bytes : List ℕ) (o : Out) (rest : List ℕ) (p : Out) → AreRead levels → after_blanks line ≡ opening f ++ bytes
    → then_read (parts_run (part_run (term_run levels) f) (length bytes + 1) bytes 0 (begun f o)) (λ r. end_run (term_run levels) f (length o.items) (r.1.0) (r.0) (r.1.1)) ≡ Some (rest, p)
    → Found (suc levels) line o rest p
made-full levels f line bytes o rest p ih e h =
    let r : (x : List ℕ × (ℕ × Out)) × (parts_run (part_run (term_run levels) f) (length bytes + 1) bytes 0 (begun f o) ≡ Some x)
    × (end_run (term_run levels) f (length o.items) (x.1.0) (x.0) (x.1.1) ≡ Some (rest, p))
    = read-some (parts_run (part_run (term_run levels) f) (length bytes + 1) bytes 0 (begun f o)) (λ r. end_run (term_run levels) f (length o.items) (r.1.0) (r.0) (r.1.1)) h in
    let g : FoundParts (part_pieces f) (part_put f) (IsPart levels f) bytes 0 (begun f o) (r.0.0) (r.0.1.0) (r.0.1.1)
    = parts-found (part_pieces f) (part_put f) (IsPart levels f) (part_run (term_run levels) f) (part-read levels ih f) (length bytes + 1) bytes 0 (begun f o) (r.0.0) (r.0.1.0) (r.0.1.1) (r.1) in
    let count : r.0.1.0 ≡ length g.parts = omega (arith, g.count) in
    let P : ℕ → Type 0 = λ z. end_run (term_run levels) f (length o.items) z (r.0.0) (r.0.1.1) ≡ Some (rest, p) in
    let s : FoundEnd levels f (length o.items) (length g.parts) (r.0.0) (r.0.1.1) rest p
    = end-read levels ih f (length o.items) (length g.parts) (r.0.0) (r.0.1.1) rest p g.some (subst P count (r.2)) in
    made-read levels f g.parts s.tail line bytes o (r.0.1.1) rest p e g.are s.is g.put s.put (λ ps m. g.lies (end_pieces f s.tail ps) (s.lies ps m))

any-read : (levels : ℕ) (line : List ℕ) (o : Out) (rest : List ℕ) (p : Out) → AreRead levels → any_run (term_run levels) (after_blanks line) o ≡ Some (rest, p) → Found (suc levels) line o rest p
any-read levels line o rest p ih h = elim (found-cases (form_in all_forms (after_blanks line)) (λ r. form_run (term_run levels) (r.0) (r.1) o) (leaf_run (after_blanks line) o) h) [
  | inl g ↦ let e : after_blanks line ≡ opening (g.0.0) ++ g.0.1 = form-read all_forms (after_blanks line) (g.0.0) (g.0.1) (g.1) in
      elim (found-cases (text_at (closing (g.0.0)) (after_blanks (g.0.1))) (λ r. Some (r, ended (g.0.0) (length o.items) 0 (begun (g.0.0) o)))
      (then_read (parts_run (part_run (term_run levels) (g.0.0)) (length (g.0.1) + 1) (g.0.1) 0 (begun (g.0.0) o))
      (λ r. end_run (term_run levels) (g.0.0) (length o.items) (r.1.0) (r.0) (r.1.1))) (g.2)) [
        | inl c ↦ let j : (c.0 ≡ rest) × (ended (g.0.0) (length o.items) 0 (begun (g.0.0) o) ≡ p) = both (c.2) in
            let P : List ℕ → Type 0 = λ z. Found (suc levels) line o z p in
            subst P (j.0) (made-read levels (g.0.0) [] None line (g.0.1) o (begun (g.0.0) o) (c.0) p e tt tt refl (sym (j.1)) (λ ps m. closed (g.0.0) (c.0) (g.0.1) ps (c.1) m))
        | inr c ↦ made-full levels (g.0.0) line (g.0.1) o rest p ih e (c.1)
      ]
  | inr g ↦ leaf-read (suc levels) line o rest p (g.1)
]

-- A term that was read is in the grammar.
pub term-read : (levels : ℕ) (line : List ℕ) (o : Out) (rest : List ℕ) (p : Out) → term_run levels line o ≡ Some (rest, p) → Found levels line o rest p
term-read zero line o rest p h = leaf-read 0 line o rest p h
term-read (suc levels) line o rest p h = any-read levels line o rest p (term-read levels) h
