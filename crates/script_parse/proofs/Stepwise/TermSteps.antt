-- The first step of reading a term, and the room that it takes.
use Rattle.std.proofs.Common.{◌≡◌, ℕ, zero, suc, ◌+◌, ◌-◌, ◌<◌, ◌≤◌, Bool, true, false, nat_eq, nat_le, List, [], ◌∷◌, length, Option, Some, None, refl, sym, ◌∙◌, ap, inl, inr, arith, sub-one, length-append}
use Rattle.std.proofs.lemmas.Bool.{leb-true}
use Rattle.plain_term.specs.declared.item.Item.{Item}
use Rattle.plain_term.specs.declared.item.Item.TheVariants as item
use Rattle.script_parse.specs.declared.numbers.TheConstants.{LAST_REGISTER}
use Rattle.script_parse.specs.declared.forms.Form.{Form}
use Rattle.script_parse.specs.declared.forms.Form.TheVariants as form
use Rattle.script_parse.specs.Forms.{all_forms}
use Rattle.script_grammar.specs.Grammar.{is_digit, is_small_letter}
use Rattle.script_grammar.specs.Written.{Term}
use Rattle.script_grammar.specs.Written.Term.{Int, Atom, Pid, Held}
use Rattle.script_parse.specs.Output.{Out, push, put, put_atom, led_items}
use Rattle.script_parse.specs.Reading.{then_read, after_blanks, number_at, integer_at, pid_at, atom_at, title_at, leaf_at, item_at, leaf_run, form_in, form_run, term_run}
use Rattle.script_parse.proofs.Stepwise.Tools.{chosen, both-true, unequal, apart}

pub term-form : (levels : ℕ) (line rest : List ℕ) (f : Form) (o : Out) → form_in all_forms (after_blanks line) ≡ Some (f, rest) → 0 < levels
    → term_run levels line o ≡ form_run (term_run (levels - 1)) f rest o
term-form zero line rest f o e l = absurd (omega arith)
term-form (suc k) line rest f o e l = rw (e, sub-one) refl

-- No form opens the line, at any number of levels.
pub term-leaf : (levels : ℕ) (line : List ℕ) (o : Out) → form_in all_forms (after_blanks line) ≡ None → term_run levels line o ≡ leaf_run (after_blanks line) o
term-leaf zero line o e = refl
term-leaf (suc k) line o e = rw e refl

-- How many items stand before each part of a form.
pub led-len : (f : Form) (items : List Item) → length (led_items f items) ≡ length items + length (led_items f [])
led-len form.List items = simp length-append refl
led-len form.Tuple items = omega arith
led-len form.Map items = omega arith
led-len form.Binary items = omega arith

-- At most one.
pub led-few : (f : Form) → length (led_items f []) ≤ 1
led-few form.List = omega arith
led-few form.Tuple = omega arith
led-few form.Map = omega arith
led-few form.Binary = omega arith

-- A leaf by its first byte.
pub digit-not-letter : (b : ℕ) → is_digit b ≡ true → is_small_letter b ≡ false
digit-not-letter b h = let k : (nat_le 48 b ≡ true) × (nat_le b 57 ≡ true) = both-true (nat_le 48 b) (nat_le b 57) h in
    let small : b ≤ 57 = leb-true b 57 (k.1) in
    elim (is_small_letter b) as (λ t. (t ≡ true → (nat_le 97 b ≡ true) × (nat_le b 122 ≡ true)) → t ≡ false) [
      | true ↦ λ f. let large : 97 ≤ b = leb-true 97 b ((f refl).0) in absurd (omega arith)
      | false ↦ λ f. refl
    ] (both-true (nat_le 97 b) (nat_le b 122))

letter-not-digit : (b : ℕ) → is_small_letter b ≡ true → is_digit b ≡ false
letter-not-digit b h = elim (is_digit b) as (λ t. (t ≡ true → is_small_letter b ≡ false) → t ≡ false) [
  | true ↦ λ f. let k : is_small_letter b ≡ false = f refl in cc
  | false ↦ λ f. refl
] (digit-not-letter b)

pub letter-run : (b : ℕ) (bytes : List ℕ) → is_small_letter b ≡ true → leaf_at (b ∷ bytes) ≡ then_read {B = Term × List ℕ} (atom_at (b ∷ bytes)) (λ r. Some (Atom (r.0), r.1))
letter-run b bytes h = rw (unequal b 60 (apart is_small_letter b 60 refl h), unequal b 36 (apart is_small_letter b 36 refl h), h) refl

twice : {A : Type 0} (r : Option (A × List ℕ)) (f : A → Term) (g : A → Item) (o : Out) → ((x : A) → put (f x) o ≡ push o (g x))
    → then_read {B = List ℕ × Out} (then_read {B = Term × List ℕ} r (λ x. Some (f (x.0), x.1))) (λ x. Some (x.1, put (x.0) o))
    ≡ then_read {B = List ℕ × Out} (then_read {B = Item × List ℕ} r (λ x. Some (g (x.0), x.1))) (λ x. Some (x.1, push o (x.0)))
twice None f g o h = refl
twice (Some x) f g o h = rw (h (x.0)) refl

-- An atom is read.
atom-put : (bytes : List ℕ) (r : Option (List ℕ × List ℕ)) (o : Out) → leaf_at bytes ≡ then_read {B = Term × List ℕ} (atom_at bytes) (λ x. Some (Atom (x.0), x.1)) → atom_at bytes ≡ r
    → leaf_run bytes o ≡ then_read {B = List ℕ × Out} (then_read {B = Term × List ℕ} r (λ x. Some (Atom (x.0), x.1))) (λ x. Some (x.1, put (x.0) o))
atom-put bytes r o e h = ap (λ (z : Option (Term × List ℕ)). then_read {B = List ℕ × Out} z (λ x. Some (x.1, put (x.0) o)))
    (e ∙ ap (λ (z : Option (List ℕ × List ℕ)). then_read {B = Term × List ℕ} z (λ x. Some (Atom (x.0), x.1))) h)

pub leaf-atom : (line name rest : List ℕ) (o : Out) → title_at line ≡ Some (name, rest) → leaf_run line o ≡ Some (rest, put_atom o name)
leaf-atom [] name rest o h = cc
leaf-atom (b ∷ bytes) name rest o h = elim (chosen (is_small_letter b) h) [
  | inl e ↦ atom-put (b ∷ bytes) (Some (name, rest)) o (letter-run b bytes (e.0)) (e.1)
  | inr e ↦ let none : None ≡ Some (name, rest) = e.1 in cc
]

-- Where there is none, what is read is its item.
no-atom : (b : ℕ) (bytes : List ℕ) → is_small_letter b ≡ true → title_at (b ∷ bytes) ≡ None → atom_at (b ∷ bytes) ≡ None
no-atom b bytes g h = elim (chosen (is_small_letter b) h) [ inl e ↦ e.1 | inr e ↦ let k : is_small_letter b ≡ false = e.0 in cc ]

letter-no-item : (b : ℕ) (bytes : List ℕ) → is_small_letter b ≡ true → item_at (b ∷ bytes) ≡ None
letter-no-item b bytes g = rw (
  unequal b 60 (apart is_small_letter b 60 refl g),
  unequal b 36 (apart is_small_letter b 36 refl g),
  unequal b 45 (apart is_small_letter b 45 refl g),
  unequal b 48 (apart is_small_letter b 48 refl g),
  letter-not-digit b g,
) refl

plain : (b : ℕ) (bytes : List ℕ) (o : Out) (p r s : Bool) → nat_eq b 60 ≡ p → nat_eq b 36 ≡ r → is_small_letter b ≡ s → title_at (b ∷ bytes) ≡ None
    → leaf_run (b ∷ bytes) o ≡ then_read {B = List ℕ × Out} (item_at (b ∷ bytes)) (λ x. Some (x.1, push o (x.0)))
plain b bytes o true r s e f g h = rw e (twice (pid_at bytes) Pid item.Pid o (λ x. refl))
plain b bytes o false true s e f g h = rw (e, f) (twice (number_at LAST_REGISTER bytes) Held item.Held o (λ x. refl))
plain b bytes o false false true e f g h = atom-put (b ∷ bytes) None o (letter-run b bytes g) (no-atom b bytes g h)
    ∙ sym (ap (λ (z : Option (Item × List ℕ)). then_read {B = List ℕ × Out} z (λ x. Some (x.1, push o (x.0)))) (letter-no-item b bytes g))
plain b bytes o false false false e f g h = rw (e, f, g) (twice (integer_at (b ∷ bytes)) Int item.Int o (λ x. refl))

pub leaf-plain : (line : List ℕ) (o : Out) → title_at line ≡ None → leaf_run line o ≡ then_read {B = List ℕ × Out} (item_at line) (λ x. Some (x.1, push o (x.0)))
leaf-plain [] o h = refl
leaf-plain (b ∷ bytes) o h = plain b bytes o (nat_eq b 60) (nat_eq b 36) (is_small_letter b) refl refl refl h
