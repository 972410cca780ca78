-- One step of reading a row of operands: the first of them, and then the row of the others.
use Rattle.std.proofs.Common.{◌≡◌, ℕ, ◌+◌, true, false, List, [], ◌∷◌, Option, Some, None, refl, ◌∙◌, add-one}
use Rattle.plain_term.specs.declared.item.Item.TheVariants as item
use Rattle.script_grammar.specs.Names.{ArgumentOf, Arguments}
use Rattle.script_grammar.specs.Written.{Kind}
use Rattle.script_grammar.specs.Written.Kind.{Slot, Count}
use Rattle.script_parse.specs.declared.numbers.TheConstants.{GREATEST, LAST_REGISTER}
use Rattle.script_parse.specs.Output.{Out, push}
use Rattle.script_parse.specs.Reading.{then_read, gap_at, number_at, are_blanks, spaced_at, held_at, held_run, term_run, operand_at, operands_at, row, row_run}

through : {A B C O : Type 0} (r : Option (B × O)) (a : A) (f : A × B → C)
    → then_read {B = C × O} (then_read {B = (A × B) × O} r (λ s. Some ((a, s.0), s.1))) (λ x. Some (f (x.0), x.1)) ≡ then_read {B = C × O} r (λ x. Some (f (a, x.0), x.1))
through None a f = refl
through (Some x) a f = refl

row-none : {V : Type 0} (k : Kind) (ks : List Kind) (f : Arguments (k ∷ ks) → V) (line : List ℕ) (o : Out) → operand_at k line o ≡ None → row_run (row (k ∷ ks) f) line o ≡ None
unfolding row_run
row-none k ks f line o e = rw e refl

row-more : {V : Type 0} (k : Kind) (ks : List Kind) (f : Arguments (k ∷ ks) → V) (line rest : List ℕ) (o p : Out) (a : ArgumentOf k) → operand_at k line o ≡ Some (a, (rest, p))
    → row_run (row (k ∷ ks) f) line o ≡ row_run (row ks (λ xs. f (a, xs))) rest p
unfolding row_run
row-more k ks f line rest o p a e = rw e (through (operands_at ks rest p) a f)

-- A register first.
pub slot-none : {V : Type 0} (ks : List Kind) (f : Arguments (Slot ∷ ks) → V) (line : List ℕ) (o : Out) → spaced_at (number_at LAST_REGISTER) line ≡ None → row_run (row (Slot ∷ ks) f) line o ≡ None
slot-none ks f line o e = row-none Slot ks f line o (rw e refl)

pub slot-more : {V : Type 0} (ks : List Kind) (f : Arguments (Slot ∷ ks) → V) (line : List ℕ) (o : Out) {n : ℕ} {rest : List ℕ} {x : Option (V × Out)}
    → spaced_at (number_at LAST_REGISTER) line ≡ Some (n, rest) → row_run (row ks (λ xs. f (n, xs))) rest o ≡ x → row_run (row (Slot ∷ ks) f) line o ≡ x
slot-more ks f line o {n} {rest} e h = row-more Slot ks f line rest o o n (rw e refl) ∙ h

-- A number first.
pub count-none : {V : Type 0} (ks : List Kind) (f : Arguments (Count ∷ ks) → V) (line : List ℕ) (o : Out) → spaced_at (number_at GREATEST) line ≡ None → row_run (row (Count ∷ ks) f) line o ≡ None
count-none ks f line o e = row-none Count ks f line o (rw e refl)

pub count-more : {V : Type 0} (ks : List Kind) (f : Arguments (Count ∷ ks) → V) (line : List ℕ) (o : Out) {n : ℕ} {rest : List ℕ} {x : Option (V × Out)}
    → spaced_at (number_at GREATEST) line ≡ Some (n, rest) → row_run (row ks (λ xs. f (n, xs))) rest o ≡ x → row_run (row (Count ∷ ks) f) line o ≡ x
count-more ks f line o {n} {rest} e h = row-more Count ks f line rest o o n (rw e refl) ∙ h

-- One register of an environment.
pub held-step : (left k : ℕ) (line rest : List ℕ) (o p : Out) (r : ℕ) → k ≡ left + 1 → spaced_at held_at line ≡ Some (r, rest) → p ≡ push o (item.Held r)
    → held_run k line o ≡ held_run left rest p
held-step left k line rest o p r e h f = rw (e, add-one left, h, f) refl

-- No operand is left.
pub row-end : {V : Type 0} (f : Arguments [] → V) (line : List ℕ) (o : Out) → are_blanks line ≡ true → row_run (row [] f) line o ≡ Some (f tt, o)
unfolding row_run
row-end f line o e = rw e refl

pub row-open : {V : Type 0} (f : Arguments [] → V) (line : List ℕ) (o : Out) → are_blanks line ≡ false → row_run (row [] f) line o ≡ None
unfolding row_run
row-open f line o e = rw e refl

-- A term after a blank.
pub body-at : (levels : ℕ) (line start rest : List ℕ) (o p : Out) → gap_at line ≡ Some start → term_run levels start o ≡ Some (rest, p)
    → then_read {B = Unit {0} × (List ℕ × Out)} (then_read (gap_at line) (λ r. term_run levels r o)) (λ r. Some (tt, r)) ≡ Some (tt, (rest, p))
body-at levels line start rest o p g h = rw (g, h) refl
