-- A row of registers and numbers is read as up to four numbers, and they make the verb.
use Rattle.std.proofs.Common.{◌≡◌, ℕ, ◌≤◌, ◌%◌, Bool, true, false, List, [], ◌∷◌, length, map, Option, Some, None, refl, sym, subst, ◌∙◌, arith}
use Rattle.script_grammar.specs.Names.{Arguments, verb_with}
use Rattle.script_grammar.specs.Written.{Kind, kinds_of}
use Rattle.script_grammar.specs.Written.Kind.{Slot, Count}
use Rattle.script_grammar.specs.declared.word.Word.{Word}
use Rattle.script_grammar.specs.declared.word.Word.TheVariants as word
use Rattle.script_grammar.specs.declared.command.Verb.{Verb}
use Rattle.script_parse.specs.declared.numbers.TheConstants.{GREATEST, LAST_REGISTER}
use Rattle.script_parse.specs.declared.verbs.Numeric.{Numeric}
use Rattle.script_parse.specs.declared.verbs.Numeric.TheVariants as numeric
use Rattle.script_parse.specs.Output.{Out}
use Rattle.script_parse.specs.Reading.{then_read, gap_at, after_blanks, number_at, are_blanks, spaced_at, row, row_run, kind_of, numbers_at, arguments_from, verb_from, takes_numbers, numbers_run}
use Rattle.script_parse.proofs.Stepwise.NumberSteps.{number-read}
use Rattle.script_parse.proofs.Stepwise.RowSteps.{slot-none, slot-more, count-none, count-more, row-end, row-open}
use Rattle.script_parse.proofs.Stepwise.Tables.{row-is}
use Rattle.script_parse.proofs.Stepwise.Tools.{read-some}

-- What follows a row of three takes no part in it.
short : (ks : List Kind) (n : ℕ × (ℕ × (ℕ × ℕ))) → length ks ≤ 3 → arguments_from ks n ≡ arguments_from ks (n.0, (n.1.0, (n.1.1.0, 0)))
short [] n l = refl
short (a ∷ []) n l = refl
short (a ∷ b ∷ []) n l = refl
short (a ∷ b ∷ c ∷ []) n l = refl
short (a ∷ b ∷ c ∷ d ∷ ks) n l = absurd (omega (arith, l))

-- The number of a register is its byte.
byte-is : (line rest : List ℕ) (n : ℕ) → spaced_at (number_at LAST_REGISTER) line ≡ Some (n, rest) → n % 256 ≡ n
byte-is line rest n e = let j = read-some (gap_at line) (λ r. number_at LAST_REGISTER (after_blanks r)) e in
    let k = number-read LAST_REGISTER n (after_blanks (j.0)) rest (omega arith) (j.2) in omega (arith, k.within)

-- The numbers that follow stand one further on.
further : {V : Type 0} (ks : List Kind) (a : ℕ) (h : ℕ → ℕ) (f : ℕ × Arguments ks → V) (o : Out) (r : Option (ℕ × (ℕ × (ℕ × ℕ)))) → length ks ≤ 3 → h a ≡ a
    → then_read {B = V × Out} r (λ n. Some (f (a, arguments_from ks n), o)) ≡ then_read {B = V × Out} (then_read {B = ℕ × (ℕ × (ℕ × ℕ))} r (λ n. Some (a, (n.0, (n.1.0, n.1.1.0)))))
    (λ n. Some (f (h (n.0), arguments_from ks (n.1.0, (n.1.1.0, (n.1.1.1, 0)))), o))
further ks a h f o None l e = refl
further ks a h f o (Some n) l e = rw (e, sym (short ks n l)) refl

ended : {V : Type 0} (f : Arguments [] → V) (line : List ℕ) (o : Out) (b : Bool) → are_blanks line ≡ b
    → row_run (row [] f) line o ≡ then_read {B = V × Out} (numbers_at [] line) (λ n. Some (f tt, o))
ended f line o true e = rw e (row-end f line o e)
ended f line o false e = rw e (row-open f line o e)

slot-first : {V : Type 0} (ps : List Numeric) (f : Arguments (Slot ∷ map kind_of ps) → V) (line : List ℕ) (o : Out) (A : Option (ℕ × List ℕ)) → length (map kind_of ps) ≤ 3
    → spaced_at (number_at LAST_REGISTER) line ≡ A
    → ((rest : List ℕ) (g : Arguments (map kind_of ps) → V)
    → row_run (row (map kind_of ps) g) rest o ≡ then_read {B = V × Out} (numbers_at ps rest) (λ n. Some (g (arguments_from (map kind_of ps) n), o)))
    → row_run (row (Slot ∷ map kind_of ps) f) line o ≡ then_read {B = V × Out} (numbers_at (numeric.Slot ∷ ps) line) (λ n. Some (f (arguments_from (Slot ∷ map kind_of ps) n), o))
slot-first ps f line o None l e h = rw e (slot-none (map kind_of ps) f line o e)
slot-first ps f line o (Some (a, rest)) l e h = rw e (slot-more (map kind_of ps) f line o {n = a} {rest = rest} e (h rest (λ xs. f (a, xs)))
    ∙ further (map kind_of ps) a (λ m. m % 256) f o (numbers_at ps rest) l (byte-is line rest a e))

count-first : {V : Type 0} (ps : List Numeric) (f : Arguments (Count ∷ map kind_of ps) → V) (line : List ℕ) (o : Out) (A : Option (ℕ × List ℕ)) → length (map kind_of ps) ≤ 3
    → spaced_at (number_at GREATEST) line ≡ A
    → ((rest : List ℕ) (g : Arguments (map kind_of ps) → V)
    → row_run (row (map kind_of ps) g) rest o ≡ then_read {B = V × Out} (numbers_at ps rest) (λ n. Some (g (arguments_from (map kind_of ps) n), o)))
    → row_run (row (Count ∷ map kind_of ps) f) line o ≡ then_read {B = V × Out} (numbers_at (numeric.Count ∷ ps) line) (λ n. Some (f (arguments_from (Count ∷ map kind_of ps) n), o))
count-first ps f line o None l e h = rw e (count-none (map kind_of ps) f line o e)
count-first ps f line o (Some (a, rest)) l e h = rw e (count-more (map kind_of ps) f line o {n = a} {rest = rest} e (h rest (λ xs. f (a, xs)))
    ∙ further (map kind_of ps) a (λ m. m) f o (numbers_at ps rest) l refl)

-- What a row of numbers comes to.
pub rows-run : {V : Type 0} (ps : List Numeric) (f : Arguments (map kind_of ps) → V) (line : List ℕ) (o : Out) → length (map kind_of ps) ≤ 4
    → row_run (row (map kind_of ps) f) line o ≡ then_read (numbers_at ps line) (λ n. Some (f (arguments_from (map kind_of ps) n), o))
rows-run [] f line o l = ended f line o (are_blanks line) refl
rows-run (numeric.Slot ∷ ps) f line o l = slot-first ps f line o (spaced_at (number_at LAST_REGISTER) line) (omega (arith, l)) refl (λ rest g. rows-run ps g rest o (omega (arith, l)))
rows-run (numeric.Count ∷ ps) f line o l = count-first ps f line o (spaced_at (number_at GREATEST) line) (omega (arith, l)) refl (λ rest g. rows-run ps g rest o (omega (arith, l)))

-- No row is longer.
few : (w : Word) → length (kinds_of w) ≤ 4
few word.Set = omega arith
few _ = omega arith

from-is : (w : Word) (n : ℕ × (ℕ × (ℕ × ℕ))) → verb_from w n ≡ verb_with w (arguments_from (kinds_of w) n)
from-is word.Set n = refl
from-is _ n = refl

made : (w : Word) (r : Option (ℕ × (ℕ × (ℕ × ℕ)))) (o : Out)
    → then_read {B = Verb × Out} r (λ n. Some (verb_with w (arguments_from (kinds_of w) n), o)) ≡ then_read {B = Verb × Out} r (λ n. Some (verb_from w n, o))
made w None o = refl
made w (Some n) o = rw (from-is w n) refl

-- What the row of a verb comes to.
pub numbers-run : (w : Word) (ps : List Numeric) (line : List ℕ) (o : Out) → takes_numbers w ≡ true → map kind_of ps ≡ kinds_of w
    → numbers_run w line o ≡ then_read (numbers_at ps line) (λ n. Some (verb_from w n, o))
numbers-run w ps line o t e = let P : List Kind → Type 0 = λ ks. (f : Arguments ks → Verb) → length ks ≤ 4
    → row_run (row ks f) line o ≡ then_read (numbers_at ps line) (λ n. Some (f (arguments_from ks n), o)) in
    rw (t, row-is w) (subst P e (λ f l. rows-run ps f line o l) (verb_with w) (few w) ∙ made w (numbers_at ps line) o)
