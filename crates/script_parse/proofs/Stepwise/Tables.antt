-- The tables of verbs: a text is looked up, and is one word.
use Rattle.std.proofs.Common.{◌≡◌, ℕ, Bool, true, false, ◌&&◌, List, [], ◌∷◌, Some, refl, inl, inr, subst}
use Rattle.std.specs.List.{find}
use Rattle.std.specs.Str.{bytes_eq}
use Rattle.std.proofs.lemmas.Slice.Eq.{bytes_eq-Decides}
use Rattle.script_grammar.specs.Written.{text_of, kinds_of, sys_text_of, sys_kinds_of}
use Rattle.script_grammar.specs.declared.word.Word.{Word}
use Rattle.script_grammar.specs.declared.word.Word.TheVariants as word
use Rattle.script_grammar.specs.declared.word.SysWord.{SysWord}
use Rattle.script_grammar.specs.declared.word.SysWord.TheVariants as sys
use Rattle.script_grammar.specs.Grammar.{AreAll}
use Rattle.script_grammar.specs.Names.{verb_with, sys_verb_with}
use Rattle.script_parse.specs.Reading.{is_solid, row, row_of, sys_row_of, word_named, sys_word_named}
use Rattle.script_parse.proofs.Stepwise.Tools.{chosen, inside, both-true, false-not}

-- What `find` finds passes.
find-passes : {X : Type 0} (p : X → Bool) (xs : List X) {x : X} → find p xs ≡ Some x → p x ≡ true
find-passes p [] h = cc
find-passes {X} p (y ∷ xs) h = elim (chosen (p y) h) [ inl e ↦ let P : X → Type 0 = λ z. p z ≡ true in subst P (inside (e.1)) (e.0) | inr e ↦ find-passes p xs (e.1) ]

-- What is found by its text has that text.
pub found-text : {W : Type 0} (text : W → List ℕ) (all : List W) (bytes : List ℕ) (w : W) → find (λ x. bytes_eq bytes (text x)) all ≡ Some w → bytes ≡ text w
found-text text all bytes w h = (bytes_eq-Decides bytes (text w)).0 (find-passes (λ x. bytes_eq bytes (text x)) all h)

-- Each verb is found by its text.
pub named-so : (w : Word) → word_named (text_of w) ≡ Some w
named-so word.Set = refl
named-so _ = refl

pub sys_named-so : (w : SysWord) → sys_word_named (sys_text_of w) ≡ Some w
sys_named-so sys.Spawn = refl
sys_named-so _ = refl

-- The row of each.
pub row-is : (w : Word) → row_of w ≡ row (kinds_of w) (verb_with w)
row-is word.Set = refl
row-is _ = refl

pub sys-row-is : (w : SysWord) → sys_row_of w ≡ row (sys_kinds_of w) (sys_verb_with w)
sys-row-is sys.Spawn = refl
sys-row-is _ = refl

-- A text without blanks that is not empty.
abbrev all_solid : List ℕ → Bool
all_solid [] = true
all_solid (b ∷ bytes) = is_solid b && all_solid bytes

abbrev pub is_word : List ℕ → Bool
is_word [] = false
is_word (b ∷ bytes) = all_solid (b ∷ bytes)

solid-all : (text : List ℕ) → all_solid text ≡ true → AreAll is_solid text
solid-all [] h = tt
solid-all (b ∷ text) h = let k : (is_solid b ≡ true) × (all_solid text ≡ true) = both-true (is_solid b) (all_solid text) h in (k.0, solid-all text (k.1))

pub word-solid : (text : List ℕ) → is_word text ≡ true → AreAll is_solid text
word-solid [] h = absurd (false-not h)
word-solid (b ∷ text) h = solid-all (b ∷ text) h

-- The text of each verb is one.
pub text-word : (w : Word) → is_word (text_of w) ≡ true
text-word word.Set = refl
text-word _ = refl

pub sys-text-word : (w : SysWord) → is_word (sys_text_of w) ≡ true
sys-text-word sys.Spawn = refl
sys-text-word _ = refl
