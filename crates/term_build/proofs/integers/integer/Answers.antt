use Rattle.std.proofs.Common.{◌≡◌, true, false, ℤ, FitsSigned, to_z, of_z, subst, arith}
use Rattle.std.specs.Int.{w128}
use Rattle.std.proofs.lemmas.Int.{to_z-of_z}
use Rattle.term_tags.specs.Words.{boxed_word, small_word}
use Rattle.term_words.specs.Role.{outside}
use Rattle.plain_term.specs.Measures.{is_small, int_flat}
use Rattle.plain_term.specs.Tree.Tree.{Int}
use Rattle.term_build.specs.Taken.{Lie, plain}
use Rattle.term_build.specs.Clear.{Uses}
use Rattle.term_build.specs.Parts.{integer_words}
use Rattle.term_build.proofs.Taking.{plain-object, taken-kept}
use Rattle.term_build.proofs.Rooms.{taken-keeps}
use Rattle.term_build.proofs.Putting.{built-by, clear-by}
use Rattle.term_build.proofs.Objects.{int-made}
use Rattle.term_build.proofs.integers.integer.Goals as goal

-- The integer that a call takes is the one that was given.
same : (i : ℤ) → FitsSigned w128 i → to_z w128 (of_z w128 i) ≡ i
same i fits = to_z-of_z w128 i fits

pub returns-clause-uses : goal.returns-clause-uses
returns-clause-uses c =
    let P : ℤ → Type 0 = λ i. Uses (int_flat i) c.args.room.now c.put_integer.new.room c.args.mem.now c.put_integer.new.mem in
    subst P (same c.args.i c.ranges.i) c.put_integer.ensures.uses

pub returns-clause-small : goal.returns-clause-small
returns-clause-small c =
    let P : ℤ → Type 0 = λ i. is_small i ≡ true → c.put_integer.result ≡ small_word i in
    subst P (same c.args.i c.ranges.i) c.put_integer.ensures.small

pub returns-clause-place : goal.returns-clause-place
returns-clause-place c =
    let P : ℤ → Type 0 = λ i. is_small i ≡ false → c.put_integer.result ≡ boxed_word c.args.room.now.top in
    subst P (same c.args.i c.ranges.i) c.put_integer.ensures.place

pub returns-clause-words : goal.returns-clause-words
returns-clause-words c =
    let P : ℤ → Type 0 = λ i. Lie c.put_integer.new.mem c.args.room.now.top (integer_words i) in
    subst P (same c.args.i c.ranges.i) c.put_integer.ensures.words

pub returns-clause-kept : goal.returns-clause-kept
returns-clause-kept c = λ roles k d taken. taken-kept roles k d (int_flat c.args.i) _ _ _ _ (returns-clause-uses c) taken

pub returns-clause-made : goal.returns-clause-made
returns-clause-made c = λ k d shared taken.
    int-made k d c.args.room.now.top c.put_integer.new.mem c.put_integer.result c.args.i c.requires.range
    (omega (arith, c.requires.words, c.requires.places.inside, (returns-clause-uses c).same_len)) (returns-clause-small c) (returns-clause-place c) (returns-clause-words c) taken shared

pub returns-clause-built : goal.returns-clause-built
returns-clause-built c = λ k shared free.
    built-by plain k (int_flat c.args.i) _ _ _ _ shared _ (Int c.args.i) plain-object free (returns-clause-uses c) (λ d taken. returns-clause-made c k d shared taken)

pub returns-clause-made_clear : goal.returns-clause-made_clear
returns-clause-made_clear c = λ shared.
    clear-by plain (int_flat c.args.i) _ _ _ _ shared _ (Int c.args.i) c.requires.words (returns-clause-uses c)
    (λ d taken. returns-clause-made c (outside c.args.room.now.top c.args.room.now.end) d shared taken)

pub returns-clause-kept_clear : goal.returns-clause-kept_clear
returns-clause-kept_clear c = taken-keeps (int_flat c.args.i) _ _ _ _ c.requires.words (returns-clause-uses c)
