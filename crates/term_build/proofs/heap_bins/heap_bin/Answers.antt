use Rattle.std.proofs.Common.{ℕ, ◌+◌, [], ◌∷◌, length, subst, arith}
use Rattle.plain_term.specs.Measures.{bin_words}
use Rattle.plain_term.specs.Tree.Tree.{Bin}
use Rattle.term_tags.specs.Words.{head_word}
use Rattle.term_tags.specs.declared.layouts.TheConstants.{HEAP_BIN}
use Rattle.term_words.specs.Role.{outside}
use Rattle.term_words.specs.Object.{BytesLie}
use Rattle.term_build.specs.Taken.{Lie, plain}
use Rattle.term_build.proofs.Taking.{plain-object, taken-kept}
use Rattle.term_build.proofs.Rooms.{taken-keeps}
use Rattle.term_build.proofs.Putting.{built-by, clear-by, lie-still, uses-both}
use Rattle.term_build.proofs.Objects.{bin-made}
use Rattle.term_build.proofs.heap_bins.heap_bin.Goals as goal

pub returns-clause-uses : goal.returns-clause-uses
returns-clause-uses c = uses-both 2 (bin_words (length c.args.bytes.now)) _ _ _ _ _ _ c.put-place.ensures.uses c.put_bytes.ensures.uses

pub returns-clause-place : goal.returns-clause-place
returns-clause-place c = omega (arith, c.boxed_at.ensures, c.put-place.ensures.place)

pub returns-clause-words : goal.returns-clause-words
returns-clause-words c =
    let P : ℕ → Type 0 = λ h. Lie c.put-place.new.mem c.args.room.now.top (h ∷ length c.args.bytes.now ∷ []) in
    let first : Lie c.put-place.new.mem c.args.room.now.top (head_word HEAP_BIN (1 + bin_words (length c.args.bytes.now)) ∷ length c.args.bytes.now ∷ []) =
    subst P c.head_of.ensures c.put-place.ensures.words in
    lie-still _ (bin_words (length c.args.bytes.now)) c.put-place.new.room _ _ _ c.args.room.now.top c.put-place.ensures.uses.moved c.put_bytes.ensures.uses first

pub returns-clause-bytes : goal.returns-clause-bytes
returns-clause-bytes c = let P : ℕ → Type 0 = λ q. BytesLie c.put_bytes.new.mem q c.args.bytes.now in subst P c.put-place.ensures.uses.moved c.put_bytes.ensures.bytes

pub returns-clause-kept : goal.returns-clause-kept
returns-clause-kept c = λ roles k d taken. taken-kept roles k d (2 + bin_words (length c.args.bytes.now)) _ _ _ _ (returns-clause-uses c) taken

pub returns-clause-made : goal.returns-clause-made
returns-clause-made c = λ k d shared taken.
    bin-made k d c.args.room.now.top c.put_bytes.new.mem c.boxed_at.result c.args.bytes.now (returns-clause-place c) c.requires.few
    (omega (arith, c.requires.words, c.requires.places.inside, (returns-clause-uses c).same_len)) (returns-clause-words c) (returns-clause-bytes c) taken shared

pub returns-clause-built : goal.returns-clause-built
returns-clause-built c = λ k shared free.
    built-by plain k (2 + bin_words (length c.args.bytes.now)) _ _ _ _ shared _ (Bin c.args.bytes.now) plain-object free (returns-clause-uses c) (λ d taken. returns-clause-made c k d shared taken)

pub returns-clause-made_clear : goal.returns-clause-made_clear
returns-clause-made_clear c = λ shared.
    clear-by plain (2 + bin_words (length c.args.bytes.now)) _ _ _ _ shared _ (Bin c.args.bytes.now) c.requires.words (returns-clause-uses c)
    (λ d taken. returns-clause-made c (outside c.args.room.now.top c.args.room.now.end) d shared taken)

pub returns-clause-kept_clear : goal.returns-clause-kept_clear
returns-clause-kept_clear c = taken-keeps (2 + bin_words (length c.args.bytes.now)) _ _ _ _ c.requires.words (returns-clause-uses c)
