use Rattle.std.proofs.Common.{ℕ, ◌+◌, [], ◌∷◌, replicate, sym, subst, arith}
use Rattle.std.proofs.lemmas.List.{length-replicate}
use Rattle.term_tags.specs.Words.{head_word}
use Rattle.term_tags.specs.declared.layouts.TheConstants.{TUPLE}
use Rattle.term_words.specs.Role.{outside}
use Rattle.plain_term.specs.Tree.Tree.{Tuple}
use Rattle.term_build.specs.Taken.{Lie, plain}
use Rattle.plain_term.specs.Tree.{same_trees}
use Rattle.term_build.proofs.Taking.{plain-object, taken-kept, tuple-made}
use Rattle.term_build.proofs.Rooms.{taken-keeps}
use Rattle.term_build.proofs.Putting.{built-by, clear-by, lie-still, lie-join, uses-both}
use Rattle.term_build.proofs.Objects.{same-row}
use Rattle.term_build.proofs.tuples.same_tuple.Goals as goal

pub returns-clause-uses : goal.returns-clause-uses
returns-clause-uses c = uses-both 1 c.args.n _ _ _ _ _ _ c.put-place.ensures.uses c.put_same.ensures.uses

pub returns-clause-place : goal.returns-clause-place
returns-clause-place c = omega (arith, c.boxed_at.ensures, c.put-place.ensures.place)

pub returns-clause-words : goal.returns-clause-words
returns-clause-words c =
    let P : ℕ → Type 0 = λ h. Lie c.put-place.new.mem c.args.room.now.top (h ∷ []) in
    let head : Lie c.put-place.new.mem c.args.room.now.top (head_word TUPLE c.args.n ∷ []) = subst P c.head_of.ensures c.put-place.ensures.words in
    lie-join _ _ c.put_same.new.mem c.args.room.now.top c.put-place.new.room.top c.put-place.ensures.uses.moved
    (lie-still _ c.args.n c.put-place.new.room _ _ _ c.args.room.now.top c.put-place.ensures.uses.moved c.put_same.ensures.uses head) c.put_same.ensures.words

pub returns-clause-kept : goal.returns-clause-kept
returns-clause-kept c = λ roles k d taken. taken-kept roles k d (1 + c.args.n) _ _ _ _ (returns-clause-uses c) taken

pub returns-clause-made : goal.returns-clause-made
returns-clause-made c = λ k d shared t taken s.
    tuple-made k d c.args.room.now.top c.args.n c.args.mem.now c.put_same.new.mem (replicate c.args.n c.args.w) c.boxed_at.result (sym (length-replicate c.args.n c.args.w)) c.requires.few
    (omega (arith, c.requires.words, c.requires.places.inside, (returns-clause-uses c).same_len)) (returns-clause-words c) (returns-clause-place c) taken (returns-clause-kept c plain k d taken)
    shared (same_trees c.args.n t) (same-row k shared c.args.mem.now c.args.n c.args.w t s)

pub returns-clause-built : goal.returns-clause-built
returns-clause-built c = λ k shared t free s.
    built-by plain k (1 + c.args.n) _ _ _ _ shared _ (Tuple (same_trees c.args.n t)) plain-object free (returns-clause-uses c) (λ d taken. returns-clause-made c k d shared t taken s)

pub returns-clause-made_clear : goal.returns-clause-made_clear
returns-clause-made_clear c = λ shared t s.
    clear-by plain (1 + c.args.n) _ _ _ _ shared _ (Tuple (same_trees c.args.n t)) c.requires.words (returns-clause-uses c)
    (λ d taken. returns-clause-made c (outside c.args.room.now.top c.args.room.now.end) d shared t taken s)

pub returns-clause-kept_clear : goal.returns-clause-kept_clear
returns-clause-kept_clear c = taken-keeps (1 + c.args.n) _ _ _ _ c.requires.words (returns-clause-uses c)
