use Rattle.std.proofs.Common.{ℕ, [], ◌∷◌, arith, subst}
use Rattle.term_words.specs.Role.{outside}
use Rattle.plain_term.specs.Tree.Tree.{Ref}
use Rattle.term_build.specs.Taken.{Lie, plain}
use Rattle.term_build.proofs.Taking.{plain-object, taken-kept}
use Rattle.term_build.proofs.Rooms.{taken-keeps}
use Rattle.term_build.proofs.Putting.{built-by, clear-by}
use Rattle.term_build.proofs.Objects.{ref-made}
use Rattle.term_build.proofs.references.reference.Goals as goal

pub returns-clause-place : goal.returns-clause-place
returns-clause-place c = omega (arith, c.boxed_at.ensures, c.put-place.ensures.place)

pub returns-clause-words : goal.returns-clause-words
returns-clause-words c =
    let P : ℕ → Type 0 = λ h. Lie c.put-place.new.mem c.args.room.now.top (h ∷ c.args.n ∷ c.args.k ∷ []) in
    subst P c.head_of.ensures c.put-place.ensures.words

pub returns-clause-kept : goal.returns-clause-kept
returns-clause-kept c = λ roles k d taken. taken-kept roles k d 3 _ _ _ _ c.put-place.ensures.uses taken

pub returns-clause-made : goal.returns-clause-made
returns-clause-made c = λ k d shared taken.
    ref-made k d c.args.room.now.top c.put-place.new.mem c.boxed_at.result c.args.n c.args.k (returns-clause-place c)
    (omega (arith, c.requires.words, c.requires.places.inside, c.put-place.ensures.uses.same_len)) (returns-clause-words c) taken shared

pub returns-clause-built : goal.returns-clause-built
returns-clause-built c = λ k shared free.
    built-by plain k 3 _ _ _ _ shared _ (Ref c.args.n c.args.k) plain-object free c.put-place.ensures.uses (λ d taken. returns-clause-made c k d shared taken)

pub returns-clause-made_clear : goal.returns-clause-made_clear
returns-clause-made_clear c = λ shared.
    clear-by plain 3 _ _ _ _ shared _ (Ref c.args.n c.args.k) c.requires.words c.put-place.ensures.uses
    (λ d taken. returns-clause-made c (outside c.args.room.now.top c.args.room.now.end) d shared taken)

pub returns-clause-kept_clear : goal.returns-clause-kept_clear
returns-clause-kept_clear c = taken-keeps 3 _ _ _ _ c.requires.words c.put-place.ensures.uses
