use Rattle.std.proofs.Common.{ℕ, [], ◌∷◌, arith, subst}
use Rattle.term_words.specs.Role.{outside}
use Rattle.plain_term.specs.Tree.Tree.{Shared}
use Rattle.term_build.specs.Taken.{Lie, of_holder}
use Rattle.term_build.proofs.Taking.{holder-next, holder-object, taken-kept, taken-content}
use Rattle.term_build.proofs.Rooms.{taken-keeps}
use Rattle.term_build.proofs.Putting.{built-link, clear-by}
use Rattle.term_build.proofs.Objects.{shared-made}
use Rattle.term_build.proofs.holders.holder.Goals as goal

pub returns-clause-place : goal.returns-clause-place
returns-clause-place c = omega (arith, c.boxed_at.ensures, c.put-place.ensures.place)

pub returns-clause-words : goal.returns-clause-words
returns-clause-words c =
    let P : ℕ → Type 0 = λ h. Lie c.put-place.new.mem c.args.room.now.top (h ∷ c.args.len ∷ c.args.next ∷ c.args.rec ∷ 0 ∷ 0 ∷ []) in
    subst P c.head_of.ensures c.put-place.ensures.words

pub returns-clause-kept : goal.returns-clause-kept
returns-clause-kept c = λ roles k d taken. taken-kept roles k d 6 _ _ _ _ c.put-place.ensures.uses taken

pub returns-clause-made : goal.returns-clause-made
returns-clause-made c = λ k d shared id taken named.
    shared-made k d c.args.room.now.top c.args.mem.now c.put-place.new.mem c.boxed_at.result c.args.rec c.args.len c.args.next (returns-clause-place c)
    (omega (arith, c.requires.words, c.requires.places.inside, c.put-place.ensures.uses.same_len))
    (returns-clause-words c) taken (taken-content of_holder k d 6 _ _ _ _ c.put-place.ensures.uses taken) shared id named

pub returns-clause-built : goal.returns-clause-built
returns-clause-built c = λ k shared id free named.
    built-link of_holder k 6 _ _ _ _ shared _ (Shared id) holder-object holder-next free c.put-place.ensures.uses (λ d taken. returns-clause-made c k d shared id taken named)

pub returns-clause-made_clear : goal.returns-clause-made_clear
returns-clause-made_clear c = λ shared id named.
    clear-by of_holder 6 _ _ _ _ shared _ (Shared id) c.requires.words c.put-place.ensures.uses
    (λ d taken. returns-clause-made c (outside c.args.room.now.top c.args.room.now.end) d shared id taken named)

pub returns-clause-kept_clear : goal.returns-clause-kept_clear
returns-clause-kept_clear c = taken-keeps 6 _ _ _ _ c.requires.words c.put-place.ensures.uses
