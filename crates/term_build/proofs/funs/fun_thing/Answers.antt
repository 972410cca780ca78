use Rattle.std.proofs.Common.{ℕ, ◌+◌, [], ◌∷◌, length, refl, arith, subst}
use Rattle.std.proofs.lemmas.Grind.{common_steps}
use Rattle.term_tags.specs.Words.{head_word, pid_word}
use Rattle.term_tags.specs.declared.layouts.TheConstants.{FUN}
use Rattle.term_words.specs.Role.{outside}
use Rattle.plain_term.specs.Tree.Tree.{Fun}
use Rattle.term_build.specs.Taken.{Lie, of_fun}
use Rattle.term_build.proofs.Taking.{fun-next, fun-object, taken-kept, taken-content}
use Rattle.term_build.proofs.Rooms.{taken-keeps}
use Rattle.term_build.proofs.Putting.{built-link, clear-by, lie-still, lie-join, uses-both}
use Rattle.term_build.proofs.Objects.{fun-made}
use Rattle.term_build.proofs.funs.fun_thing.Goals as goal

pub returns-clause-uses : goal.returns-clause-uses
returns-clause-uses c = uses-both 6 (length c.args.env.now) _ _ _ _ _ _ c.put-place.ensures.uses c.put.ensures.uses

pub returns-clause-place : goal.returns-clause-place
returns-clause-place c = omega (arith, c.boxed_at.ensures, c.put-place.ensures.place)

pub returns-clause-words : goal.returns-clause-words
returns-clause-words c =
    let P : ℕ → Type 0 = λ h. Lie c.put-place.new.mem c.args.room.now.top (h ∷ c.args.rec ∷ c.args.next ∷ c.args.arity ∷ length c.args.env.now ∷ c.pid.result ∷ []) in
    let Q : ℕ → Type 0 = λ p. Lie c.put-place.new.mem c.args.room.now.top (head_word FUN (5 + length c.args.env.now) ∷ c.args.rec ∷ c.args.next ∷ c.args.arity ∷ length c.args.env.now ∷ p ∷ []) in
    let first : Lie c.put-place.new.mem c.args.room.now.top
    (head_word FUN (5 + length c.args.env.now) ∷ c.args.rec ∷ c.args.next ∷ c.args.arity ∷ length c.args.env.now ∷ pid_word c.args.creator ∷ []) =
    subst Q c.pid.ensures (subst P c.head_of.ensures c.put-place.ensures.words) in
    lie-join _ _ c.put.new.mem c.args.room.now.top c.put-place.new.room.top c.put-place.ensures.uses.moved
    (lie-still _ (length c.args.env.now) c.put-place.new.room _ _ _ c.args.room.now.top c.put-place.ensures.uses.moved c.put.ensures.uses first) c.put.ensures.words

pub returns-clause-kept : goal.returns-clause-kept
returns-clause-kept c = λ roles k d taken. taken-kept roles k d (6 + length c.args.env.now) _ _ _ _ (returns-clause-uses c) taken

pub returns-clause-made : goal.returns-clause-made
returns-clause-made c = λ k d shared name ts taken named all.
    fun-made k d c.args.room.now.top (length c.args.env.now) c.args.mem.now c.put.new.mem c.args.env.now c.boxed_at.result c.args.rec c.args.next c.args.arity c.args.creator refl
    (returns-clause-place c) c.requires.few c.requires.process (omega (arith, c.requires.words, c.requires.places.inside, (returns-clause-uses c).same_len)) (returns-clause-words c) taken
    (taken-content of_fun k d (6 + length c.args.env.now) _ _ _ _ (returns-clause-uses c) taken) (returns-clause-kept c of_fun k d taken) shared name ts named all

pub returns-clause-built : goal.returns-clause-built
returns-clause-built c = λ k shared name ts free named all.
    built-link of_fun k (6 + length c.args.env.now) _ _ _ _ shared _ (Fun name c.args.arity c.args.creator ts) fun-object fun-next free (returns-clause-uses c)
    (λ d taken. returns-clause-made c k d shared name ts taken named all)

pub returns-clause-made_clear : goal.returns-clause-made_clear
returns-clause-made_clear c = λ shared name ts named all.
    clear-by of_fun (6 + length c.args.env.now) _ _ _ _ shared _ (Fun name c.args.arity c.args.creator ts) c.requires.words (returns-clause-uses c)
    (λ d taken. returns-clause-made c (outside c.args.room.now.top c.args.room.now.end) d shared name ts taken named all)

pub returns-clause-kept_clear : goal.returns-clause-kept_clear
returns-clause-kept_clear c = taken-keeps (6 + length c.args.env.now) _ _ _ _ c.requires.words (returns-clause-uses c)

pub overflow_add-count : goal.overflow_add-count
overflow_add-count c = grind (arith, common_steps)

pub head_of-requires-clause-subtag : goal.head_of-requires-clause-subtag
head_of-requires-clause-subtag c = grind (arith, common_steps)

pub head_of-requires-clause-arity : goal.head_of-requires-clause-arity
head_of-requires-clause-arity c = grind (arith, common_steps)

pub pid-requires : goal.pid-requires
pid-requires c = grind (arith, common_steps)

pub slice_bounds-put-end : goal.slice_bounds-put-end
slice_bounds-put-end c = grind (arith, common_steps)

pub put-place-requires-clause-places : goal.put-place-requires-clause-places
put-place-requires-clause-places c = grind (arith, common_steps)

pub put-place-requires-clause-words : goal.put-place-requires-clause-words
put-place-requires-clause-words c = grind (arith, common_steps)

pub put-requires-clause-places : goal.put-requires-clause-places
put-requires-clause-places c = grind (arith, common_steps)

pub put-requires-clause-words : goal.put-requires-clause-words
put-requires-clause-words c = grind (arith, common_steps)

pub boxed_at-requires : goal.boxed_at-requires
boxed_at-requires c = grind (arith, common_steps)
