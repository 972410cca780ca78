use Rattle.std.proofs.Common.{ℕ, [], ◌∷◌, arith, subst}
use Rattle.term_words.specs.Role.{outside}
use Rattle.plain_term.specs.Tree.Tree.{Part}
use Rattle.term_build.specs.Taken.{Lie, plain}
use Rattle.term_build.proofs.Taking.{plain-object, taken-kept}
use Rattle.term_build.proofs.Rooms.{taken-keeps}
use Rattle.term_build.proofs.Putting.{built-by, clear-by}
use Rattle.term_build.proofs.Objects.{part-made}
use Rattle.term_build.proofs.sub_bins.sub_bin.Goals as goal

pub returns-clause-place : goal.returns-clause-place
returns-clause-place c = omega (arith, c.boxed_at.ensures, c.put-place.ensures.place)

pub returns-clause-words : goal.returns-clause-words
returns-clause-words c =
    let P : ℕ → Type 0 = λ h. Lie c.put-place.new.mem c.args.room.now.top (h ∷ c.args.len ∷ c.args.off ∷ 0 ∷ c.args.base ∷ []) in
    subst P c.head_of.ensures c.put-place.ensures.words

pub returns-clause-kept : goal.returns-clause-kept
returns-clause-kept c = λ roles k d taken. taken-kept roles k d 5 _ _ _ _ c.put-place.ensures.uses taken

pub returns-clause-made : goal.returns-clause-made
returns-clause-made c = λ k d shared t taken whole fits s.
    part-made k d c.args.room.now.top c.args.mem.now c.put-place.new.mem c.boxed_at.result c.args.base c.args.off c.args.len (returns-clause-place c)
    (omega (arith, c.requires.words, c.requires.places.inside, c.put-place.ensures.uses.same_len))
    (returns-clause-words c) taken (returns-clause-kept c plain k d taken) shared t whole fits s

pub returns-clause-built : goal.returns-clause-built
returns-clause-built c = λ k shared t free whole fits s.
    built-by plain k 5 _ _ _ _ shared _ (Part t c.args.off c.args.len) plain-object free c.put-place.ensures.uses (λ d taken. returns-clause-made c k d shared t taken whole fits s)

pub returns-clause-made_clear : goal.returns-clause-made_clear
returns-clause-made_clear c = λ shared t whole fits s.
    clear-by plain 5 _ _ _ _ shared _ (Part t c.args.off c.args.len) c.requires.words c.put-place.ensures.uses
    (λ d taken. returns-clause-made c (outside c.args.room.now.top c.args.room.now.end) d shared t taken whole fits s)

pub returns-clause-kept_clear : goal.returns-clause-kept_clear
returns-clause-kept_clear c = taken-keeps 5 _ _ _ _ c.requires.words c.put-place.ensures.uses
