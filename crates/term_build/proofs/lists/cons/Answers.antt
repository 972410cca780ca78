use Rattle.std.proofs.Common.{rules, arith, ◌+◌, ◌∷◌, []}
use Rattle.std.proofs.lemmas.Grind.{common_steps}
use Rattle.term_words.specs.Role.{outside}
use Rattle.term_words.specs.Stands.{Stands}
use Rattle.plain_term.specs.Tree.Tree.{Cons}
use Rattle.term_build.specs.Taken.{plain, with_object}
use Rattle.term_build.proofs.Taking.{plain-object, lie-none, lie-first, taken-kept, with-object-taken, cons-made}
use Rattle.term_build.proofs.Growing.{grown}
use Rattle.term_build.proofs.Rooms.{room-taken, room-moved, taken-keeps}
use Rattle.term_build.proofs.lists.cons.Goals as goal

pub returns-clause-uses : goal.returns-clause-uses
returns-clause-uses c = record {
  same_start = search rules;
  moved = search rules;
  same_end = search rules;
  same_len = grind (arith, common_steps);
  others = λ q apart. grind (arith, common_steps);
}

pub returns-clause-words : goal.returns-clause-words
returns-clause-words c =
    lie-first c.set-2.new.self c.args.room.now.top c.args.h (c.args.t ∷ []) (grind (arith, common_steps))
    (lie-first c.set-2.new.self (c.args.room.now.top + 1) c.args.t [] (grind (arith, common_steps)) (lie-none c.set-2.new.self (c.args.room.now.top + 1 + 1)))

pub returns-clause-kept : goal.returns-clause-kept
returns-clause-kept c = λ roles k d taken. taken-kept roles k d 2 _ _ _ _ (returns-clause-uses c) taken

pub returns-clause-made : goal.returns-clause-made
returns-clause-made c = λ k d shared a b taken.
    cons-made k d c.args.room.now.top c.args.mem.now c.set-2.new.self c.args.h c.args.t c.list_at.result (omega (arith, c.requires.words, c.requires.places.inside, (returns-clause-uses c).same_len))
    (returns-clause-words c) c.list_at.ensures taken (returns-clause-kept c plain k d taken) shared a b

pub returns-clause-kept_clear : goal.returns-clause-kept_clear
returns-clause-kept_clear c = taken-keeps 2 _ _ _ _ c.requires.words (returns-clause-uses c)

pub returns-clause-made_clear : goal.returns-clause-made_clear
returns-clause-made_clear c = λ shared a b sa sb.
    room-moved 2 _ _ _ _ (λ d. Stands d shared c.set-2.new.self c.list_at.result (Cons a b)) (returns-clause-uses c)
    (returns-clause-made c (outside c.args.room.now.top c.args.room.now.end) (outside (c.args.room.now.top + 2) c.args.room.now.end) shared a b
    (room-taken plain 2 c.args.room.now.top c.args.room.now.end c.requires.words) sa sb)

pub returns-clause-built : goal.returns-clause-built
returns-clause-built c = λ k shared a b free sa sb. record {
  test = with_object plain k c.args.room.now.top 2;
  grows = grown plain k 2 c.args.room.now _ _ _ plain-object free (returns-clause-uses c);
  made = returns-clause-made c k (with_object plain k c.args.room.now.top 2) shared a b (with-object-taken plain k c.args.room.now.top 2 free) sa sb;
}
