use Rattle.std.proofs.Common.{rules, arith, ◌+◌, length, refl}
use Rattle.std.proofs.lemmas.Grind.{common_steps}
use Rattle.term_tags.specs.Words.{head_word}
use Rattle.term_tags.specs.declared.layouts.TheConstants.{TUPLE}
use Rattle.term_words.specs.Role.{outside}
use Rattle.term_words.specs.Stands.{Stands}
use Rattle.plain_term.specs.Tree.Tree.{Tuple}
use Rattle.term_build.specs.Taken.{plain, with_object}
use Rattle.term_build.proofs.Taking.{plain-object, lie-first, taken-kept, with-object-taken, tuple-made}
use Rattle.term_build.proofs.Growing.{grown}
use Rattle.term_build.proofs.Rooms.{room-taken, room-moved, taken-keeps}
use Rattle.term_build.proofs.tuples.tuple.Goals as goal

pub returns-clause-uses : goal.returns-clause-uses
returns-clause-uses c = record {
  same_start = search rules;
  moved = search rules;
  same_end = search rules;
  same_len = grind (arith, common_steps);
  others = λ q apart. grind (arith, common_steps, c.put_row.ensures.others q);
}

pub returns-clause-words : goal.returns-clause-words
returns-clause-words c =
    lie-first c.put_row.new.mem c.args.room.now.top (head_word TUPLE (length c.args.parts.now)) c.args.parts.now (grind (arith, common_steps, c.put_row.ensures.others c.args.room.now.top))
    (record { each = λ j q below e. c.put_row.ensures.row q j below e })

pub returns-clause-kept : goal.returns-clause-kept
returns-clause-kept c = λ roles k d taken. taken-kept roles k d (1 + length c.args.parts.now) _ _ _ _ (returns-clause-uses c) taken

pub returns-clause-made : goal.returns-clause-made
returns-clause-made c = λ k d shared ts taken all.
    tuple-made k d c.args.room.now.top (length c.args.parts.now) c.args.mem.now c.put_row.new.mem c.args.parts.now c.boxed_at.result refl c.requires.few
    (omega (arith, c.requires.words, c.requires.places.inside, (returns-clause-uses c).same_len))
    (returns-clause-words c) c.boxed_at.ensures taken (returns-clause-kept c plain k d taken) shared ts all

pub returns-clause-kept_clear : goal.returns-clause-kept_clear
returns-clause-kept_clear c = taken-keeps (1 + length c.args.parts.now) _ _ _ _ c.requires.words (returns-clause-uses c)

pub returns-clause-made_clear : goal.returns-clause-made_clear
returns-clause-made_clear c = λ shared ts all.
    room-moved (1 + length c.args.parts.now) _ _ _ _ (λ d. Stands d shared c.put_row.new.mem c.boxed_at.result (Tuple ts)) (returns-clause-uses c)
    (returns-clause-made c (outside c.args.room.now.top c.args.room.now.end) (outside (c.args.room.now.top + (1 + length c.args.parts.now)) c.args.room.now.end) shared ts
    (room-taken plain (1 + length c.args.parts.now) c.args.room.now.top c.args.room.now.end c.requires.words) all)

pub returns-clause-built : goal.returns-clause-built
returns-clause-built c = λ k shared ts free all. record {
  test = with_object plain k c.args.room.now.top (1 + length c.args.parts.now);
  grows = grown plain k (1 + length c.args.parts.now) c.args.room.now _ _ _ plain-object free (returns-clause-uses c);
  made = returns-clause-made c k (with_object plain k c.args.room.now.top (1 + length c.args.parts.now)) shared ts
      (with-object-taken plain k c.args.room.now.top (1 + length c.args.parts.now) free) all;
}
