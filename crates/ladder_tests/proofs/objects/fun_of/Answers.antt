use Rattle.std.proofs.Common.{◌+◌, length, arith}
use Rattle.plain_term.specs.Tree.Tree.{Fun}
use Rattle.ladder_tests.specs.Bench.{shared_of}
use Rattle.ladder_tests.proofs.Good.{one-made, made-after, good-after, row-good, fun-named}
use Rattle.ladder_tests.proofs.objects.fun_of.Goals as goal

pub returns : goal.returns
returns c =
    let row = row-good (shared_of c.args.rolls.now) c.args.names.now c.put_entry-rec.new.room c.put_entry-rec.new.mem c.args.env.now
    (good-after (shared_of c.args.rolls.now) c.args.names.now c.args.room.now c.put_entry-rec.new.room _ _ c.args.env.now c.put_entry-rec.ensures.kept c.requires.good) in
    let named = (c.is_entry.ensures c.if-not-is_entry.false).0 in
    made-after (shared_of c.args.rolls.now) c.args.names.now c.args.room.now c.put_entry-rec.new.room c.fun_thing.new.room _ _ _ _ c.put_entry-rec.ensures.kept
    (one-made (6 + length c.args.env.now) (shared_of c.args.rolls.now) c.args.names.now _ _ _ _ _ (Fun c.args.name c.args.arity c.args.creator row.trees) c.fun_thing.ensures.uses
    c.put_entry-rec.ensures.place
    (omega (arith, c.put_entry-rec.ensures.spare, c.if-env-gt-MOST_PARTS.false)) c.fun_thing.ensures.kept_clear
    (c.fun_thing.ensures.made_clear _ c.args.name row.trees c.put_entry-rec.ensures.record_is row.clear)
    (fun-named _ c.args.name row.trees (omega (arith, named, c.count.ensures.value)) row.named))
