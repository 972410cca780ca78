use Rattle.std.proofs.Common.{◌+◌, length, arith}
use Rattle.plain_term.specs.Tree.Tree.{Tuple}
use Rattle.ladder_tests.specs.Bench.{shared_of}
use Rattle.ladder_tests.proofs.Good.{one-made, row-good}
use Rattle.ladder_tests.proofs.objects.tuple_of.Goals as goal

pub returns : goal.returns
returns c =
    let row = row-good _ _ _ _ _ c.requires.good in
    one-made (1 + length c.args.parts.now) (shared_of c.args.rolls.now) c.args.names.now _ _ _ _ _ (Tuple row.trees) c.tuple.ensures.uses c.requires.place (omega (arith, c.requires.spare))
    c.tuple.ensures.kept_clear (c.tuple.ensures.made_clear _ _ row.clear) row.named
