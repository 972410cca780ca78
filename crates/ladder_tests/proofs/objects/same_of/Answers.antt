use Rattle.std.proofs.Common.{◌+◌, arith}
use Rattle.plain_term.specs.Tree.Tree.{Tuple}
use Rattle.plain_term.specs.Tree.{same_trees}
use Rattle.ladder_tests.specs.Bench.{shared_of}
use Rattle.ladder_tests.proofs.Good.{one-made, same-named}
use Rattle.ladder_tests.proofs.objects.same_of.Goals as goal

pub returns : goal.returns
returns c =
    let one = c.requires.good.each 0 (omega arith) in
    one-made (1 + c.args.n) (shared_of c.args.rolls.now) c.args.names.now _ _ _ _ _ (Tuple (same_trees c.args.n one.tree)) c.same_tuple.ensures.uses c.requires.place (omega (arith, c.requires.spare))
    c.same_tuple.ensures.kept_clear (c.same_tuple.ensures.made_clear _ _ one.clear) (same-named _ c.args.n one.tree one.named)
