use Rattle.std.proofs.Common.{arith}
use Rattle.ladder_tests.proofs.Good.{term-at, can-print}
use Rattle.ladder_tests.proofs.texts.is_cut.Goals as goal

pub measure-requires : goal.measure-requires
measure-requires c = term-at c.args.names.now _ _ 0 c.requires.terms (omega (arith, c.if-words-ne1.false))

pub print-requires : goal.print-requires
print-requires c = can-print c.args.names.now _ _ 0 c.measure.result _ c.requires.terms (omega (arith, c.if-words-ne1.false)) c.measure.ensures c.in-Within.is
