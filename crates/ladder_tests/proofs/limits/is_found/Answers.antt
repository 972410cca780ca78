use Rattle.std.proofs.Common.{arith}
use Rattle.ladder_tests.proofs.Good.{term-at, terms-named}
use Rattle.ladder_tests.proofs.limits.is_found.Goals as goal

pub measure-found-requires : goal.measure-found-requires
measure-found-requires c = term-at c.args.names.now _ _ 0 c.requires (omega (arith, c.if-words-ne1.false))

pub compare-told-requires : goal.compare-told-requires
compare-told-requires c = terms-named _ _ _ 0 0 c.requires (omega (arith, c.if-words-ne1.false)) (omega (arith, c.if-words-ne1.false))
