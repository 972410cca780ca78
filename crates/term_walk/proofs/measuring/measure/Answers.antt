use Rattle.term_walk.proofs.Passing.{measures-slight}
use Rattle.term_walk.proofs.measuring.measure.Goals as goal

pub returns-then-w-eq3 : goal.returns-then-w-eq3
returns-then-w-eq3 c = measures-slight c.args.mem.now c.args.w c.if-w-eq3.true
