use Rattle.std.proofs.Common.{arith}
use Rattle.cheney.proofs.Stepping.Steps.{cons-within}
use Rattle.cheney.proofs.spine.fresh_cons.Goals as goal

pub get-head-requires : goal.get-head-requires
get-head-requires c = omega (arith, cons-within c.args.mem.now c.args.mv.now c.args.w c.requires c.if-w-ne1.false)

pub get-requires : goal.get-requires
get-requires c = omega (arith, cons-within c.args.mem.now c.args.mv.now c.args.w c.requires c.if-w-ne1.false)
