use Rattle.std.proofs.Common.{arith}
use Rattle.term_words.proofs.ByKind.Inside.{cons-inside}
use Rattle.term_order.proofs.Passing.{first-of, second-of}
use Rattle.term_order.proofs.runs.is_same_cell.Goals as goal

pub get-head-requires : goal.get-head-requires
get-head-requires c = omega (arith, cons-inside c.args.mem.now c.args.left (first-of c.args.mem.now c.args.left c.args.right c.requires) c.if-left-ne1.false)

pub get-requires : goal.get-requires
get-requires c = omega (arith, cons-inside c.args.mem.now c.args.right (second-of c.args.mem.now c.args.left c.args.right c.requires) c.if-right-ne1.false)
