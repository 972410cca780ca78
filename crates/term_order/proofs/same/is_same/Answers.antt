use Rattle.std.proofs.Common.{◌<◌, arith}
use Rattle.std.proofs.lemmas.Bool.Decides.{nat_tests}
use Rattle.term_order.proofs.Sames.{some-left}
use Rattle.term_order.proofs.same.is_same.Goals as goal

pub returns : goal.returns
returns c = λ e. let some : 0 < c.same_term.result = grind (arith, nat_tests, e) in
    some-left c.args.mem.now c.args.a c.args.b 64 c.same_term.result some (c.same_term.ensures.same some)
