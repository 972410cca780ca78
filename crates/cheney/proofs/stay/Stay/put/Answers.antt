use Rattle.std.proofs.Common.{arith}
use Rattle.std.proofs.lemmas.Grind.{common_steps}
use Rattle.cheney.proofs.Before.Spans.{put-places}
use Rattle.cheney.proofs.stay.Stay.put.Goals as goal

pub returns-clause-places : goal.returns-clause-places
returns-clause-places c = put-places c.args.self.now.spans.items c.push.new.self.items c.args.span c.end_with-end.result c.push.ensures.items c.end_with-end.ensures.least
    c.end_with-end.ensures.known c.requires.after

pub push-requires : goal.push-requires
push-requires c = grind (arith, common_steps)

pub invariant_of-self : goal.invariant_of-self
invariant_of-self c = grind (arith, common_steps)

pub returns-clause-len : goal.returns-clause-len
returns-clause-len c = grind (arith, common_steps)

pub returns-clause-begin : goal.returns-clause-begin
returns-clause-begin c = grind (arith, common_steps)
