use Rattle.lower_tests.proofs.Sample.{in-sample, fun-term, part-term, wide-term}
use Rattle.lower_tests.proofs.term_parts.looks.Goals as goal

pub look_at-requires : goal.look_at-requires
look_at-requires c = in-sample c.args.mem.now 118 c.requires fun-term

pub look_at-requires-2 : goal.look_at-requires-2
look_at-requires-2 c = in-sample c.args.mem.now 82 c.requires part-term

pub look_at-requires-3 : goal.look_at-requires-3
look_at-requires-3 c = in-sample c.args.mem.now 194 c.requires wide-term
