use Rattle.lower_tests.proofs.Sample.{in-sample, empty-term, list-term, tuple-term}
use Rattle.lower_tests.proofs.term_parts.lists_and_tuples.Goals as goal

pub hd-requires : goal.hd-requires
hd-requires c = in-sample c.args.mem.now 5 c.requires list-term

pub tl-requires : goal.tl-requires
tl-requires c = in-sample c.args.mem.now 5 c.requires list-term

pub hd-requires-then-eq-2 : goal.hd-requires-then-eq-2
hd-requires-then-eq-2 c = in-sample c.args.mem.now 190 c.requires empty-term

pub element-requires : goal.element-requires
element-requires c = in-sample c.args.mem.now 14 c.requires tuple-term

pub element-requires-then-eq-3 : goal.element-requires-then-eq-3
element-requires-then-eq-3 c = in-sample c.args.mem.now 14 c.requires tuple-term

pub element-requires-then-is_none-2 : goal.element-requires-then-is_none-2
element-requires-then-is_none-2 c = in-sample c.args.mem.now 190 c.requires empty-term
