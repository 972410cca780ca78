use Rattle.std.proofs.Common.{[]}
use Rattle.off_heap_list.proofs.Walked.Turning.{turn-begins}
use Rattle.off_heap_list.proofs.whole.turn_chain.Goals as goal

pub turn_onto-requires : goal.turn_onto-requires
turn_onto-requires c = record {
  test = c.requires.test;
  single = c.requires.single;
  os = c.requires.os;
  kept = [];
  further = c.requires.further;
  number = c.requires.number;
  turning = turn-begins c.requires.test c.args.mem.now c.args.head c.requires.os c.requires.further c.requires.links;
}

pub returns : goal.returns
returns c = λ k os further single number l.
    let t = c.turn_onto.ensures k os [] further single number (turn-begins k c.args.mem.now c.args.head os further l) in
    record { links = t.links; writes = t.writes; others = t.others; trees = t.trees }
