use Rattle.std.proofs.Common.{[], sym}
use Rattle.off_heap_list.specs.Whole.{moved_of, turned}
use Rattle.off_heap_list.proofs.Walked.Turning.{in-old-order}
use Rattle.off_heap_list.proofs.whole.sweep_chain.Goals as goal

pub turn_chain-requires : goal.turn_chain-requires
turn_chain-requires c =
    let w = (c.sweep_front.ensures c.requires.test c.requires.os 0 c.requires.further c.requires.single c.requires.number c.requires.begins).whole in
    record {
      test = c.requires.test;
      single = c.requires.single;
      os = turned (moved_of c.args.mem.now c.requires.os) [];
      further = c.requires.further;
      number = sym w.len;
      links = w.links;
    }

pub returns-in-Turned : goal.returns-in-Turned
returns-in-Turned c = λ k os further single number s. rw c.in-Turned.is (c.sweep_front.ensures k os 0 further single number s).whole

pub returns-in-Same : goal.returns-in-Same
returns-in-Same c = λ k os further single number s.
    let w = (c.sweep_front.ensures k os 0 further single number s).whole in
    rw c.in-Same.is
    (in-old-order k c.args.mem.now c.sweep_front.new.mem c.turn_chain.new.mem os (moved_of c.args.mem.now os) further c.sweep_front.result.left c.turn_chain.result single w
    (c.turn_chain.ensures k (turned (moved_of c.args.mem.now os) []) further single (sym w.len) w.links))
