use Rattle.std.proofs.Common.{[], sym}
use Rattle.off_heap_list.specs.Whole.{turned}
use Rattle.off_heap_list.specs.Dealt.{inside_of, outside_of}
use Rattle.off_heap_list.proofs.Walked.Parted.{dealt-whole}
use Rattle.off_heap_list.proofs.deal.deal_chain.Goals as goal

pub turn_onto-requires : goal.turn_onto-requires
turn_onto-requires c =
    let d = c.deal_apart-deal.ensures c.requires.test c.requires.os c.requires.rest c.requires.further c.requires.single c.requires.number c.requires.links in
    record {
      test = c.requires.test;
      single = c.requires.single;
      os = turned (outside_of c.args.span c.requires.os) [];
      kept = turned (inside_of c.args.span c.requires.os) c.requires.rest;
      further = c.requires.further;
      number = sym d.count;
      turning = d.turning;
    }

pub returns : goal.returns
returns c = λ k os rest further single number f.
    let d = c.deal_apart-deal.ensures k os rest further single number f in
    dealt-whole k c.args.mem.now c.deal_apart-deal.new.mem c.turn_onto.new.mem c.turn_onto.result c.deal_apart-deal.result os rest further c.args.span single d
    (c.turn_onto.ensures k (turned (outside_of c.args.span os) []) (turned (inside_of c.args.span os) rest) further single (sym d.count) d.turning)
