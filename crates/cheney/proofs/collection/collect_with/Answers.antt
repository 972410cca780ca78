use Rattle.std.proofs.Common.{arith}
use Rattle.cheney.specs.Zones.{at_objects}
use Rattle.cheney.proofs.Rooted.Stacked.{stack-moves, with-ended, with-length, with-moves, with-scans}
use Rattle.cheney.proofs.collection.collect_with.Goals as goal

pub evacuate_all-requires : goal.evacuate_all-requires
evacuate_all-requires c = with-moves c.requires.plan c.args.mem.now c.args.mv.now c.args.regs.now c.args.from c.args.count c.requires.begins

pub evacuate_places-requires : goal.evacuate_places-requires
evacuate_places-requires c = record {
  apart = omega arith;
  can = stack-moves c.requires.plan c.args.mem.now c.args.mv.now c.args.regs.now c.args.from c.args.count c.requires.begins c.evacuate_all.new.mem c.evacuate_all.new.mv c.evacuate_all.new.words
      (λ q run r. c.evacuate_all.ensures.each q (at_objects c.args.mv.now.aged.start c.args.mv.now.young.start) run r);
}

pub scan-requires : goal.scan-requires
scan-requires c = record {
  plan = c.requires.plan;
  runs = with-scans c.requires.plan c.args.mem.now c.args.mv.now c.args.regs.now c.args.from c.args.count c.requires.begins c.evacuate_all.new.mem c.evacuate_all.new.mv c.evacuate_all.new.words
      (λ q run r. c.evacuate_all.ensures.each q (at_objects c.args.mv.now.aged.start c.args.mv.now.young.start) run r) c.evacuate_places.new.mem c.evacuate_places.new.mv
      (λ q run r. c.evacuate_places.ensures q (at_objects c.args.mv.now.aged.start c.args.mv.now.young.start) run r);
}

pub returns : goal.returns
returns c = record {
  len = with-length c.requires.plan c.args.mem.now c.args.mv.now c.args.regs.now c.args.from c.args.count c.requires.begins c.evacuate_all.new.mem c.evacuate_all.new.mv c.evacuate_all.new.words
      (λ q run r. c.evacuate_all.ensures.each q (at_objects c.args.mv.now.aged.start c.args.mv.now.young.start) run r) c.evacuate_places.new.mem c.evacuate_places.new.mv
      (λ q run r. c.evacuate_places.ensures q (at_objects c.args.mv.now.aged.start c.args.mv.now.young.start) run r) c.scan.new.mem c.scan.new.mv (λ q. c.scan.ensures q);
  registers = c.evacuate_all.ensures.len;
  done = λ p b. with-ended p c.args.mem.now c.args.mv.now c.args.regs.now c.args.from c.args.count b c.evacuate_all.new.mem c.evacuate_all.new.mv c.evacuate_all.new.words
      (λ q run r. c.evacuate_all.ensures.each q (at_objects c.args.mv.now.aged.start c.args.mv.now.young.start) run r) c.evacuate_places.new.mem c.evacuate_places.new.mv
      (λ q run r. c.evacuate_places.ensures q (at_objects c.args.mv.now.aged.start c.args.mv.now.young.start) run r) c.scan.new.mem c.scan.new.mv (λ q. c.scan.ensures q);
}
