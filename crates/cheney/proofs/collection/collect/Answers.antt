use Rattle.cheney.specs.Zones.{at_objects}
use Rattle.cheney.proofs.Rooted.Rows.{ended, same-length, start-moves, start-reached, start-runs, then-scans}
use Rattle.cheney.proofs.collection.collect.Goals as goal

pub evacuate_all-requires : goal.evacuate_all-requires
evacuate_all-requires c = start-moves c.requires.plan c.args.mem.now c.args.mv.now c.args.roots.now c.requires.begins

pub scan-requires : goal.scan-requires
scan-requires c = record {
  plan = c.requires.plan;
  runs = then-scans c.requires.plan c.args.mem.now c.args.mv.now c.args.roots.now c.requires.begins c.evacuate_all.new.mem c.evacuate_all.new.mv c.evacuate_all.new.words
      (c.evacuate_all.ensures.each c.requires.plan (at_objects c.args.mv.now.aged.start c.args.mv.now.young.start)
      (start-runs c.requires.plan c.args.mem.now c.args.mv.now c.args.roots.now c.requires.begins)
      (start-reached c.requires.plan c.args.mem.now c.args.mv.now c.args.roots.now c.requires.begins));
}

pub returns : goal.returns
returns c = record {
  len =
      same-length c.requires.plan c.args.mem.now c.args.mv.now c.args.roots.now c.requires.begins c.evacuate_all.new.mem c.evacuate_all.new.mv c.evacuate_all.new.words
      (c.evacuate_all.ensures.each c.requires.plan (at_objects c.args.mv.now.aged.start c.args.mv.now.young.start)
      (start-runs c.requires.plan c.args.mem.now c.args.mv.now c.args.roots.now c.requires.begins)
      (start-reached c.requires.plan c.args.mem.now c.args.mv.now c.args.roots.now c.requires.begins)) c.scan.new.mem c.scan.new.mv (c.scan.ensures c.requires.plan);
  done = λ p b.
      ended p c.args.mem.now c.args.mv.now c.args.roots.now b c.evacuate_all.new.mem c.evacuate_all.new.mv c.evacuate_all.new.words
      (c.evacuate_all.ensures.each p (at_objects c.args.mv.now.aged.start c.args.mv.now.young.start) (start-runs p c.args.mem.now c.args.mv.now c.args.roots.now b)
      (start-reached p c.args.mem.now c.args.mv.now c.args.roots.now b)) c.scan.new.mem c.scan.new.mv (c.scan.ensures p);
}
