use Rattle.std.proofs.Common.{reverse, sym, ◌∙◌, arith}
use Rattle.term_walk.proofs.Steps.{skips-none, skips-popped, skips-one, top-short, top-within, yields-more, yields-last}
use Rattle.term_walk.proofs.levels.next_word.Goals as goal
use Rattle.term_walk.proofs.levels.next_word.Goals.{in-Some-more, in_default-more}

pub loop-rest-init : goal.loop-rest-init
loop-rest-init g c = record { skips = skips-none c.args.mem.now (reverse c.args.levels.now.items); few = omega (arith, c.len-most.ensures.fits, c.len-most.ensures.value) }

pub take-requires : goal.take-requires
take-requires g c =
    top-short c.args.mem.now (reverse c.args.levels.now.items) c.in-Some.rest (reverse c.pop.new.self.items) c.bounded.ensures c.requires
    (skips-popped c.args.mem.now (reverse c.args.levels.now.items) c.loop-rest.levels.items c.pop.new.self.items c.in-Some.rest c.in-Some.ensures.items c.loop-rest.invariant.skips)

pub get-requires : goal.get-requires
get-requires g c =
    top-within c.args.mem.now (reverse c.args.levels.now.items) c.in-Some.rest (reverse c.pop.new.self.items) (c.in-Some-take.place, c.in-Some-take.more) c.requires
    (skips-popped c.args.mem.now (reverse c.args.levels.now.items) c.loop-rest.levels.items c.pop.new.self.items c.in-Some.rest c.in-Some.ensures.items c.loop-rest.invariant.skips)
    (sym c.in-Some-take.ensures)

pub returns-in-Some-take : goal.returns-in-Some-take
returns-in-Some-take g c =
    let s = skips-popped c.args.mem.now (reverse c.args.levels.now.items) c.loop-rest.levels.items c.pop.new.self.items c.in-Some.rest c.in-Some.ensures.items c.loop-rest.invariant.skips in
    elim c.match-more.branch [
      | in-Some-more w ↦ yields-more c.args.mem.now (reverse c.args.levels.now.items) c.in-Some.rest c.pop.new.self.items c.match-more.levels.items c.in-Some-take.place c.get.result
          c.in-Some-take.more w.in-Some-more.more (sym c.in-Some-take.ensures) w.in-Some-more.is (cc) c.get.ensures s
      | in_default-more w ↦ yields-last c.args.mem.now (reverse c.args.levels.now.items) c.in-Some.rest c.pop.new.self.items c.match-more.levels.items c.in-Some-take.place c.get.result
          c.in-Some-take.more (sym c.in-Some-take.ensures) w.in_default-more.is (cc) c.get.ensures s
    ]

pub loop-rest-preserved : goal.loop-rest-preserved
loop-rest-preserved g c = record {
  skips = skips-one c.args.mem.now (reverse c.args.levels.now.items) c.in-Some.rest (reverse c.pop.new.self.items) (sym c.take.ensures ∙ c.in_default-take.is)
      (skips-popped c.args.mem.now (reverse c.args.levels.now.items) c.loop-rest.levels.items c.pop.new.self.items c.in-Some.rest c.in-Some.ensures.items c.loop-rest.invariant.skips);
  few = omega (arith, c.in-Some.ensures.len, c.loop-rest.invariant.few);
}
