use Rattle.std.proofs.Common.{◌<◌, length, ◌∙◌, refl, arith}
use Rattle.std.proofs.lemmas.List.{length-set}
use Rattle.cheney.proofs.Rooted.Rows.{row-done, row-further, row-moves, row-reached, row-start}
use Rattle.cheney.proofs.roots.evacuate_all.Goals as goal

pub loop-i-init : goal.loop-i-init
loop-i-init c = record { len = refl; each = λ p k run each. row-start p c.args.mem.now c.args.mv.now k c.args.words.now run }

pub evacuate-requires : goal.evacuate-requires
evacuate-requires c =
    row-moves c.requires.plan c.args.mem.now c.loop-i.mem c.loop-i.mv c.requires.marks c.args.words.now c.loop-i.words c.loop-i.i
    (c.loop-i.invariant.each c.requires.plan c.requires.marks c.requires.runs c.requires.reached) c.requires.reached (omega (arith, c.loop-i-test.true, c.loop-i.invariant.len))

pub loop-i-preserved : goal.loop-i-preserved
loop-i-preserved c = record {
  len = length-set c.loop-i.words c.loop-i.i c.evacuate.result ∙ c.loop-i.invariant.len;
  each = λ p k run each.
      let less : c.loop-i.i < length c.loop-i.words = omega (arith, c.loop-i-test.true, c.loop-i.invariant.len) in
      row-further p c.args.mem.now c.loop-i.mem c.loop-i.mv k c.args.words.now c.loop-i.words c.loop-i.i (c.loop-i.invariant.each p k run each) each c.evacuate.new.mem c.evacuate.new.mv
      c.evacuate.result less
      (c.evacuate.ensures p k (c.loop-i.invariant.each p k run each).runs
      (row-reached p c.args.mem.now c.loop-i.mem c.loop-i.mv k c.args.words.now c.loop-i.words c.loop-i.i (c.loop-i.invariant.each p k run each) each less));
}

pub returns : goal.returns
returns c = record {
  each = λ p k run each. row-done p c.args.mem.now c.loop-i.mem c.loop-i.mv k c.args.words.now c.loop-i.words c.loop-i.i (c.loop-i.invariant.each p k run each) each
      c.loop-i-test.false;
  len = c.loop-i.invariant.len;
}
