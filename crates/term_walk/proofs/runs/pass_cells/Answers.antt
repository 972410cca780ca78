use Rattle.std.proofs.Common.{arith}
use Rattle.term_words.proofs.ByKind.Inside.{cons-inside}
use Rattle.term_walk.proofs.Passing.{passes-none, passes-cell, passes-term}
use Rattle.term_walk.proofs.runs.pass_cells.Goals as goal

pub loop-cells-init : goal.loop-cells-init
loop-cells-init c = record { few = omega arith; passes = passes-none c.args.mem.now c.args.w }

pub get-requires : goal.get-requires
get-requires c =
    omega (arith, cons-inside c.args.mem.now c.loop-cells.word (passes-term c.args.mem.now c.args.w c.loop-cells.word c.loop-cells.cells c.requires c.loop-cells.invariant.passes) c.if-word-ne1.false)

pub get-word-requires : goal.get-word-requires
get-word-requires c =
    omega (arith, cons-inside c.args.mem.now c.loop-cells.word (passes-term c.args.mem.now c.args.w c.loop-cells.word c.loop-cells.cells c.requires c.loop-cells.invariant.passes) c.if-word-ne1.false)

pub loop-cells-preserved : goal.loop-cells-preserved
loop-cells-preserved c = record {
  few = omega (arith, c.loop-cells-test.true);
  passes = passes-cell c.args.mem.now c.args.w c.loop-cells.word c.loop-cells.cells c.get.result c.get-word.result c.loop-cells.invariant.passes c.if-word-ne1.false c.get.ensures c.if-get-ne3.false
      c.get-word.ensures;
}
