use Rattle.std.proofs.Common.{refl, arith}
use Rattle.term_words.proofs.ByKind.Inside.{cons-inside}
use Rattle.term_order.proofs.Passing.{passes-both-none, passes-both-cell, both-behind, first-of, second-of}
use Rattle.term_order.proofs.runs.pass_same.Goals as goal

pub loop-cells-init : goal.loop-cells-init
loop-cells-init c = record { few = omega arith; passes = passes-both-none c.args.mem.now c.args.a c.args.b }

pub is_same_cell-requires : goal.is_same_cell-requires
is_same_cell-requires c = both-behind c.args.mem.now c.args.a c.args.b c.loop-cells.left c.loop-cells.right c.loop-cells.cells c.requires c.loop-cells.invariant.passes

pub get-left-requires : goal.get-left-requires
get-left-requires c =
    let both = both-behind c.args.mem.now c.args.a c.args.b c.loop-cells.left c.loop-cells.right c.loop-cells.cells c.requires c.loop-cells.invariant.passes in
    omega (arith, cons-inside c.args.mem.now c.loop-cells.left (first-of c.args.mem.now c.loop-cells.left c.loop-cells.right both) (c.if-not-is_same_cell.ensures refl).first)

pub get-right-requires : goal.get-right-requires
get-right-requires c =
    let both = both-behind c.args.mem.now c.args.a c.args.b c.loop-cells.left c.loop-cells.right c.loop-cells.cells c.requires c.loop-cells.invariant.passes in
    omega (arith, cons-inside c.args.mem.now c.loop-cells.right (second-of c.args.mem.now c.loop-cells.left c.loop-cells.right both) (c.if-not-is_same_cell.ensures refl).second)

pub loop-cells-preserved : goal.loop-cells-preserved
loop-cells-preserved c = record {
  few = omega (arith, c.loop-cells-test.true);
  passes = passes-both-cell c.args.mem.now c.args.a c.args.b c.loop-cells.left c.loop-cells.right c.get-left.result c.get-right.result c.loop-cells.cells c.loop-cells.invariant.passes
      (c.if-not-is_same_cell.ensures refl) c.get-left.ensures c.get-right.ensures;
}
