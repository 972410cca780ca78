use Rattle.std.proofs.Common.{◌+◌, ◌*◌, reverse, arith}
use Rattle.std.proofs.lemmas.Grind.{common_steps}
use Rattle.term_walk.proofs.Passing.{counts-passed}
use Rattle.term_walk.proofs.Sums.{counts-go, counts-on, measures-within, measures-deep}
use Rattle.term_walk.proofs.measuring.measure_on.Goals as goal

pub go_on-requires : goal.go_on-requires
go_on-requires g c =
    let behind = counts-passed g.row.N c.args.mem.now c.args.w c.loop-nodes.word c.pass_cells-passed.result.word c.loop-nodes.levels.items c.loop-nodes.nodes c.loop-nodes.flat c.cells_left.result
    c.pass_cells-passed.result.cells c.requires.most c.cells_left.ensures.shallow c.pass_cells-passed.ensures.few c.loop-nodes.invariant.counts c.pass_cells-passed.ensures.passes in (
      grind (arith, common_steps, c.requires.most),
      (
        c.requires.most,
        counts-go c.args.mem.now c.args.w c.pass_cells-passed.result.word (reverse c.loop-nodes.levels.items) c.look_at-look.result
            (c.loop-nodes.nodes + 2 * c.pass_cells-passed.result.cells) (c.loop-nodes.flat + 2 * c.pass_cells-passed.result.cells) c.requires.term behind c.look_at-look.ensures.tree,
      ),
    )

pub loop-nodes-preserved : goal.loop-nodes-preserved
loop-nodes-preserved g c =
    let behind = counts-passed g.row.N c.args.mem.now c.args.w c.loop-nodes.word c.pass_cells-passed.result.word c.loop-nodes.levels.items c.loop-nodes.nodes c.loop-nodes.flat c.cells_left.result
    c.pass_cells-passed.result.cells c.requires.most c.cells_left.ensures.shallow c.pass_cells-passed.ensures.few c.loop-nodes.invariant.counts c.pass_cells-passed.ensures.passes in
    record {
      counts = counts-on g.row.N c.args.mem.now c.args.w c.pass_cells-passed.result.word c.in-Word.next (reverse c.loop-nodes.levels.items) (reverse c.go_on.new.levels.items) c.look_at-look.result
          (c.loop-nodes.nodes + 2 * c.pass_cells-passed.result.cells) (c.loop-nodes.flat + 2 * c.pass_cells-passed.result.cells) c.own_flat.result
          (c.loop-nodes.nodes + (2 * c.pass_cells-passed.result.cells + c.own_nodes.result)) (c.loop-nodes.flat + (2 * c.pass_cells-passed.result.cells + c.own_flat.result))
          behind c.look_at-look.ensures.tree c.own_flat.ensures.words c.in-Word.ensures.each (omega (arith, c.own_nodes.ensures.value)) (omega arith);
      few = c.if-nodes-gt-NODE_LIMIT.false;
      small = omega (arith, c.loop-nodes.invariant.small, c.own_flat.ensures.few, c.own_nodes.ensures.some);
    }

pub returns-in-End-clause-found : goal.returns-in-End-clause-found
returns-in-End-clause-found g c =
    let behind = counts-passed g.row.N c.args.mem.now c.args.w c.loop-nodes.word c.pass_cells-passed.result.word c.loop-nodes.levels.items c.loop-nodes.nodes c.loop-nodes.flat c.cells_left.result
    c.pass_cells-passed.result.cells c.requires.most c.cells_left.ensures.shallow c.pass_cells-passed.ensures.few c.loop-nodes.invariant.counts c.pass_cells-passed.ensures.passes in
    measures-within g.row.N c.args.mem.now c.args.w c.pass_cells-passed.result.word (reverse c.loop-nodes.levels.items) (reverse c.go_on.new.levels.items) c.look_at-look.result
    (c.loop-nodes.nodes + 2 * c.pass_cells-passed.result.cells) (c.loop-nodes.flat + 2 * c.pass_cells-passed.result.cells) c.own_flat.result
    (c.loop-nodes.nodes + (2 * c.pass_cells-passed.result.cells + c.own_nodes.result)) (c.loop-nodes.flat + (2 * c.pass_cells-passed.result.cells + c.own_flat.result))
    behind c.look_at-look.ensures.tree c.own_flat.ensures.words c.in-End.ensures.each (omega (arith, c.own_nodes.ensures.value)) (omega arith) c.if-nodes-gt-NODE_LIMIT.false

pub returns-in-TooDeep-clause-deep : goal.returns-in-TooDeep-clause-deep
returns-in-TooDeep-clause-deep g c = λ all.
    let behind = counts-passed g.row.N c.args.mem.now c.args.w c.loop-nodes.word c.pass_cells-passed.result.word c.loop-nodes.levels.items c.loop-nodes.nodes c.loop-nodes.flat c.cells_left.result
    c.pass_cells-passed.result.cells c.requires.most c.cells_left.ensures.shallow c.pass_cells-passed.ensures.few c.loop-nodes.invariant.counts c.pass_cells-passed.ensures.passes in
    measures-deep g.row.N c.args.mem.now c.args.w c.pass_cells-passed.result.word (reverse c.loop-nodes.levels.items) (reverse c.go_on.new.levels.items) c.look_at-look.result
    (c.loop-nodes.nodes + 2 * c.pass_cells-passed.result.cells) (c.loop-nodes.flat + 2 * c.pass_cells-passed.result.cells) behind c.look_at-look.ensures.tree c.in-TooDeep.ensures.each all
