use Rattle.std.proofs.Common.{ℕ, ◌+◌, ◌-◌, ◌*◌, ap, arith, subst, ◌∙◌}
use Rattle.std.proofs.lemmas.List.{get_or_default}
use Rattle.two_halves.proofs.Standing.Stacks.{no_row}
use Rattle.cheney.specs.Plan.{Plan}
use Rattle.cheney.specs.Zones.{Marks}
use Rattle.two_halves.specs.Rows.{RowMoved, RowMoves}
use Rattle.two_halves.specs.declared.table.Proc.{Proc}
use Rattle.two_halves.proofs.Moved.AllRows.{next-fits, next-more, next-moves, rows-end, rows-start}
use Rattle.two_halves.proofs.roots.move_roots.Goals as goal

pub loop-process-init : goal.loop-process-init
loop-process-init c = rows-start c.args.mem.now c.args.mv.now c.args.procs.now c.args.end

pub overflow_mul-low : goal.overflow_mul-low
overflow_mul-low c =
    let is = c.row_mut-row.ensures.value
    ∙ get_or_default c.loop-process.procs c.loop-process.process-index c.process-item.result no_row (omega (arith, c.loop-process-test.true, c.loop-process.invariant.count)) in
    omega (
      arith,
      ap (λ (z : Proc). z.depth + z.waiting) is,
      c.loop-process.auto.low-fits,
      next-fits c.args.mem.now c.args.mv.now c.args.procs.now c.args.end c.requires c.loop-process.mem c.loop-process.mv c.loop-process.procs
          c.loop-process.low c.loop-process.process-index c.loop-process.invariant c.loop-process-test.true,
    )

pub overflow_add-low : goal.overflow_add-low
overflow_add-low c =
    let is = c.row_mut-row.ensures.value
    ∙ get_or_default c.loop-process.procs c.loop-process.process-index c.process-item.result no_row (omega (arith, c.loop-process-test.true, c.loop-process.invariant.count)) in
    omega (
      arith,
      ap (λ (z : Proc). z.depth + z.waiting) is,
      c.loop-process.auto.low-fits,
      next-fits c.args.mem.now c.args.mv.now c.args.procs.now c.args.end c.requires c.loop-process.mem c.loop-process.mv c.loop-process.procs
          c.loop-process.low c.loop-process.process-index c.loop-process.invariant c.loop-process-test.true,
    )

pub overflow_sub-low : goal.overflow_sub-low
overflow_sub-low c =
    let is = c.row_mut-row.ensures.value
    ∙ get_or_default c.loop-process.procs c.loop-process.process-index c.process-item.result no_row (omega (arith, c.loop-process-test.true, c.loop-process.invariant.count)) in
    rw is (next-fits c.args.mem.now c.args.mv.now c.args.procs.now c.args.end c.requires c.loop-process.mem c.loop-process.mv c.loop-process.procs
    c.loop-process.low c.loop-process.process-index c.loop-process.invariant c.loop-process-test.true)

pub move_process-requires : goal.move_process-requires
move_process-requires c =
    let is = c.row_mut-row.ensures.value
    ∙ get_or_default c.loop-process.procs c.loop-process.process-index c.process-item.result no_row (omega (arith, c.loop-process-test.true, c.loop-process.invariant.count)) in
    rw is (next-moves c.args.mem.now c.args.mv.now c.args.procs.now c.args.end c.requires c.loop-process.mem c.loop-process.mv c.loop-process.procs
    c.loop-process.low c.loop-process.process-index c.loop-process.invariant c.loop-process-test.true)

pub loop-process-preserved : goal.loop-process-preserved
loop-process-preserved c =
    let is = c.row_mut-row.ensures.value
    ∙ get_or_default c.loop-process.procs c.loop-process.process-index c.process-item.result no_row (omega (arith, c.loop-process-test.true, c.loop-process.invariant.count)) in
    let P : Proc → Type 0 = λ z. (p : Plan) (k : Marks) (low limit : ℕ)
    → RowMoves p c.loop-process.mem c.loop-process.mv k low limit z (c.loop-process.low - 2 * (z.depth + z.waiting))
    → RowMoved p c.loop-process.mem c.move_process.new.mem c.move_process.new.mv k z c.move_process.new.process (c.loop-process.low - 2 * (z.depth + z.waiting)) in
    rw is (next-more c.args.mem.now c.args.mv.now c.args.procs.now c.args.end c.requires c.loop-process.mem c.loop-process.mv c.loop-process.procs
    c.loop-process.low c.loop-process.process-index c.loop-process.invariant c.loop-process-test.true
    c.move_process.new.mem c.move_process.new.mv c.move_process.new.process (subst P is c.move_process.ensures))

pub returns : goal.returns
returns c =
    rows-end c.args.mem.now c.args.mv.now c.args.procs.now c.args.end c.loop-process.mem c.loop-process.mv c.loop-process.procs
    c.loop-process.low c.loop-process.process-index c.loop-process.invariant c.loop-process-test.false
