use Rattle.std.proofs.Common.{arith}
use Rattle.two_halves.proofs.Moved.Rowing.{queue-next, row-moved, stack-next}
use Rattle.two_halves.proofs.roots.move_process.Goals as goal

pub evacuate_all-requires : goal.evacuate_all-requires
evacuate_all-requires c = record {
  plan = c.requires.plan;
  marks = c.requires.marks;
  runs = c.requires.moves.stack.room.runs;
  reached = c.requires.moves.reached;
}

pub overflow_mul-queue : goal.overflow_mul-queue
overflow_mul-queue c = omega (arith, c.requires.moves.queue.room.new_inside, c.bounded.ensures)

pub overflow_add-queue : goal.overflow_add-queue
overflow_add-queue c = omega (arith, c.requires.moves.queue.room.new_inside, c.bounded.ensures)

pub move_stack-requires : goal.move_stack-requires
move_stack-requires c = record {
  plan = c.requires.plan;
  marks = c.requires.marks;
  low = c.requires.low;
  limit = c.requires.limit;
  moves =
      stack-next c.requires.plan c.args.mem.now c.evacuate_all.new.mem c.args.mv.now c.evacuate_all.new.mv c.requires.marks c.requires.low c.requires.limit
      c.args.to c.args.process.now c.evacuate_all.new.words c.requires.moves
      (c.evacuate_all.ensures.each c.requires.plan c.requires.marks c.requires.moves.stack.room.runs c.requires.moves.reached);
}

pub move_stack-requires-2 : goal.move_stack-requires-2
move_stack-requires-2 c =
    let moved = c.evacuate_all.ensures.each c.requires.plan c.requires.marks c.requires.moves.stack.room.runs c.requires.moves.reached in
    record {
      plan = c.requires.plan;
      marks = c.requires.marks;
      low = c.requires.low;
      limit = c.requires.limit;
      moves =
          queue-next c.requires.plan c.args.mem.now c.evacuate_all.new.mem c.args.mv.now c.evacuate_all.new.mv c.requires.marks c.requires.low c.requires.limit
          c.args.to c.args.process.now c.evacuate_all.new.words c.requires.moves moved c.move_stack.new.mem c.move_stack.new.mv
          (c.move_stack.ensures c.requires.plan c.requires.marks c.requires.low c.requires.limit
          (stack-next c.requires.plan c.args.mem.now c.evacuate_all.new.mem c.args.mv.now c.evacuate_all.new.mv c.requires.marks c.requires.low c.requires.limit
          c.args.to c.args.process.now c.evacuate_all.new.words c.requires.moves moved));
    }

pub last_place-process-requires : goal.last_place-process-requires
last_place-process-requires c = omega (arith, c.requires.moves.queue.room.new_inside, c.bounded.ensures)

pub returns : goal.returns
returns c = λ p k low limit r.
    let moved = c.evacuate_all.ensures.each p k r.stack.room.runs r.reached in
    let next = stack-next p c.args.mem.now c.evacuate_all.new.mem c.args.mv.now c.evacuate_all.new.mv k low limit c.args.to c.args.process.now c.evacuate_all.new.words r moved in
    let stack = c.move_stack.ensures p k low limit next in
    row-moved p c.args.mem.now c.evacuate_all.new.mem c.args.mv.now c.evacuate_all.new.mv k low limit c.args.to c.args.process.now c.evacuate_all.new.words r
    moved c.move_stack.new.mem c.move_stack.new.mv stack c.move_stack-2.new.mem c.move_stack-2.new.mv c.last_place-process.result c.last_place-process.ensures
    (c.move_stack-2.ensures p k low limit
    (queue-next p c.args.mem.now c.evacuate_all.new.mem c.args.mv.now c.evacuate_all.new.mv k low limit c.args.to c.args.process.now c.evacuate_all.new.words r moved
    c.move_stack.new.mem c.move_stack.new.mv stack))
