use Rattle.std.proofs.Common.{ℕ, ◌+◌, ◌≤◌, length, subst, sym, arith}
use Rattle.std.proofs.lemmas.Grind.{common_steps}
use Rattle.cheney.specs.Zones.{mark}
use Rattle.cheney.specs.Calls.{RunsOn}
use Rattle.cheney.proofs.Stepping.Scanning.{cell-done, cell-inside, cell-step, spine-inside, spine-start, spine-within, tail-kept, tail-step}
use Rattle.cheney.proofs.Stepping.Steps.{same-ends}
use Rattle.cheney.proofs.spine.scan_spine.Goals as goal

pub get-tail-requires : goal.get-tail-requires
get-tail-requires c = omega (arith, spine-within c.args.mem.now c.args.mv.now c.args.aged c.args.place c.args.head c.requires.can c.requires.head c.requires.cons)

pub loop-further-init : goal.loop-further-init
loop-further-init c = record {
  each = λ p k run s o less. spine-start p c.args.mem.now c.args.mv.now k c.args.aged c.args.place run s o;
  next = record { head_is = c.requires.head; tail_is = c.get-tail.ensures; no_header = c.requires.cons; below = c.requires.can.below };
  above = omega arith;
}

pub scan_word-requires : goal.scan_word-requires
scan_word-requires c = record {
  can = (
    c.args.aged,
    cell-step c.requires.can.plan c.args.mem.now c.loop-further.mem c.loop-further.mv c.requires.can.marks c.args.aged c.loop-further.cell.place c.loop-further.cell.head
        c.loop-further.cell.tail (c.loop-further.invariant.each c.requires.can.plan c.requires.can.marks c.requires.can.runs c.requires.can.scanned c.requires.can.object
        c.requires.can.below) c.loop-further.invariant.next,
  );
  word = c.loop-further.invariant.next.head_is;
}

pub scan_tail-next-requires : goal.scan_tail-next-requires
scan_tail-next-requires c = record {
  can =
      tail-step c.requires.can.plan c.args.mem.now c.loop-further.mem c.loop-further.mv c.requires.can.marks c.args.aged c.loop-further.cell.place c.loop-further.cell.head
      c.loop-further.cell.tail (c.loop-further.invariant.each c.requires.can.plan c.requires.can.marks c.requires.can.runs c.requires.can.scanned c.requires.can.object
      c.requires.can.below) c.loop-further.invariant.next
      c.scan_word.new.mem c.scan_word.new.mv c.scan_word.ensures.each c.scan_word.ensures.copies;
  word =
      tail-kept c.requires.can.plan c.args.mem.now c.loop-further.mem c.loop-further.mv c.requires.can.marks c.args.aged c.loop-further.cell.place c.loop-further.cell.head
      c.loop-further.cell.tail (c.loop-further.invariant.each c.requires.can.plan c.requires.can.marks c.requires.can.runs c.requires.can.scanned c.requires.can.object
      c.requires.can.below) c.loop-further.invariant.next
      c.scan_word.new.mem c.scan_word.new.mv c.scan_word.ensures.each c.scan_word.ensures.copies;
}

pub returns-in_default : goal.returns-in_default
returns-in_default c = record {
  each = λ p k run s o less.
      cell-done p c.args.mem.now c.loop-further.mem c.loop-further.mv k c.args.aged c.loop-further.cell.place c.loop-further.cell.head c.loop-further.cell.tail
      (c.loop-further.invariant.each p k run s o less) c.loop-further.invariant.next c.scan_word.new.mem c.scan_word.new.mv c.scan_word.ensures.each c.scan_word.ensures.copies
      c.scan_tail-next.new.mem c.scan_tail-next.new.mv c.scan_tail-next.ensures.each;
  further = omega (arith, c.loop-further.invariant.above);
  ends =
      same-ends c.requires.can.plan c.args.mem.now c.scan_tail-next.new.mem c.args.mv.now c.scan_tail-next.new.mv c.requires.can.marks
      (mark c.requires.can.marks c.args.aged (c.loop-further.cell.place + 2) (c.loop-further.cell.place + 2)) c.requires.can.runs
      (cell-done c.requires.can.plan c.args.mem.now c.loop-further.mem c.loop-further.mv c.requires.can.marks c.args.aged c.loop-further.cell.place c.loop-further.cell.head
      c.loop-further.cell.tail (c.loop-further.invariant.each c.requires.can.plan c.requires.can.marks c.requires.can.runs c.requires.can.scanned c.requires.can.object
      c.requires.can.below) c.loop-further.invariant.next c.scan_word.new.mem c.scan_word.new.mv c.scan_word.ensures.each c.scan_word.ensures.copies c.scan_tail-next.new.mem
      c.scan_tail-next.new.mv c.scan_tail-next.ensures.each).runs;
}

pub loop-further-smaller : goal.loop-further-smaller
loop-further-smaller c =
    let inside : c.loop-further.cell.place + 2 ≤ length c.args.mem.now =
    spine-inside c.requires.can.plan c.args.mem.now c.loop-further.mem c.args.mv.now c.loop-further.mv c.requires.can.marks
    (mark c.requires.can.marks c.args.aged c.loop-further.cell.place c.loop-further.cell.place) c.loop-further.cell.place c.requires.can.runs
    (c.loop-further.invariant.each c.requires.can.plan c.requires.can.marks c.requires.can.runs c.requires.can.scanned c.requires.can.object c.requires.can.below).runs
    (cell-inside c.requires.can.plan c.args.mem.now c.loop-further.mem c.loop-further.mv c.requires.can.marks c.args.aged c.loop-further.cell.place c.loop-further.cell.head
    c.loop-further.cell.tail (c.loop-further.invariant.each c.requires.can.plan c.requires.can.marks c.requires.can.runs c.requires.can.scanned c.requires.can.object
    c.requires.can.below) c.loop-further.invariant.next) in
    omega (arith, c.if-further-at.true, inside)

pub loop-further-preserved : goal.loop-further-preserved
loop-further-preserved c = record {
  each = λ p k run s o less.
      let P : ℕ → Type 0 = λ z. RunsOn p c.args.mem.now c.scan_tail-next.new.mem c.scan_tail-next.new.mv (mark k c.args.aged z z) in
      subst P (sym c.if-further-at.true) (cell-done p c.args.mem.now c.loop-further.mem c.loop-further.mv k c.args.aged c.loop-further.cell.place c.loop-further.cell.head
      c.loop-further.cell.tail (c.loop-further.invariant.each p k run s o less) c.loop-further.invariant.next c.scan_word.new.mem c.scan_word.new.mv c.scan_word.ensures.each
      c.scan_word.ensures.copies c.scan_tail-next.new.mem c.scan_tail-next.new.mv c.scan_tail-next.ensures.each);
  next = c.in-Some.ensures.next;
  above = omega (arith, c.if-further-at.true, c.loop-further.invariant.above);
}

pub overflow_add-place : goal.overflow_add-place
overflow_add-place c = grind (arith, common_steps)

pub overflow_add-at : goal.overflow_add-at
overflow_add-at c = grind (arith, common_steps)

pub overflow_add-result : goal.overflow_add-result
overflow_add-result c = grind (arith, common_steps)

pub overflow_add-at-in-loop-further : goal.overflow_add-at-in-loop-further
overflow_add-at-in-loop-further c = grind (arith, common_steps)
