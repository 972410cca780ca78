use Rattle.std.proofs.Common.{ℕ, subst, arith, ◌+◌, ◌/◌}
use Rattle.cheney.specs.Calls.{Shape}
use Rattle.cheney.specs.Zones.{mark}
use Rattle.cheney.proofs.Stepping.Steps.{Going, opened-there, going-on, going-step, gone-through, same-ends, step-within}
use Rattle.cheney.proofs.Stepping.Scanning.{boxed-shape}
use Rattle.cheney.proofs.Stepping.Writing.{scanned-here}
use Rattle.cheney.proofs.parts.scan_boxed.Goals as goal

pub loop-at-init : goal.loop-at-init
loop-at-init c = λ p k b run s o less.
    let P : ℕ → Type 0 = λ x. Shape x c.traced_from.result (1 + c.args.header / 64) in
    (opened-there p c.args.mem.now c.args.mv.now k b c.args.place c.traced_from.result (1 + c.args.header / 64) run s o less
    (subst P c.requires.header (boxed-shape c.args.header c.traced_from.result c.requires.boxed c.traced_from.ensures.first))).going

pub get-w-requires : goal.get-w-requires
get-w-requires c =
    step-within c.loop-at.mem c.loop-at.mv c.requires.can.0 c.loop-at.at
    (going-step c.requires.can.1.plan c.args.mem.now c.loop-at.mem c.loop-at.mv c.requires.can.1.marks c.requires.can.0 c.loop-at.at (c.args.place + (1 + c.args.header / 64))
    (c.loop-at.invariant c.requires.can.1.plan c.requires.can.1.marks c.requires.can.0 c.requires.can.1.runs c.requires.can.1.scanned c.requires.can.1.object c.requires.can.1.below)
    c.loop-at-test.true)

pub scan_word-requires : goal.scan_word-requires
scan_word-requires c = record {
  can = (
    c.requires.can.0,
    going-step c.requires.can.1.plan c.args.mem.now c.loop-at.mem c.loop-at.mv c.requires.can.1.marks c.requires.can.0 c.loop-at.at (c.args.place + (1 + c.args.header / 64))
        (c.loop-at.invariant c.requires.can.1.plan c.requires.can.1.marks c.requires.can.0 c.requires.can.1.runs c.requires.can.1.scanned c.requires.can.1.object c.requires.can.1.below)
        c.loop-at-test.true,
  );
  word = c.get-w.ensures;
}

pub loop-at-preserved : goal.loop-at-preserved
loop-at-preserved c = λ p k b run s o less.
    let end : ℕ = c.args.place + (1 + c.args.header / 64) in
    let go : Going p c.args.mem.now c.loop-at.mem c.loop-at.mv k b c.loop-at.at (c.args.place + (1 + c.args.header / 64)) = c.loop-at.invariant p k b run s o less in
    going-on p c.args.mem.now c.loop-at.mem c.scan_word.new.mem c.loop-at.mv c.scan_word.new.mv k b c.loop-at.at (c.args.place + (1 + c.args.header / 64)) go c.loop-at-test.true
    (c.scan_word.ensures.each p (mark k b c.loop-at.at (c.args.place + (1 + c.args.header / 64))) b go.on.runs (scanned-here k b c.loop-at.at (c.args.place + (1 + c.args.header / 64))))
    (c.scan_word.ensures.copies p (mark k b c.loop-at.at (c.args.place + (1 + c.args.header / 64))) b go.on.runs (scanned-here k b c.loop-at.at (c.args.place + (1 + c.args.header / 64))))

pub returns : goal.returns
returns c = record {
  each = λ b p k run s o less.
      gone-through p c.args.mem.now c.loop-at.mem c.loop-at.mv k b c.loop-at.at (c.args.place + (1 + c.args.header / 64)) (c.loop-at.invariant p k b run s o less) c.loop-at-test.false;
  ends =
      same-ends c.requires.can.1.plan c.args.mem.now c.loop-at.mem c.args.mv.now c.loop-at.mv c.requires.can.1.marks
      (mark c.requires.can.1.marks c.requires.can.0 c.loop-at.at (c.args.place + (1 + c.args.header / 64))) c.requires.can.1.runs
      (c.loop-at.invariant c.requires.can.1.plan c.requires.can.1.marks c.requires.can.0 c.requires.can.1.runs c.requires.can.1.scanned c.requires.can.1.object c.requires.can.1.below).on.runs;
  further = omega arith;
}
