use Rattle.cheney.proofs.Stepping.Steps.{step-after, step-moves, step-part, stepped, went-there}
use Rattle.cheney.proofs.Stepping.Scanning.{kept-part, kept-word}
use Rattle.cheney.proofs.parts.scan_word.Goals as goal

pub evacuate-new-requires : goal.evacuate-new-requires
evacuate-new-requires c = step-moves c.args.mem.now c.args.mv.now c.requires.can.0 c.args.at c.args.w c.requires.can.1 c.requires.word

pub set-requires : goal.set-requires
set-requires c =
    step-after c.args.mem.now c.evacuate-new.new.mem c.args.mv.now c.evacuate-new.new.mv c.requires.can.0 c.args.at c.evacuate-new.result c.requires.can.1
    (went-there c.requires.can.1.plan c.args.mem.now c.evacuate-new.new.mem c.args.mv.now c.evacuate-new.new.mv c.requires.can.1.marks c.requires.can.0 c.args.at c.args.w
    c.evacuate-new.result c.requires.word c.evacuate-new.ensures
    c.requires.can.1.runs c.requires.can.1.scanned c.requires.can.1.part)

pub returns-then-is_pointer : goal.returns-then-is_pointer
returns-then-is_pointer c = record {
  each = λ p k b run s o.
      stepped p c.args.mem.now c.evacuate-new.new.mem c.args.mv.now c.evacuate-new.new.mv k b c.args.at c.evacuate-new.result run s o
      (went-there p c.args.mem.now c.evacuate-new.new.mem c.args.mv.now c.evacuate-new.new.mv k b c.args.at c.args.w c.evacuate-new.result c.requires.word c.evacuate-new.ensures run s o)
      c.set.new.self c.set.ensures;
  copies = λ p k b run s o more.
      step-part p c.args.mem.now c.evacuate-new.new.mem c.args.mv.now c.evacuate-new.new.mv k b c.args.at c.evacuate-new.result run s o
      (went-there p c.args.mem.now c.evacuate-new.new.mem c.args.mv.now c.evacuate-new.new.mv k b c.args.at c.args.w c.evacuate-new.result c.requires.word c.evacuate-new.ensures run s o)
      c.set.new.self c.set.ensures more;
}

pub returns-else-is_pointer : goal.returns-else-is_pointer
returns-else-is_pointer c = record {
  each = λ p k b run s o. kept-word p c.args.mem.now c.args.mv.now k b c.args.at c.args.w run s o c.requires.word (c.is_pointer.ensures.no c.if-is_pointer.false);
  copies = λ p k b run s o more. kept-part p c.args.mem.now c.args.mv.now k b c.args.at c.args.w run s o c.requires.word
      (c.is_pointer.ensures.no c.if-is_pointer.false) more;
}
