use Rattle.two_halves.proofs.Moved.Stacking.{StackLoop}
use Rattle.two_halves.proofs.roots.move_stack.Given as goal

abbrev pub invariant-loop-i : goal.invariant-loop-i
invariant-loop-i l = StackLoop l.initial.mem l.initial.mv l.from l.depth l.to l.mem l.mv l.i l.place
