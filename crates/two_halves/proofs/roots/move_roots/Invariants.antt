use Rattle.two_halves.proofs.Moved.AllRows.{RowLoop}
use Rattle.two_halves.proofs.roots.move_roots.Given as goal

abbrev pub invariant-loop-process : goal.invariant-loop-process
invariant-loop-process l = RowLoop l.initial.mem l.initial.mv l.initial.procs l.end l.mem l.mv l.procs l.low l.process-index
