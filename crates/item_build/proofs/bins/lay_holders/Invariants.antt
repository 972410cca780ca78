use Rattle.item_build.proofs.Laid.Holding.{LaidUpTo}
use Rattle.item_build.proofs.bins.lay_holders.Given as goal

abbrev pub invariant-loop-i : goal.invariant-loop-i
invariant-loop-i l = LaidUpTo l.i l.n l.row l.initial.room l.room l.initial.mem l.mem l.initial.making l.making
