use Rattle.std.proofs.Common.{◌≤◌, length}
use Rattle.word_shift.proofs.Ranges.{ListGoing}
use Rattle.word_shift.proofs.words.relocate_all.Given as goal

abbrev pub invariant-loop-i : goal.invariant-loop-i
invariant-loop-i g l = (l.i ≤ length l.initial.words) × ListGoing (g.P.Places.to l.places l.mem) l.initial.words l.words l.i
