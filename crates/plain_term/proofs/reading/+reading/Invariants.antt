use Rattle.std.proofs.Common.{◌+◌, ◌*◌, length}
use Rattle.plain_term.specs.Written.{ReadsAll}
use Rattle.plain_term.proofs.reading.+reading.Given as goal

abbrev pub decreases-read_cons : goal.decreases-read_cons
decreases-read_cons l = 2 * length l.items.now + 1

abbrev pub decreases-read_tuple : goal.decreases-read_tuple
decreases-read_tuple l = 2 * length l.items.now + 1

abbrev pub decreases-read_term : goal.decreases-read_term
decreases-read_term l = 2 * length l.items.now

abbrev pub invariant-read_tuple-loop-i : goal.invariant-read_tuple-loop-i
invariant-read_tuple-loop-i l = ReadsAll l.items l._i l.parts l.rest
