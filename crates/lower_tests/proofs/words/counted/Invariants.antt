-- The memory keeps its length.
use Rattle.std.proofs.Common.{◌≡◌, length}
use Rattle.lower_tests.proofs.words.counted.Given as goal

abbrev pub invariant-loop-at : goal.invariant-loop-at
invariant-loop-at l = length l.mem ≡ length l.fn.mem
