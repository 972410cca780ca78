use Rattle.std.proofs.Common.{◌≡◌, ◌<◌, ℕ, length, get_or}
use Rattle.lower_tests.proofs.term_parts.lay.Given as goal

abbrev pub invariant-loop-i : goal.invariant-loop-i
invariant-loop-i l = (length l.mem ≡ length l.words) × ((k : ℕ) → k < l.i → get_or l.mem k 0 ≡ get_or l.words k 0)
