use Rattle.std.proofs.Common.{ℕ, ◌<◌}
use Rattle.heap_sizes.specs.Sizes.{heap_size}
use Rattle.heap_sizes.proofs.sizes.next_size.Given as goal

abbrev pub invariant-loop-size : goal.invariant-loop-size
invariant-loop-size l = (k : ℕ) → k < l.size-index → heap_size k < l.n
