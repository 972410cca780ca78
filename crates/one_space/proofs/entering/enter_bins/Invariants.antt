use Rattle.std.proofs.Common.{◌≡◌, ◌++◌}
use Rattle.std.specs.Vec.{vec_capacity}
use Rattle.one_space.specs.Entered.{records_from}
use Rattle.one_space.proofs.entering.enter_bins.Given as goal

abbrev pub invariant-loop-i : goal.invariant-loop-i
invariant-loop-i l = (l.bins.items ≡ l.fn.bins.items ++ records_from l.mem l.first l.i) × (vec_capacity l.bins ≡ vec_capacity l.fn.bins)
