use Rattle.std.proofs.Common.{◌≡◌, take, drop}
use Rattle.term_verbs.proofs.pairs.row_with.Given as goal

abbrev pub invariant-loop-i : goal.invariant-loop-i
invariant-loop-i l = l.words.items ≡ take l.i (drop l.first l.mem)
