use Rattle.std.proofs.Common.{take}
use Rattle.counts_text.specs.Told.{CanReadSome, IsBest}
use Rattle.counts_text.proofs.next.next_fun.Given as goal

abbrev pub invariant-loop-v : goal.invariant-loop-v
invariant-loop-v l = record {
  best : IsBest l.mem l.names l.last (take l.v-index l.funs) l.best;
  read : CanReadSome l.mem l.names l.best;
}
