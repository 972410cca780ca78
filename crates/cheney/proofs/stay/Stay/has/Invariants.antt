use Rattle.std.proofs.Common.{ℕ, ◌-◌, ◌<◌, ◌≤◌, length}
use Rattle.cheney.specs.Spans.{start_at}
use Rattle.cheney.proofs.stay.Stay.has.Given as goal

abbrev pub invariant-loop-high : goal.invariant-loop-high
invariant-loop-high l = record {
  order : l.low < l.high;
  within : l.high ≤ l.count;
  from : start_at l.spans l.low ≤ l.place;
  above : (i : ℕ) → l.high ≤ i → i < length l.spans → l.place < start_at l.spans i;
}

abbrev pub decreases-loop-high : goal.decreases-loop-high
decreases-loop-high l = l.high - l.low
