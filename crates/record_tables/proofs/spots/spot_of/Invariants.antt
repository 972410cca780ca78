use Rattle.std.proofs.Common.{ℕ, ◌-◌, ◌<◌, ◌≤◌, length, get_or}
use Rattle.shared_rec.specs.Record.{owner_in}
use Rattle.record_tables.proofs.spots.spot_of.Given as goal

abbrev pub invariant-loop-low : goal.invariant-loop-low
invariant-loop-low l = record {
  order : l.low ≤ l.high;
  within : l.high ≤ length l.funs;
  below : (j : ℕ) → j < l.low → owner_in l.mem (get_or l.funs j 0) < l.code;
  above : (j : ℕ) → l.high ≤ j → j < length l.funs → l.code ≤ owner_in l.mem (get_or l.funs j 0);
}

abbrev pub decreases-loop-low : goal.decreases-loop-low
decreases-loop-low l = l.high - l.low
