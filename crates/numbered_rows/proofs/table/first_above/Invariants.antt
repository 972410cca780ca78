use Rattle.std.proofs.Common.{ℕ, ◌-◌, ◌<◌, ◌≤◌, length}
use Rattle.numbered_rows.specs.Numbers.{row_number}
use Rattle.numbered_rows.proofs.table.first_above.Given as goal

abbrev pub invariant-loop-low : goal.invariant-loop-low
invariant-loop-low g l = record {
  order : l.low ≤ l.high;
  within : l.high ≤ length l.rows;
  below : (k : ℕ) → k < l.low → row_number g.R.Numbered.number_of l.rows k ≤ l.n;
  above : (k : ℕ) → l.high ≤ k → k < length l.rows → l.n < row_number g.R.Numbered.number_of l.rows k;
}

abbrev pub decreases-loop-low : goal.decreases-loop-low
decreases-loop-low g l = l.high - l.low
