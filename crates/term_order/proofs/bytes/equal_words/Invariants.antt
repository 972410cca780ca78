use Rattle.std.proofs.Common.{◌≡◌, ℕ, ◌<◌, ◌≤◌, ◌-◌, ◌%◌}
use Rattle.term_order.specs.Own.{byte_in}
use Rattle.term_order.proofs.bytes.equal_words.Given as goal

abbrev pub invariant-loop-at : goal.invariant-loop-at
invariant-loop-at l = record {
  few : l.at ≤ l.most;
  whole : l.at % 8 ≡ 0;
  begins : (l.b.start % 8 ≡ 0) × (l.d.start % 8 ≡ 0);
  same : (k : ℕ) → k < l.at → byte_in l.mem l.b k ≡ byte_in l.mem l.d k;
}

abbrev pub decreases-loop-at : goal.decreases-loop-at
decreases-loop-at l = l.most - l.at
