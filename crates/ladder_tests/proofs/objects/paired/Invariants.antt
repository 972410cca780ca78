use Rattle.std.proofs.Common.{◌≡◌, ℕ, List, length}
use Rattle.word_mem.specs.declared.ranges.Room.{Room}
use Rattle.ladder_tests.specs.Bench.{AreGood, ArePairs}
use Rattle.ladder_tests.proofs.objects.paired.Given as goal

abbrev pub invariant-loop-i : goal.invariant-loop-i
invariant-loop-i l = record {
  many : length l.pairs.items ≡ l.i;
  good : (shared names : List (List ℕ)) (room : Room) (mem : List ℕ) → AreGood shared names room mem l.firsts → AreGood shared names room mem l.others
      → ArePairs shared names room mem l.pairs.items;
}
