use Rattle.std.proofs.Common.{◌-◌}
use Rattle.word_arena.specs.Blocks.{IsBoundary}
use Rattle.word_arena.proofs.Side.Summing.{Sum}
use Rattle.word_arena.proofs.blocks.free_words.Given as goal

abbrev pub invariant-loop-at : goal.invariant-loop-at
invariant-loop-at l = record {
  stop : IsBoundary l.mem l.at;
  sum : Sum l.mem l.at l.all;
}

abbrev pub decreases-loop-at : goal.decreases-loop-at
decreases-loop-at l = l.len - l.at
