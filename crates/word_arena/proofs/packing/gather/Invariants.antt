use Rattle.std.proofs.Common.{◌≡◌, ◌-◌}
use Rattle.word_arena.specs.Blocks.{IsBoundary}
use Rattle.word_arena.specs.Fronts.{BroughtTo, Firsts}
use Rattle.word_arena.specs.Packs.{Gathered}
use Rattle.word_arena.specs.Stretches.{HasRoom}
use Rattle.word_arena.proofs.packing.gather.Given as goal

abbrev pub invariant-loop-at : goal.invariant-loop-at
invariant-loop-at l = record {
  stop : IsBoundary l.fn.mem l.at;
  gathered : Gathered l.fn.mem l.mem l.at l.to;
  firsts : Firsts (BroughtTo l.fn.mem l.at) l.holes.firsts.items l.next;
  room : HasRoom l.fn.mem l.holes;
  tops : l.holes.tops ≡ l.fn.holes.tops;
  free : l.holes.free ≡ l.fn.holes.free;
}

abbrev pub decreases-loop-at : goal.decreases-loop-at
decreases-loop-at l = l.len - l.at
