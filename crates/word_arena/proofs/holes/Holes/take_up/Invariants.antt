use Rattle.std.proofs.Common.{◌≡◌, ℕ, ◌<◌, length}
use Rattle.word_arena.specs.Stretches.{Right, IsStart, HasRoom}
use Rattle.word_arena.proofs.holes.Holes.take_up.Given as goal

abbrev pub invariant-loop-stretch : goal.invariant-loop-stretch
invariant-loop-stretch l = record {
  room : HasRoom l.mem l.self;
  same_len : length l.self.firsts.items ≡ l.stretch-end;
  start : IsStart l.mem l.stretch l.at;
  free : l.self.free ≡ l.initial.self.free;
  right : (i : ℕ) → i < l.stretch → Right l.mem l.self.firsts.items l.self.tops i;
}
