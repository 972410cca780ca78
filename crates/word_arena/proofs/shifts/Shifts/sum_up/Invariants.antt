use Rattle.std.proofs.Common.{◌≡◌, ℕ, ◌*◌, ◌<◌, ◌^◌, length}
use Rattle.word_arena.specs.Sums.{free_before}
use Rattle.word_arena.specs.Shifts.{HasStretches, IsSummedAt}
use Rattle.word_arena.proofs.Slid.Summed.{FirstBehind}
use Rattle.word_arena.proofs.shifts.Shifts.sum_up.Given as goal

abbrev pub invariant-loop-short : goal.invariant-loop-short
invariant-loop-short l = record {
  room : HasStretches (length l.arena.mem) l.self;
  same_len : length l.self.firsts.items ≡ l.short-end;
  start : FirstBehind l.arena.mem (l.short * 8) l.at;
  sum : l.sum ≡ free_before l.arena.mem l.at;
  few : l.sum < 2 ^ 32;
  right : (i : ℕ) → i < l.short → IsSummedAt l.arena.mem l.self.sums.items l.self.firsts.items i;
}
