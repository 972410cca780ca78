use Rattle.std.proofs.Common.{◌-◌, ◌≤◌, ◌⊎◌, ◌≡◌}
use Rattle.word_shift.specs.Shifted.{WordsShifted}
use Rattle.word_shift.proofs.words.relocate_words.Given as goal

abbrev pub invariant-loop-at : goal.invariant-loop-at
invariant-loop-at g l = (l.from ≤ l.at) × (((l.at ≤ l.to) ⊎ (l.at ≡ l.from)) × WordsShifted (g.P.Places.to l.places l.initial.mem) l.initial.mem l.mem l.from l.at)

abbrev pub decreases-loop-at : goal.decreases-loop-at
decreases-loop-at g l = l.to - l.at
