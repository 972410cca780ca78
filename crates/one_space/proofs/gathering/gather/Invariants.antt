use Rattle.std.proofs.Common.{◌≡◌, ℕ, ◌<◌, length, get_or, map}
use Rattle.one_space.specs.Gathered.{held_word}
use Rattle.one_space.proofs.gathering.gather.Given as goal

abbrev pub invariant-loop-i : goal.invariant-loop-i
invariant-loop-i l = (length l.row ≡ length l.initial.row) × ((j : ℕ) → j < l.i → get_or l.row j 0 ≡ get_or (map (λ x. held_word l.regs x) l.env) j 0)
