use Rattle.std.proofs.Common.{ℕ, ◌-◌, ◌≤◌, Bool, List, length}
use Rattle.plain_term.specs.Tree.{Trees}
use Rattle.term_print.specs.declared.levels.Level.TheVariants as level
use Rattle.term_print.specs.Left.{AreTwo}
use Rattle.term_print.specs.Runs.{Gathers}
use Rattle.term_print.proofs.runs.gather_list.Given as goal

abbrev pub invariant-loop-buffer : goal.invariant-loop-buffer
invariant-loop-buffer l = record {
  gathers : (c : ℕ → ℕ → Bool) (shared names : List (List ℕ)) (ts : Trees) → AreTwo c shared l.mem l.place ts
      → Gathers c shared l.mem names (level.List l.place) (level.List l.at) l.text.items ts;
  few : length l.text.items ≤ 256;
}

abbrev pub decreases-loop-buffer : goal.decreases-loop-buffer
decreases-loop-buffer l = 256 - length l.text.items
