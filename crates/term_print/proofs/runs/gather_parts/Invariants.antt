use Rattle.std.proofs.Common.{ℕ, Bool, List}
use Rattle.plain_term.specs.Tree.{Trees}
use Rattle.term_walk.specs.Left.{RowStandsFor}
use Rattle.term_print.specs.declared.levels.Level.TheVariants as level
use Rattle.term_print.specs.Runs.{Gathers}
use Rattle.term_print.proofs.runs.gather_parts.Given as goal

abbrev pub invariant-loop-left : goal.invariant-loop-left
invariant-loop-left l = record {
  gathers : (c : ℕ → ℕ → Bool) (shared names : List (List ℕ)) (ts : Trees) → RowStandsFor c shared l.mem l.fn.row ts
      → Gathers c shared l.mem names (level.Parts l.fn.row l.fn.mark l.last) (level.Parts l.left l.before l.last) l.text.items ts;
}

abbrev pub decreases-loop-left : goal.decreases-loop-left
decreases-loop-left l = l.left.len
