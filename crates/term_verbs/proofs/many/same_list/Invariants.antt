use Rattle.std.proofs.Common.{ℕ, ◌+◌, ◌*◌, Bool, List}
use Rattle.plain_term.specs.Tree.{Tree, same_trees}
use Rattle.plain_term.specs.Tree.Tree.{Nil}
use Rattle.term_words.specs.Stands.{Stands}
use Rattle.term_build.specs.Taken.{IsFree}
use Rattle.term_build.specs.Grows.{Built}
use Rattle.term_build.specs.Clear.{Uses}
use Rattle.plain_machine.specs.Made.{list_tree}
use Rattle.term_verbs.proofs.many.same_list.Given as goal

abbrev pub invariant-loop-i : goal.invariant-loop-i
invariant-loop-i l = record {
  uses : Uses (2 * l.i) l.initial.room l.room l.initial.mem l.mem;
  built : (c : ℕ → ℕ → Bool) (shared : List (List ℕ)) (t : Tree) → IsFree c l.initial.room.top (l.initial.room.top + 2 * l.n) → Stands c shared l.initial.mem l.w t
      → Built c l.initial.room.top (2 * l.i) l.initial.mem l.mem shared l.list (list_tree (same_trees l.i t) Nil);
}
