use Rattle.std.proofs.Common.{refl, arith}
use Rattle.std.proofs.lemmas.Bool.{lt-ltb}
use Rattle.plain_term.specs.Tree.Tree.{Atom, Pid, Nil}
use Rattle.term_words.proofs.ByKind.Makes.{stands-atom, stands-pid, stands-nil}
use Rattle.ladder_tests.proofs.steps.immediate_of.Goals as goal

pub returns-else-k-ge-ATOMS : goal.returns-else-k-ge-ATOMS
returns-else-k-ge-ATOMS c = λ shared. record {
  tree = Atom c.in-Atom.k;
  clear = stands-atom _ shared _ _ c.in-Atom.k (omega (arith, c.if-k-ge-ATOMS.false)) c.atom.ensures;
  named = lt-ltb c.in-Atom.k _ (omega (arith, c.if-k-count.false, c.count.ensures.value));
}

pub returns-else-n-ge-PIDS : goal.returns-else-n-ge-PIDS
returns-else-n-ge-PIDS c = λ shared. record { tree = Pid c.in-Pid.n; clear = stands-pid _ shared _ _ c.in-Pid.n (omega (arith, c.if-n-ge-PIDS.false)) c.pid.ensures; named = refl }

pub returns-in-Nil : goal.returns-in-Nil
returns-in-Nil c = λ shared. record { tree = Nil; clear = stands-nil _ shared _ _ c.nil.ensures; named = refl }
