use Rattle.std.proofs.Common.{arith}
use Rattle.plain_term.proofs.SharedLemmas.{nodes-any}
use Rattle.plain_term.specs.View.{view}
use Rattle.plain_term.proofs.measures.nodes.Goals as goal

pub returns-clause-exact : goal.returns-clause-exact
returns-clause-exact c = λ shared whole. omega (arith, c.count_nodes.ensures, nodes-any shared (view c.args.t.now) whole)
