use Rattle.std.proofs.Common.{sym, ◌∙◌}
use Rattle.plain_term.proofs.SharedLemmas.{order-any}
use Rattle.plain_term.specs.View.{view}
use Rattle.plain_term.proofs.comparison.order.Goals as goal

pub returns-clause-exact : goal.returns-clause-exact
returns-clause-exact c = λ shared a b. c.compare.ensures ∙ sym (order-any _ shared (view c.args.a.now) (view c.args.b.now) a b)
