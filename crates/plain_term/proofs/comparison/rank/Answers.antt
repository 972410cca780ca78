use Rattle.std.proofs.Common.{sym, ap, ◌∙◌}
use Rattle.plain_term.specs.View.{view, level}
use Rattle.plain_term.specs.Tree as plain
use Rattle.plain_term.specs.Order.{kind_rank}
use Rattle.plain_term.specs.declared.tree.Tree.TheOpen.{Tree-F}
use Rattle.plain_term.specs.declared.tree.Tree.TheVariants.{rolls-Nil}
use Rattle.plain_term.specs.declared.tree.Tree.TheFolds.{fold-roll-Tree}
use Rattle.plain_term.proofs.comparison.rank.Goals as goal

pub returns-in-Nil : goal.returns-in-Nil
returns-in-Nil c = sym (ap (λ t. kind_rank (view t)) (c.in-Nil.is ∙ sym rolls-Nil) ∙ ap kind_rank (fold-roll-Tree plain.Tree level Tree-F.Nil))
