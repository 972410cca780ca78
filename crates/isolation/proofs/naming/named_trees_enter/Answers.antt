use Rattle.isolation.proofs.Named.Entering.{enters}
use Rattle.isolation.proofs.naming.named_trees_enter.Goals as goal

pub returns : goal.returns
returns c = λ names shared t. enters names shared t
