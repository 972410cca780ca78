use Rattle.isolation.proofs.Named.Growing.{proper-known}
use Rattle.isolation.proofs.naming.proper_trees_are_known.Goals as goal

pub returns : goal.returns
returns c = λ names shared t h. proper-known names shared t h
