use Rattle.isolation.proofs.Named.Growing.{named-grown}
use Rattle.isolation.proofs.naming.growth_keeps_named_trees.Goals as goal

pub returns : goal.returns
returns c = λ names more shared extra t h. named-grown names more shared extra t h
