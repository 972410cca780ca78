use Rattle.term_build.proofs.Growing.{grows-then, built-then, free-after}
use Rattle.term_build.proofs.laws.roles_grow_one_after_the_other.Goals as goal

pub returns-clause-joined : goal.returns-clause-joined
returns-clause-joined c = grows-then

pub returns-clause-built : goal.returns-clause-built
returns-clause-built c = built-then

pub returns-clause-free : goal.returns-clause-free
returns-clause-free c = free-after
