use Rattle.isolation.proofs.Named.Doing.{done}
use Rattle.isolation.proofs.naming.what_is_done_is_named.Goals as goal

pub returns : goal.returns
returns c = λ names shared. done names shared
