use Rattle.cheney.proofs.Rooted.Begins.{begins}
use Rattle.cheney.proofs.laws.ready_collections_run.Goals as goal

pub returns : goal.returns
returns c = begins
