use Rattle.isolation.proofs.Alone.{isolates}
use Rattle.isolation.proofs.laws.runs_isolate.Goals as goal

pub returns : goal.returns
returns c = isolates
