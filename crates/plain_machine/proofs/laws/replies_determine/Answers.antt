use Rattle.plain_machine.proofs.ByLine.Determined.{run-determined}
use Rattle.plain_machine.proofs.laws.replies_determine.Goals as goal

pub returns : goal.returns
returns c = run-determined
