use Rattle.plain_machine.proofs.ByLine.Runs.{run-append}
use Rattle.plain_machine.proofs.laws.runs_join.Goals as goal

pub returns : goal.returns
returns c = run-append
