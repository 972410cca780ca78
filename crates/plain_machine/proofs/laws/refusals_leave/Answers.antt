use Rattle.plain_machine.proofs.ByLine.Told.{line-leaves}
use Rattle.plain_machine.proofs.laws.refusals_leave.Goals as goal

pub returns : goal.returns
returns c = line-leaves
