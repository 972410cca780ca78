use Rattle.plain_machine.proofs.ByLine.Printing.{only-prints}
use Rattle.plain_machine.proofs.laws.printing_leaves.Goals as goal

pub returns : goal.returns
returns c = only-prints
