use Rattle.plain_machine.proofs.Properly.Living.{first-proper, run-proper}
use Rattle.plain_machine.proofs.laws.trees_stay_proper.Goals as goal

pub returns : goal.returns
returns c = record { first = first-proper; always = run-proper }
