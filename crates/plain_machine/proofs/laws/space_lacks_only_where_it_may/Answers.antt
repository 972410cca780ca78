use Rattle.plain_machine.proofs.ByLine.Lacking.{line-lack, never-else}
use Rattle.plain_machine.proofs.laws.space_lacks_only_where_it_may.Goals as goal

pub returns : goal.returns
returns c = record { only = line-lack; never = never-else }
