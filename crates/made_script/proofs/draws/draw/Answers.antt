use Rattle.std.proofs.Common.{rules}
use Rattle.made_script.specs.Draws.{draw}
use Rattle.made_script.proofs.draws.draw.Goals as goal

pub returns-clause-value : goal.returns-clause-value
unfolding draw
returns-clause-value c = search rules

pub returns-clause-rest : goal.returns-clause-rest
unfolding draw
returns-clause-rest c = search rules
