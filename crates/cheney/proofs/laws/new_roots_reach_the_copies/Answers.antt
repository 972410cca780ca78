use Rattle.cheney.proofs.Rooted.Begins.{has-composed}
use Rattle.cheney.proofs.laws.new_roots_reach_the_copies.Goals as goal

pub returns : goal.returns
returns c = has-composed
