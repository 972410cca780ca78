use Rattle.cheney.proofs.Rooted.Begins.{write-beside}
use Rattle.cheney.proofs.laws.places_without_roles_lie_beside.Goals as goal

pub returns : goal.returns
returns c = write-beside
