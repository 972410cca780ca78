use Rattle.cheney.proofs.Rooted.Begins.{has-collected}
use Rattle.cheney.proofs.laws.scanned_collections_are_whole.Goals as goal

pub returns : goal.returns
returns c = has-collected
