use Rattle.cheney.proofs.Rooted.Begins.{beside-runs, image-beside}
use Rattle.cheney.proofs.laws.writes_beside_keep_collections.Goals as goal

pub returns-clause-runs : goal.returns-clause-runs
returns-clause-runs c = beside-runs

pub returns-clause-images : goal.returns-clause-images
returns-clause-images c = image-beside
