use Rattle.cheney.proofs.Rooted.Begins.{image-kept}
use Rattle.cheney.proofs.Stepping.Steps.{later-same, later-then, later-wider}
use Rattle.cheney.proofs.laws.images_last.Goals as goal

pub returns-clause-images : goal.returns-clause-images
returns-clause-images c = image-kept

pub returns-clause-same : goal.returns-clause-same
returns-clause-same c = later-same

pub returns-clause-further : goal.returns-clause-further
returns-clause-further c = later-then

pub returns-clause-wider : goal.returns-clause-wider
returns-clause-wider c = later-wider
