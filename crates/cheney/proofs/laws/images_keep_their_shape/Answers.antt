use Rattle.cheney.proofs.Rooted.Begins.{has-shape}
use Rattle.cheney.proofs.laws.images_keep_their_shape.Goals as goal

pub returns : goal.returns
returns c = has-shape
