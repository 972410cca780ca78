use Rattle.term_words.proofs.Placing.Tiles.{tiled-moved}
use Rattle.term_words.proofs.side_by_side.moved_tiles_lie_side_by_side.Goals as goal

pub returns : goal.returns
returns c = tiled-moved
