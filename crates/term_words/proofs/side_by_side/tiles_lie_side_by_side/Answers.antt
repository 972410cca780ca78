use Rattle.term_words.proofs.Placing.Tiles.{tiled-object, tiled-record, tiled-append, tiled-same}
use Rattle.term_words.proofs.side_by_side.tiles_lie_side_by_side.Goals as goal

pub returns-clause-object : goal.returns-clause-object
returns-clause-object c = tiled-object

pub returns-clause-of_record : goal.returns-clause-of_record
returns-clause-of_record c = tiled-record

pub returns-clause-joined : goal.returns-clause-joined
returns-clause-joined c = tiled-append

pub returns-clause-same : goal.returns-clause-same
returns-clause-same c = tiled-same
