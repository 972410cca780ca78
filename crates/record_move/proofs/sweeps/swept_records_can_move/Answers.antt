use Rattle.record_move.proofs.Room.{can-move}
use Rattle.record_move.proofs.sweeps.swept_records_can_move.Goals as goal

pub returns : goal.returns
returns c = can-move
