use Rattle.record_move.proofs.Leaving.{leaves-sweep}
use Rattle.record_move.proofs.sweeps.collections_leave_sweeps.Goals as goal

pub returns : goal.returns
returns c = leaves-sweep
