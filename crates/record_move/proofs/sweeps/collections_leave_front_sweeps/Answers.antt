use Rattle.record_move.proofs.Leaving.{leaves-fronts, leaves-rests}
use Rattle.record_move.proofs.sweeps.collections_leave_front_sweeps.Goals as goal

pub returns-clause-begins : goal.returns-clause-begins
returns-clause-begins c = leaves-fronts

pub returns-clause-rest : goal.returns-clause-rest
returns-clause-rest c = leaves-rests
