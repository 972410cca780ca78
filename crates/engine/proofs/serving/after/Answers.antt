use Rattle.std.proofs.Common.{sym, ap}
use Rattle.engine.specs.Serving.{turn_of}
use Rattle.engine.proofs.serving.after.Goals as goal

pub returns-in-Next : goal.returns-in-Next
returns-in-Next c = ap turn_of (sym c.in-Next.is)

pub returns-in-Quit : goal.returns-in-Quit
returns-in-Quit c = ap turn_of (sym c.in-Quit.is)

pub returns-in-SinkFault : goal.returns-in-SinkFault
returns-in-SinkFault c = ap turn_of (sym c.in-SinkFault.is)
