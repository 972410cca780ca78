-- The number of a faulty command line.
use Rattle.std.proofs.Common.{sym, ap}
use Rattle.machine_run.specs.Statuses.{status_number}
use Rattle.machine_run.proofs.statuses.number.Goals as goal

pub returns-in-Usage : goal.returns-in-Usage
returns-in-Usage c = ap status_number (sym c.in-Usage.is)
