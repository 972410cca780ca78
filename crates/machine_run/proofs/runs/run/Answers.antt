-- The options are those that the words ask for.
use Rattle.command_line.proofs.Arenas.{asked-arena}
use Rattle.machine_run.proofs.runs.run.Goals as goal

pub run_by-requires-clause-arena : goal.run_by-requires-clause-arena
run_by-requires-clause-arena g c = asked-arena _ c.in-Ok.options c.in-Ok.ensures.options
