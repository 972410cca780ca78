use Rattle.process_verbs.proofs.Steps.{ready}
use Rattle.process_verbs.proofs.Moving.Living.{exit-does}
use Rattle.process_verbs.proofs.verbs.Verbs.exit.Goals as goal

pub exit-requires-clause-ready : goal.exit-requires-clause-ready
exit-requires-clause-ready g c = ready _ c.args.self.now c.requires.holds c.requires.calls

pub returns-clause-does : goal.returns-clause-does
returns-clause-does g c = exit-does _ c.args.self.now c.requires.holds c.args.seat c.requires.sits c.exit.new.self c.exit.ensures
