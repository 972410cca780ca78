use Rattle.process_verbs.proofs.Steps.{ready}
use Rattle.process_verbs.proofs.Moving.Living.{gc-does}
use Rattle.process_verbs.proofs.verbs.Verbs.collect.Goals as goal

pub collect-requires-clause-ready : goal.collect-requires-clause-ready
collect-requires-clause-ready g c = ready _ c.args.self.now c.requires.holds c.requires.calls

pub returns-clause-does : goal.returns-clause-does
returns-clause-does g c = gc-does _ c.args.self.now c.requires.holds c.args.seat c.requires.sits c.args.depth c.collect.new.self c.collect.ensures.rows
