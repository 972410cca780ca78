use Rattle.process_verbs.proofs.Steps.{ready}
use Rattle.process_verbs.proofs.Moving.Living.{receives-first, receives-none}
use Rattle.process_verbs.proofs.verbs.Verbs.receive.Goals as goal

pub receive-requires-clause-ready : goal.receive-requires-clause-ready
receive-requires-clause-ready g c = ready _ c.args.self.now c.requires.holds c.requires.calls

pub returns-then-not-receive-clause-does : goal.returns-then-not-receive-clause-does
returns-then-not-receive-clause-does g c = receives-none _ _ c.requires.holds _ c.requires.sits c.args.r _ _ c.receive.ensures c.if-not-receive.true

pub returns-clause-does : goal.returns-clause-does
returns-clause-does g c = receives-first _ _ c.requires.holds _ c.requires.sits c.args.r _ _ c.receive.ensures c.if-not-receive.false
