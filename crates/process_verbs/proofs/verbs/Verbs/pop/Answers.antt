use Rattle.process_verbs.proofs.Steps.{ready}
use Rattle.process_verbs.proofs.Moving.Living.{pops-first, pops-none}
use Rattle.process_verbs.proofs.verbs.Verbs.pop.Goals as goal

pub pop-requires-clause-ready : goal.pop-requires-clause-ready
pop-requires-clause-ready g c = ready _ c.args.self.now c.requires.holds c.requires.calls

pub returns-then-not-pop-clause-does : goal.returns-then-not-pop-clause-does
returns-then-not-pop-clause-does g c = pops-none _ _ c.requires.holds _ c.requires.sits c.args.r _ _ c.pop.ensures c.if-not-pop.true

pub returns-clause-does : goal.returns-clause-does
returns-clause-does g c = pops-first _ _ c.requires.holds _ c.requires.sits c.args.r _ _ c.pop.ensures c.if-not-pop.false
