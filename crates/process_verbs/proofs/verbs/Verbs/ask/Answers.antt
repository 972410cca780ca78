use Rattle.process_verbs.proofs.Steps.{ready}
use Rattle.process_verbs.proofs.verbs.Verbs.ask.Goals as goal

pub make_room-requires-clause-ready : goal.make_room-requires-clause-ready
make_room-requires-clause-ready g c = ready g.H.Heaps.meaning c.args.self.now c.requires.holds c.requires.calls
