use Rattle.process_verbs.proofs.Steps.{ready}
use Rattle.process_verbs.proofs.Bringing.Gaining.{word-puts}
use Rattle.process_verbs.proofs.verbs.Verbs.put.Goals as goal

pub put-requires-clause-ready : goal.put-requires-clause-ready
put-requires-clause-ready g c = ready g.H.Heaps.meaning c.args.self.now c.requires.holds c.requires.calls

pub returns : goal.returns
returns g c =
    word-puts g.H.Heaps.meaning c.args.self.now c.requires.holds c.args.seat c.requires.sits c.args.r c.args.w c.put.new.self c.put.ensures c.requires.held
